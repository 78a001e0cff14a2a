-- What the parts of an expression are judged to be.
use Rattle.std.specs.Prelude.{◌≡◌, ◌++◌, ◌||◌, List, map, Result, OnOk, if◌then◌else◌}
use Rattle.declarations.specs.declared.mistake.Mistake.{Mistake}
use Rattle.source.specs.declared.place.Place.{Place}
use Rattle.names.specs.Expressions.{InScope, type_of, place_of, expression_mistakes, whole_mistakes}
use Rattle.names.specs.Expressions.{joined_type, left_asked, right_asked, signed_type, sign_asked}
use Rattle.declarations.specs.Mistakes.{Adds}
use Rattle.names.specs.Frames.{IsContext, IsNameFrame}
use Rattle.declarations.specs.Types.{is_unknown}
use Rattle.declarations.specs.Program.{ProgramText}
use Rattle.declarations.specs.Scopes.{IsScope}
use Rattle.names.specs.Shapes.{Shape, Joint, shape}
use Rattle.names.specs.Variables.{NameFrame}
use Rattle.declarations.specs.declared.value_type.ValueType.TheVariants as ty
use Rattle.tree.specs.ExpressionTrees.{expression_tree}
use Rattle.tree.specs.declared.expression.Expression.{Expression}
use Rattle.tree.specs.declared.expression.PrefixOperator.{PrefixOperator}
use Rattle.names.specs.declared.operands.Operand.{Operand}
use Rattle.names.specs.declared.surroundings.NameContext.{NameContext}
use Rattle.declarations.specs.declared.scope.Scope.{Scope}
use Rattle.names.specs.declared.variables.ScopeVariables.{ScopeVariables}

-- what a program and the variables of a frame bring into scope
abbrev pub in_frame : ProgramText → NameFrame → InScope
in_frame p f = record { program = p; variables = f.variables }

-- the shapes of expressions
abbrev pub shapes_of : List Expression → List Shape
shapes_of es = map shape (map expression_tree es)

-- for the program and the variables in scope, these mistakes are added
abbrev pub AddsIn : {X E : Type 0} → Scope → ScopeVariables → (old new : List Mistake) → Result X E → (InScope → List Mistake) → Type 0
AddsIn scope variables old new answer more =
    (p : ProgramText) (f : NameFrame) → IsScope p scope → IsNameFrame p.text f variables → OnOk answer (Adds old new (more (in_frame p f)))

-- the same for a context
abbrev pub AddsHere : {X E : Type 0} → NameContext → (old new : List Mistake) → Result X E → (InScope → List Mistake) → Type 0
AddsHere context old new answer more =
    (p : ProgramText) (f : NameFrame) → IsContext p f context → OnOk answer (Adds old new (more (in_frame p f)))

-- the operand has the type and the place of this expression, and the mistakes in it were added
pub record IsOperand (s : InScope) (e : Shape) (old new : List Mistake) (o : Operand) : Type 0 where
  pub ty : o.ty ≡ type_of s e
  pub place : o.place ≡ place_of e
  pub found : Adds old new (expression_mistakes s e)

-- the same for the whole of a value, an argument or a returned value
pub record IsJudgedWhole (s : InScope) (e : Shape) (old new : List Mistake) (o : Operand) : Type 0 where
  pub ty : o.ty ≡ type_of s e
  pub place : o.place ≡ place_of e
  pub found : Adds old new (whole_mistakes s e)

-- the same, for the program and the variables in scope
pub record Judges (scope : Scope) (variables : ScopeVariables) (e : Shape) (old new : List Mistake) (o : Operand) : Type 0 where
  pub all : (p : ProgramText) (f : NameFrame) → IsScope p scope → IsNameFrame p.text f variables → IsOperand (in_frame p f) e old new o

pub record JudgesWhole (scope : Scope) (variables : ScopeVariables) (e : Shape) (old new : List Mistake) (o : Operand) : Type 0 where
  pub all : (p : ProgramText) (f : NameFrame) → IsScope p scope → IsNameFrame p.text f variables → IsJudgedWhole (in_frame p f) e old new o

-- the operand is these two, joined
pub record IsJoined (joint : Joint) (left right : Operand) (old new : List Mistake) (o : Operand) : Type 0 where
  pub ty : o.ty ≡ (if is_unknown left.ty || is_unknown right.ty then ty.Unknown else joined_type joint)
  pub place : o.place ≡ left.place
  pub found : Adds old new (left_asked joint left.ty left.place ++ right_asked joint left.ty right.ty right.place)

-- the operand is this one with a sign before it
pub record IsSigned (sign : PrefixOperator) (place : Place) (inner : Operand) (old new : List Mistake) (o : Operand) : Type 0 where
  pub ty : o.ty ≡ (if is_unknown inner.ty then ty.Unknown else signed_type sign)
  pub at : o.place ≡ place
  pub found : Adds old new (sign_asked sign inner.ty inner.place)
