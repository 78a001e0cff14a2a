-- The terms of a sum, while its factors are judged from the left.
use Rattle.std.specs.Prelude.{◌≡◌, ◌++◌, List, [], ◌∷◌, Option, Some, None}
use Rattle.declarations.specs.declared.mistake.Mistake.{Mistake}
use Rattle.tree.specs.Factors.{FactorTree}
use Rattle.tree.specs.declared.expression.FactorOperator.{FactorOperator}
use Rattle.tree.specs.declared.expression.FactorOperator.TheVariants as operators
use Rattle.names.specs.Expressions.{InScope, type_of, place_of, expression_mistakes}
use Rattle.declarations.specs.Mistakes.{Adds}
use Rattle.names.specs.Frames.{IsNameFrame}
use Rattle.names.specs.Operands.{in_frame}
use Rattle.declarations.specs.Program.{ProgramText}
use Rattle.declarations.specs.Scopes.{IsScope}
use Rattle.names.specs.Shapes.{Shape, Joined, Sum, shape}
use Rattle.names.specs.Variables.{NameFrame}
use Rattle.names.specs.declared.operands.Operand.{Operand}
use Rattle.declarations.specs.declared.scope.Scope.{Scope}
use Rattle.names.specs.declared.terms.Terms.{Terms}
use Rattle.names.specs.declared.variables.ScopeVariables.{ScopeVariables}

-- the terms before the last one, joined, if there are any, and the last one
pub record TermShapes : Type 0 where
  pub before : Option Shape
  pub last : Shape

-- the terms of a sum with one factor
abbrev pub first_term : Shape → TermShapes
first_term e = record { before = None; last = e }

-- a term joined to those before it
abbrev pub behind : Option Shape → Shape → Shape
behind None last = last
behind (Some before) last = Joined Sum before last

-- all terms as one shape
abbrev pub whole : TermShapes → Shape
whole t = behind t.before t.last

-- the terms with one more factor
abbrev pub terms_with_factor : TermShapes → FactorOperator → Shape → TermShapes
terms_with_factor t operators.Times e = record { before = t.before; last = Joined Sum t.last e }
terms_with_factor t (operators.Sum o) e = record { before = Some (whole t); last = e }

abbrev pub with_factor : TermShapes → FactorTree → TermShapes
with_factor t f = terms_with_factor t f.0 (shape f.1)

-- the terms with all of these factors
abbrev pub with_factors : TermShapes → List FactorTree → TermShapes
with_factors t [] = t
with_factors t (f ∷ fs) = with_factors (with_factor t f) fs

-- the terms before the last one have this type and this place
abbrev pub IsBefore : InScope → Option Shape → Option Operand → Type 0
IsBefore s None None = Unit {0}
IsBefore s (Some e) (Some o) = (o.ty ≡ type_of s e) × (o.place ≡ place_of e)
IsBefore s _ _ = ⊥

-- the mistakes in them
abbrev pub before_mistakes : InScope → Option Shape → List Mistake
before_mistakes s None = []
before_mistakes s (Some e) = expression_mistakes s e

-- the terms have these types and places, and the mistakes in them were added
pub record IsJudgedTerms (s : InScope) (t : TermShapes) (old new : List Mistake) (terms : Terms) : Type 0 where
  pub before : IsBefore s t.before terms.before
  pub ty : terms.last.ty ≡ type_of s t.last
  pub place : terms.last.place ≡ place_of t.last
  pub found : Adds old new (before_mistakes s t.before ++ expression_mistakes s t.last)

-- the same, for the program and the variables in scope
pub record JudgesTerms (scope : Scope) (variables : ScopeVariables) (t : TermShapes) (old new : List Mistake) (terms : Terms) : Type 0 where
  pub all : (p : ProgramText) (f : NameFrame) → IsScope p scope → IsNameFrame p.text f variables
      → IsJudgedTerms (in_frame p f) t old new terms
