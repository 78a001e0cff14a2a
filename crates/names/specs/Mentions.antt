-- What is judged of the variables in expressions and targets.
use Rattle.std.specs.Prelude.{◌≡◌, ℕ, List, [], ◌∷◌, Option, is_some, if◌then◌else◌}
use Rattle.source.specs.declared.token.Span.{Span}
use Rattle.declarations.specs.declared.mistake.Mistake.{Mistake}
use Rattle.declarations.specs.declared.mistake.Mistake.TheVariants.{Unknown}
use Rattle.declarations.specs.declared.mistake.NameSort.TheVariants as sort
use Rattle.names.specs.Expressions.{InScope}
use Rattle.declarations.specs.Mistakes.{Adds}
use Rattle.names.specs.Frames.{IsNameFrame}
use Rattle.names.specs.Operands.{in_frame}
use Rattle.declarations.specs.Program.{ProgramText}
use Rattle.declarations.specs.Scopes.{IsScope}
use Rattle.names.specs.Variables.{NameFrame}
use Rattle.declarations.specs.declared.value_type.ValueType.{ValueType}
use Rattle.declarations.specs.declared.scope.Scope.{Scope}
use Rattle.names.specs.declared.variables.ScopeVariables.{ScopeVariables}

-- a field that the struct at this index lacks, unless one was found
abbrev pub unknown_field : {A : Type 0} → Option A → (index : ℕ) → Span → List Mistake
unknown_field named index field = if is_some named then [] else Unknown field (sort.Field index) ∷ []

-- it is of this type, and these mistakes were added
pub record IsGiven (is : ValueType) (more : List Mistake) (old new : List Mistake) (k : ValueType) : Type 0 where
  pub ty : k ≡ is
  pub found : Adds old new more

-- the same, for all variables in scope of the program
pub record GivesIn (scope : Scope) (ty : InScope → ValueType) (more : InScope → List Mistake) (old new : List Mistake)
    (k : ValueType) : Type 0 where
  pub all : (s : InScope) → IsScope s.program scope → IsGiven (ty s) (more s) old new k

-- the same, for the program and the variables in scope
pub record GivesOperand (scope : Scope) (variables : ScopeVariables) (ty : InScope → ValueType) (more : InScope → List Mistake)
    (old new : List Mistake) (k : ValueType) : Type 0 where
  pub all : (p : ProgramText) (f : NameFrame) → IsScope p scope → IsNameFrame p.text f variables
      → IsGiven (ty (in_frame p f)) (more (in_frame p f)) old new k
