-- The variables in scope, and the surroundings of a statement, as the code has them.
use Rattle.std.specs.Prelude.{◌≡◌, ℕ, ◌+◌, min, List, Result, OnOk}
use Rattle.declarations.specs.declared.mistake.Mistake.{Mistake}
use Rattle.names.specs.Bodies as bodies
use Rattle.declarations.specs.Mistakes.{Adds}
use Rattle.declarations.specs.Scopes.{IsScope, AreMethods}
use Rattle.tables.specs.Scoped.{entries_of, declared_in}
use Rattle.names.specs.Values.{Inside}
use Rattle.names.specs.Variables as model
use Rattle.names.specs.Variables.{NameFrame, CheckedPiece}
use Rattle.declarations.specs.Program.{ProgramText}
use Rattle.names.specs.declared.surroundings.NameContext.{NameContext}
use Rattle.names.specs.declared.surroundings.Surroundings.{Surroundings}
use Rattle.program.specs.declared.limits.TheConstants.{MOST_VARIABLES}
use Rattle.names.specs.declared.variables.ScopeVariable.{ScopeVariable}
use Rattle.names.specs.declared.variables.ScopeVariables.{ScopeVariables}

-- a variable without its memory
abbrev pub variable_model : ScopeVariable → model.ScopeVariable
variable_model v = record { name = v.name; ty = v.ty }

-- a variable with its memory
abbrev pub variable_of : model.ScopeVariable → ScopeVariable
variable_of v = record { name = v.name; ty = v.ty }

-- These are the variables in scope. Those of the exchange heap are counted up to one past the limit.
pub record IsNameFrame (text : List ℕ) (f : NameFrame) (v : ScopeVariables) : Type 0 where
  pub names : entries_of v.names ≡ declared_in text (λ x. x.name) variable_of f.variables
  pub heap : v.heap ≡ min f.heap (MOST_VARIABLES + 1)

-- the mistakes that a turn adds are added, and its frame is in scope now
pub record Turned (text : List ℕ) (old new : List Mistake) (variables : ScopeVariables) (t : CheckedPiece) : Type 0 where
  pub found : Adds old new t.found
  pub frame : IsNameFrame text t.frame variables

-- the surroundings of a statement
pub record AreSurroundings (m : bodies.Surroundings) (s : Surroundings) : Type 0 where
  pub scope : IsScope m.program s.scope.now
  pub class : AreMethods m.program.text m.class s.methods.now
  pub result : s.result ≡ m.result
  pub breaks : s.breaks ≡ m.breaks
  pub continues : s.continues ≡ m.continues

-- For all surroundings and all variables in scope: the mistakes of a turn are added, and its frame is in scope afterwards.
abbrev pub Turns : {X E : Type 0} → Surroundings → (before behind : ScopeVariables) → (old new : List Mistake) → Result X E →
    (bodies.Surroundings → NameFrame → CheckedPiece) → Type 0
Turns around before behind old new answer turn =
    (m : bodies.Surroundings) (f : NameFrame) → AreSurroundings m around → IsNameFrame m.program.text f before
    → OnOk answer (Turned m.program.text old new behind (turn m f))

-- for all of these, these mistakes are added
abbrev pub AddsAround : {X E : Type 0} → Surroundings → ScopeVariables → (old new : List Mistake) → Result X E →
    (Inside → List Mistake) → Type 0
AddsAround around variables old new answer more =
    (m : bodies.Surroundings) (f : NameFrame) → AreSurroundings m around → IsNameFrame m.program.text f variables
    → OnOk answer (Adds old new (more (bodies.inside_of m f)))

-- the program and the frame are what names can mean
pub record IsContext (p : ProgramText) (f : NameFrame) (c : NameContext) : Type 0 where
  pub scope : IsScope p c.scope.now
  pub frame : IsNameFrame p.text f c.variables.now
