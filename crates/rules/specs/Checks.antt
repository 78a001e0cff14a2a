-- The results of checks, in terms of the rule table.
use Rattle.std.specs.Prelude.{◌≡◌, ◌<◌, ◌≤◌, ℕ, true, false, length, IfSome, List, [], ◌∷◌, ◌++◌, if◌then◌else◌}
use Rattle.std.specs.Prelude.{Option, None, Some, Result, Ok, Err}
use Rattle.std.specs.BTreeSet.{BTreeSet, contains}
use Rattle.std.specs.Ordering.{nat_cmp}
use Rattle.program.specs.Lists.{is_among}
use Rattle.program.specs.Methods.{MethodModel, VariableModel}
use Rattle.program.specs.Scopes.{outer_of}
use Rattle.program.specs.declared.number.VarId.{VarId}
use Rattle.program.specs.declared.statement.Mention.{Mention}
use Rattle.rules.specs.Mentions.{is_kept}
use Rattle.rules.specs.Outcomes.{Check, Pair, after_checks}
use Rattle.rules.specs.declared.breach.Breach.{Breach}
use Rattle.rows.specs.declared.row.Leaf.{Leaf}

-- the check that has this result
abbrev pub check_model : Result (Unit {0}) Breach → Check
check_model (Ok x) = None
check_model (Err breach) = Some breach

-- the first of these variables that still has something, except the one that is given
abbrev pub first_kept : MethodModel → List Leaf → Option Mention → List ℕ → Option ℕ
first_kept m row given [] = None
first_kept m row given (v ∷ variables) = if is_kept m row given v then Some v else first_kept m row given variables

-- this variable, if it still has something
abbrev pub if_kept : MethodModel → List Leaf → Option Mention → ℕ → Option ℕ
if_kept m row given v = if is_kept m row given v then Some v else None

-- the first option, or the other one if that is none
abbrev pub kept_or : Option ℕ → Option ℕ → Option ℕ
kept_or None other = other
kept_or (Some v) other = Some v

-- the first variable of a method that still has something, except the one that is given
pub record IsFirstKept (m : MethodModel) (row : List Leaf) (given : Option Mention) (first : ℕ) : Type 0 where
  pub kept : is_kept m row given first ≡ true
  pub none : (v : ℕ) → v < first → is_kept m row given v ≡ false

-- The variable before this one in scope was declared before it, and not before the first one if this one was declared after that. If
-- there is none before this one in scope, this one was not declared after the first one.
abbrev pub LeadsTo : (first variable : ℕ) → Option VarId → Type 0
LeadsTo first variable None = variable ≤ first
LeadsTo first variable (Some outer) = (outer.0 < variable) × (first < variable → first ≤ outer.0)

-- each variable up to the last one leads to the first one
pub record AllLeadTo (variables : List VariableModel) (first last : ℕ) : Type 0 where
  pub there : last < length variables
  pub each : (v : ℕ) → v ≤ last → LeadsTo first v (outer_of variables (record { 0 = v }))

-- `first` is plainly among the variables in scope up to `last`, without those in scope up to `outer`
abbrev pub IsPlain : List VariableModel → ℕ → (outer last : Option VarId) → Type 0
IsPlain variables first outer None = ⊥
IsPlain variables first outer (Some last) =
    IfSome outer (λ o. o.0 < first) × ((first ≤ last.0) × AllLeadTo variables first last.0)

-- the set has exactly these numbers
abbrev pub AreIn : List ℕ → BTreeSet ℕ → Type 0
AreIn listed set = (q : ℕ) → contains nat_cmp set q ≡ is_among listed q

-- The result replaces these checks, whatever checks follow.
pub record StandsFor (answer : Result (Unit {0}) Breach) (checks : List Check) : Type 0 where
  pub all : (more : List Check) (after : List Pair)
      → after_checks (checks ++ more) after ≡ after_checks (check_model answer ∷ more) after

-- the result is that of the check
abbrev pub AnswersCheck : Result (Unit {0}) Breach → Check → Type 0
AnswersCheck answer check = check_model answer ≡ check
