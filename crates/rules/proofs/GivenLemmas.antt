-- Variables that are given back: the first that still has something is the finding.
use Rattle.std.proofs.Common.{◌≡◌, ℕ, Bool, true, false, List, [], ◌∷◌, ◌++◌, Option, None, Some, if◌then◌else◌, refl}
use Rattle.source.specs.declared.place.Place.{Place}
use Rattle.program.specs.Methods.{MethodModel}
use Rattle.program.specs.declared.statement.Mention.{Mention}
use Rattle.rules.specs.Checks.{first_kept}
use Rattle.rules.specs.Mentions.{given_back, is_kept}
use Rattle.rules.specs.Outcomes.{Check, Pair, Step, Fails, after_checks, breach_at, refuse_if}
use Rattle.rules.specs.declared.breach.Breach.{Breach}
use Rattle.rules.specs.declared.breach.Reason.TheVariants.{StillOwned}
use Rattle.rows.specs.declared.row.Leaf.{Leaf}

-- the breach for the first variable that still has something, if there is one, or else the outcome of the checks after it
abbrev pub given : Place → Option ℕ → List Check → List Pair → Step Pair Breach
given place None more after = after_checks more after
given place (Some v) more after = Fails (breach_at place (StillOwned record { 0 = v }))

one : (place : Place) (b : Bool) (v : ℕ) (rest : Option ℕ) (checks more : List Check) (after : List Pair)
    → after_checks (checks ++ more) after ≡ given place rest more after → after_checks (refuse_if b (breach_at place (StillOwned record { 0 = v })) ∷ (checks ++ more)) after ≡ given place (if b then Some v else rest) more after
one place true v rest checks more after h = refl
one place false v rest checks more after h = h

pub given_is : (m : MethodModel) (row : List Leaf) (place : Place) (spared : Option Mention) (variables : List ℕ) (more : List Check) (after : List Pair)
    → after_checks (given_back m row place spared variables ++ more) after ≡ given place (first_kept m row spared variables) more after
given_is m row place spared [] more after = refl
given_is m row place spared (v ∷ variables) more after =
    one place (is_kept m row spared v) v (first_kept m row spared variables) (given_back m row place spared variables) more after (given_is m row place spared variables more after)
