-- Cases in which the row alone shows that no variable still has something.
use Rattle.std.proofs.Common.{◌≡◌, ℕ, ◌<◌, ◌≤◌, Bool, true, false, not, ◌&&◌, List, [], ◌∷◌, length, Option, None, Some, if◌then◌else◌, refl, sym, ap, ◌∙◌, arith, ⊎_elim, slice_get, slice_index_or}
use Rattle.std.proofs.lemmas.Bool.{cases_lt}
use Rattle.std.proofs.lemmas.Option.{slice_get-get_or, slice_get_past}
use Rattle.program.specs.Methods.{MethodModel}
use Rattle.program.specs.declared.statement.Mention.{Mention}
use Rattle.rules.specs.Checks.{first_kept}
use Rattle.rows.specs.Leaves.{is_something}
use Rattle.rules.specs.Mentions.{is_kept, is_lent, is_named}
use Rattle.rows.specs.Rows.{leaf_or_nothing, is_owned}
use Rattle.rows.specs.declared.row.Leaf.{Leaf}

none_of : (a b : Bool) → (a && (b && false)) ≡ false
none_of true true = refl
none_of true false = refl
none_of false b = refl

module _ (m : MethodModel) (row : List Leaf) (spared : Option Mention) where
  -- a variable that has nothing is not kept
  empty : (v : ℕ) → is_owned row v ≡ false → is_kept m row spared v ≡ false
  empty v none = ap (λ b. not (is_named spared v) && (not (is_lent m v) && b)) none ∙ none_of (not (is_named spared v)) (not (is_lent m v))

  -- so a variable whose leaf is nothing is not kept
  pub nothing_there : (leaves : List Leaf) (v : ℕ) (d : Leaf) → leaves ≡ row → v < length leaves → is_something (slice_index_or leaves v d) ≡ false → is_kept m row spared v ≡ false
  nothing_there leaves v d same lt none = empty v (ap (λ l. is_something (leaf_or_nothing (slice_get l v))) (sym same) ∙ ap (λ o. is_something (leaf_or_nothing o)) (slice_get-get_or leaves v d lt) ∙ none)

  -- nor is one past the end of the row
  pub none_kept : (done : ℕ) → length row ≤ done → ((v : ℕ) → v < done → is_kept m row spared v ≡ false) → (v : ℕ) → is_kept m row spared v ≡ false
  none_kept done all below v =
      ⊎_elim (λ lt. below v lt) (λ le. empty v (ap (λ o. is_something (leaf_or_nothing o)) (slice_get_past row v (omega (arith, le, all))))) (cases_lt v done)

  -- if no variable is kept, there is no first kept one
  pub first_none : ((v : ℕ) → is_kept m row spared v ≡ false) → (variables : List ℕ) → None ≡ first_kept m row spared variables
  first_none none [] = refl
  first_none none (v ∷ variables) = first_none none variables ∙ ap (λ (b : Bool). if b then Some v else first_kept m row spared variables) (sym (none v))
