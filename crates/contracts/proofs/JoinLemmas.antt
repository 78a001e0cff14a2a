-- Two graphs as one.
use Rattle.std.proofs.Common.{◌≡◌, ℕ, zero, suc, ◌<◌, List, [], ◌∷◌, ◌++◌, length, sym, refl, ap, ◌∙◌, subst, arith}
use Rattle.std.specs.Prelude.{All}
use Rattle.std.proofs.lemmas.List.Elements.{All-append}
use mathlib.Core.List.{append-nil}
use Rattle.contracts.specs.Graphs.{InRange, group_at}
use Rattle.contracts.specs.Reached.{union}

pub joined_row : (a b : List (List ℕ)) (v : ℕ) → group_at (union a b) v ≡ group_at a v ++ group_at b v
joined_row [] b v = refl
joined_row (r ∷ rs) [] v = sym (append-nil (group_at (r ∷ rs) v))
joined_row (r ∷ rs) (o ∷ os) zero = refl
joined_row (r ∷ rs) (o ∷ os) (suc v) = joined_row rs os v

pub joined_length : (a b : List (List ℕ)) → length b ≡ length a → length (union a b) ≡ length a
joined_length [] b same = same
joined_length (r ∷ rs) [] same = refl
joined_length (r ∷ rs) (o ∷ os) same = ap suc (joined_length rs os (omega (arith, same)))

-- a group of one of them stays within both
pub row_within : (graph : List (List ℕ)) (group : List ℕ) (n v : ℕ) → InRange graph → length graph ≡ n → group ≡ group_at graph v → All (λ w. w < n) group
row_within graph group n v range same is =
    subst (All (λ w. w < n)) (sym is) (subst (λ k. All (λ w. w < k) (group_at graph v)) same (range v))

pub joined_range : (a b : List (List ℕ)) → length b ≡ length a → InRange a → InRange b → InRange (union a b)
joined_range a b same in_a in_b v =
    let n = length (union a b) in
    let long = joined_length a b same in
    subst (All (λ w. w < n)) (sym (joined_row a b v))
    (All-append (λ w. w < n) (group_at a v) (group_at b v) (row_within a (group_at a v) n v in_a (sym long) refl) (row_within b (group_at b v) n v in_b (same ∙ sym long) refl))
