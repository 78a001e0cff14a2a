-- A list in which an item was written at each of some indices.
use Rattle.std.proofs.Common.{◌≡◌, ℕ, suc, ◌<◌, List, [], ◌∷◌, length, get_or, sym, refl, ap, ◌∙◌, subst, arith, ⊎_elim}
use Rattle.std.specs.Prelude.{Contains}
use Rattle.std.specs.Global.{Vec}
use Rattle.std.specs.Vec.{with_items}
use Rattle.std.proofs.Math.ListN.{set, length-set}
use Rattle.std.proofs.lemmas.List.{get_or-set_other, get_or-set_same, with_items_is}
use Rattle.std.proofs.lemmas.Bool.{cases_eq}
use Rattle.contracts.specs.Searches.{set_at_each}
use Rattle.contracts.proofs.ListLemmas.{contains_either}

pub written_length : {A : Type 0} (xs : List A) (vs : List ℕ) (x : A) → length (set_at_each xs vs x) ≡ length xs
written_length xs [] x = refl
written_length xs (v ∷ vs) x = written_length (set xs v x) vs x ∙ length-set xs v x

-- what is written at an index stays there
written_stays : {A : Type 0} (xs : List A) (vs : List ℕ) (x d : A) (v : ℕ) → v < length xs → get_or xs v d ≡ x → get_or (set_at_each xs vs x) v d ≡ x
written_stays xs [] x d v lt is = is
written_stays xs (u ∷ us) x d v lt is = written_stays (set xs u x) us x d v (let e = length-set xs u x in omega (arith, lt, e))
    (⊎_elim
    (λ same. subst (λ k. get_or (set xs k x) v d ≡ x) same (get_or-set_same xs v x d lt))
    (λ other. get_or-set_other xs u v x d other ∙ is)
    (cases_eq v u))

pub written_at : {A : Type 0} (xs : List A) (vs : List ℕ) (x d : A) (v : ℕ) → v < length xs → Contains vs v → get_or (set_at_each xs vs x) v d ≡ x
written_at xs [] x d v lt c = let none = c.1 in absurd (omega (arith, none))
written_at xs (u ∷ us) x d v lt c = contains_either (get_or (set_at_each (set xs u x) us x) v d ≡ x) u v us c
    (λ same. written_stays (set xs u x) us x d v (let e = length-set xs u x in omega (arith, lt, e)) (subst (λ k. get_or (set xs k x) v d ≡ x) (sym same) (get_or-set_same xs v x d lt)))
    (λ later. written_at (set xs u x) us x d v (let e = length-set xs u x in omega (arith, lt, e)) later)

pub written_other : {A : Type 0} (xs : List A) (vs : List ℕ) (x d : A) (v : ℕ) → (Contains vs v → ⊥) → get_or (set_at_each xs vs x) v d ≡ get_or xs v d
written_other xs [] x d v none = refl
written_other xs (u ∷ us) x d v none =
    written_other (set xs u x) us x d v (λ later. none (let lt = later.1 in (suc later.0, omega (arith, lt), later.2)))
    ∙ get_or-set_other xs u v x d (λ same. none (0, omega arith, sym same))

-- a vector in which an item was written at each of the indices
pub vec_written : {A : Type 0} (v : Vec A) (now ws : List A) (indices part : List ℕ) (x : A) → ws ≡ set_at_each now indices x → now ≡ v.items → indices ≡ part → (with_items v ws).items ≡ set_at_each v.items part x
vec_written v now ws indices part x is same parts =
    with_items_is v ws (ap length is ∙ written_length now indices x ∙ ap length same ∙ sym v.ok.0) ∙ is
    ∙ ap (λ l. set_at_each l indices x) same ∙ ap (λ l. set_at_each v.items l x) parts
