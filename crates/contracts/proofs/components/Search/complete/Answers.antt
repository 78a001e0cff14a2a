use Rattle.std.proofs.Common.{◌≡◌, ◌++◌, ◌∷◌, [], ◌∙◌, ◌-◌, ℕ, List, length, sym, ap, subst, arith, ⊎_elim}
use Rattle.std.specs.Prelude.{Contains, slice_get}
use Rattle.std.proofs.lemmas.Bool.{cases_lt}
use Rattle.std.proofs.lemmas.List.{nil_from_length}
use Rattle.std.proofs.lemmas.List.Elements.{Contains-push}
use Rattle.contracts.specs.Searches.{AreRising}
use Rattle.contracts.proofs.RisingLemmas.{ends_in, none_in_end, rising_last}
use Rattle.contracts.proofs.components.Search.complete.Goals as goal
use Rattle.contracts.proofs.components.Search.complete.Goals.{In-Some}

-- the bound that the code reads is the last one
last_is : (c : In-Some) → (rest : List ℕ) × (c.components.self.bounds.items ≡ rest ++ c.in-Some.bound ∷ [])
last_is c = ends_in c.components.self.bounds.items c.in-Some.bound
    (sym (c.in-Some.ensures ∙ c.last.ensures.value ∙ ap (λ (l : List ℕ). slice_get l (length l - 1)) c.deref.ensures.value))

pub next_end-requires : goal.next_end-requires
next_end-requires c =
    let search = c.components.invariant.kept.search in
    let last = last_is c in
    record {
      last = λ b is. rising_last last.0 c.in-Some.bound b (subst AreRising last.1 search.bounds_rise) (subst (λ l. Contains l b) last.1 is);
      rise = search.arcs_rise;
    }

pub complete_last-requires-clause-last : goal.complete_last-requires-clause-last
complete_last-requires-clause-last c = last_is (goal.at.complete_last-requires-clause-last c).In-Some

pub complete_last-requires-clause-within : goal.complete_last-requires-clause-within
complete_last-requires-clause-within c =
    let last = last_is (goal.at.complete_last-requires-clause-within c).In-Some in
    c.components.invariant.kept.search.within c.in-Some.bound (subst (λ l. Contains l c.in-Some.bound) (sym last.1) (Contains-push last.0 c.in-Some.bound))

pub returns-clause-idle : goal.returns-clause-idle
returns-clause-idle c =
    let now = c.components.self in
    let none = none_in_end now.bounds.items (sym (c.in_default.ensures ∙ c.last.ensures.value ∙ ap (λ (l : List ℕ). slice_get l (length l - 1)) c.deref.ensures.value)) in
    ⊎_elim
    (λ some. let first = c.components.invariant.kept.search.first some in let lt = first.1 in let size = ap length none in absurd (omega (arith, lt, size)))
    (λ few. nil_from_length now.pending.items (omega (arith, few)))
    (cases_lt 0 (length now.pending.items))
