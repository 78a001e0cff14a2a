use Rattle.std.proofs.Common.{◌∷◌, [], ◌∙◌, ◌-◌, ℕ, List, length, take, sym, ap, subst, arith, ⊎_elim}
use Rattle.std.specs.Prelude.{Contains, slice_get}
use Rattle.std.proofs.lemmas.List.{length_push}
use Rattle.std.proofs.lemmas.List.Elements.{Contains-append_left, Contains-push_cases}
use Rattle.contracts.specs.Searches.{AreRising}
use Rattle.contracts.proofs.RisingLemmas.{ends_in, push_back, rising_prefix}
use Rattle.contracts.proofs.components.join.Goals as goal

pub bounds-preserved : goal.bounds-preserved
bounds-preserved c =
    let now = c.bounds.bounds.items in
    let new = c.pop.new.self.items in
    let last = ends_in now c.in-Some.bound (sym (c.in-Some.ensures ∙ c.last.ensures.value ∙ ap (λ (l : List ℕ). slice_get l (length l - 1)) c.deref.ensures.value)) in
    let is = push_back now last.0 new c.in-Some.bound last.1 (c.pop.ensures.rest ∙ ap (λ n. take (n - 1) now) c.bounds.bounds.ok.0) in
    let kept = c.bounds.invariant in
    let fewer = kept.fewer in
    let less = c.if-bound-index.false in
    let shorter = ap length is in
    record {
      right = λ b h. kept.right b (subst (λ l. Contains l b) (sym is) (Contains-append_left new (c.in-Some.bound ∷ []) b h));
      all = λ b h le. ⊎_elim (λ old. old) (λ same. absurd (omega (arith, same, le, less))) (Contains-push_cases new c.in-Some.bound b (subst (λ l. Contains l b) is (kept.all b h le)));
      rise = rising_prefix new (c.in-Some.bound ∷ []) (subst AreRising is kept.rise);
      fewer = omega (arith, fewer, shorter, length_push new c.in-Some.bound);
    }
