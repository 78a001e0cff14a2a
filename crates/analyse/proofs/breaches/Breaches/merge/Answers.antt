use Rattle.std.proofs.Common.{◌≡◌, ◌++◌, Contains, List, append-nil, ap, subst, sym, ◌∙◌}
use Rattle.std.specs.Cmp.{Equal-is}
use Rattle.std.proofs.lemmas.List.Filters.{dedup_is}
use Rattle.std.proofs.lemmas.List.Kept.{Contains-dedup, Contains-from_dedup}
use Rattle.std.proofs.lemmas.List.Sorted.{Contains-permutation, IsPermutation-sym}
use Rattle.rules.specs.contracts.breach.BreachEq.TheImpl.Laws.{laws-law}
use Rattle.rules.specs.contracts.breach.BreachOrd.TheImpl.{ghosts}
use Rattle.rules.specs.contracts.breach.BreachOrd.TheImpl.Laws.{matches_eq-law}
use Rattle.rules.specs.declared.breach.Breach.{Breach}
use Rattle.analyse.specs.Found.{breaches_of}
use Rattle.analyse.proofs.breaches.Breaches.merge.Goals as goal

pub returns-clause-same : goal.returns-clause-same
returns-clause-same c = λ b.
    let is = dedup_is _ _ _ c.dedup.ensures.filtered in
    let moved = c.sort_unstable.ensures.permutation in
    let appended : c.append.new.self.items ≡ breaches_of c.args.self.now = c.in_ok-append.ensures.items in
    let alone : c.dedup.new.self.items ++ c.append.new.other.items ≡ c.dedup.new.self.items
    = ap (λ (l : List Breach). c.dedup.new.self.items ++ l) c.in_ok-append.ensures.other_items ∙ append-nil c.dedup.new.self.items in (
      λ h. subst (λ l. Contains l b) appended (Contains-permutation _ _ b (IsPermutation-sym _ _ moved) (Contains-from_dedup _ _ b (subst (λ l. Contains l b) (alone ∙ is) h))),
      λ h. subst (λ l. Contains l b) (sym (alone ∙ is))
          (Contains-dedup laws-law (λ x y e. (c.equal_breaches_are_one.ensures x y).0 ((Equal-is (ghosts.cmp x y)).0 (sym (matches_eq-law x y) ∙ e))) _ b
          (Contains-permutation _ _ b moved (subst (λ l. Contains l b) (sym appended) h))),
    )
