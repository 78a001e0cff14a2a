use Rattle.std.proofs.Common.{◌≡◌, ◌∷◌, ◌++◌, ◌↔◌, ℕ, [], Contains, List, IfOk, Result, Ok, Err, true, length, append_assoc, sym, ap, subst, ◌∙◌}
use Rattle.std.specs.List.{HoldsAt}
use Rattle.std.specs.List.Sorted.{IsSearchInRange}
use Rattle.std.specs.Result.{is_ok}
use Rattle.std.proofs.lemmas.List.Elements.{Contains-append_left}
use Rattle.std.specs.declared.cmp.Ordering.TheVariants.{Equal}
use Rattle.rules.specs.contracts.breach.BreachOrd.TheImpl.{ghosts}
use Rattle.rules.specs.declared.breach.Breach.{Breach}
use Rattle.analyse.specs.Found.{breaches_of}
use Rattle.analyse.specs.Searches.{Gains}
use Rattle.analyse.specs.declared.breaches.Breaches.{Breaches}
use Rattle.analyse.proofs.FoundLemmas.{gains_alike, gains_between, gains_pushed, gains_there}
use Rattle.analyse.proofs.breaches.Breaches.note.Goals as goal
use Rattle.analyse.proofs.breaches.Breaches.note.Goals.{else-len-max, in-None, in-Some, then-len-max+in_ok-merge}

-- an item that a search finds is in the list
found_there : (r : Result ℕ ℕ) (items : List Breach) (b : Breach) → ((x y : Breach) → ghosts.cmp x y ≡ Equal → x ≡ y) → is_ok r ≡ true → IsSearchInRange r (length items)
    → IfOk r (HoldsAt (λ y. ghosts.cmp y b ≡ Equal) items) → Contains items b
found_there (Ok i) items b one ok within holds = (i, within, one _ b (holds b))
found_there (Err i) items b one ok within holds = cc

pub returns-then-ascends : goal.returns-then-ascends
returns-then-ascends c =
    let breach = c.args.breach in
    let old = c.match-last.self in
    let begun : old ≡ c.args.self.now = elim c.match-last.branch [ in-Some w ↦ w.self-is | in-None w ↦ w.self-is ] in
    record {
      gains = subst (λ (now : Breaches). Gains (breaches_of now) breach (c.push.new.self.items ++ old.late.items)) begun
          (subst (λ (items : List Breach). Gains (breaches_of old) breach (items ++ old.late.items)) (sym c.in_ok-push.ensures.items) (gains_between old.ascending.items old.late.items breach));
    }

pub returns-then-is_ok : goal.returns-then-is_ok
returns-then-is_ok c =
    let breach = c.args.breach in
    let old = c.match-last.self in
    let begun : old ≡ c.args.self.now = elim c.match-last.branch [ in-Some w ↦ w.self-is | in-None w ↦ w.self-is ] in
    let there = found_there c.binary_search.result c.deref-2.result.now breach (λ x y e. (c.equal_breaches_are_one.ensures x y).0 e) (sym c.is_ok.ensures.value ∙ c.if-is_ok.true)
    c.binary_search.ensures.bound c.binary_search.ensures.ok in
    record {
      gains = subst (λ (now : Breaches). Gains (breaches_of now) breach (breaches_of old)) begun
          (gains_there (breaches_of old) breach (Contains-append_left old.ascending.items old.late.items breach (subst (λ items. Contains items breach) c.deref-2.ensures.value there)));
    }

pub returns : goal.returns
returns c =
    let breach = c.args.breach in
    let begun : c.match-last.self ≡ c.args.self.now = elim c.match-last.branch [ in-Some w ↦ w.self-is | in-None w ↦ w.self-is ] in
    let before = c.if-len-max.self in
    let alike : (b : Breach) → Contains (breaches_of before) b ↔ Contains (breaches_of c.match-last.self) b = elim c.if-len-max.branch [
      | then-len-max+in_ok-merge w ↦ λ b. subst (λ (now : Breaches). Contains (breaches_of now) b ↔ Contains (breaches_of c.match-last.self) b) (sym w.self-is) (w.in_ok-merge.ensures.same b)
      | else-len-max w ↦ λ b. subst (λ (now : Breaches). Contains (breaches_of before) b ↔ Contains (breaches_of now) b) w.self-is (λ h. h, λ h. h)
    ] in
    let pushed : before.ascending.items ++ c.push-2.new.self.items ≡ breaches_of before ++ breach ∷ []
    = ap (λ (items : List Breach). before.ascending.items ++ items) c.in_ok-push-2.ensures.items ∙ sym (append_assoc before.ascending.items before.late.items (breach ∷ [])) in
    record {
      gains = subst (λ (now : Breaches). Gains (breaches_of now) breach (before.ascending.items ++ c.push-2.new.self.items)) begun
          (gains_alike (breaches_of c.match-last.self) (breaches_of before) _ breach alike
          (subst (Gains (breaches_of before) breach) (sym pushed) (gains_pushed (breaches_of before) breach)));
    }
