use Rattle.std.proofs.Common.{◌≡◌, ◌++◌, ◌↔◌, Contains, List, append-nil, ap, subst, ◌∙◌}
use Rattle.rules.specs.declared.breach.Breach.{Breach}
use Rattle.analyse.specs.Found.{breaches_of}
use Rattle.analyse.proofs.breaches.Breaches.into_different.Goals as goal

pub returns : goal.returns
returns c =
    let merged = c.merge.new.self in
    let alone : breaches_of merged ≡ merged.ascending.items
    = ap (λ (l : List Breach). merged.ascending.items ++ l) c.in_ok-merge.ensures.none_late ∙ append-nil merged.ascending.items in
    record { same = λ b. subst (λ l. Contains l b ↔ Contains (breaches_of c.args.self) b) alone (c.in_ok-merge.ensures.same b) }
