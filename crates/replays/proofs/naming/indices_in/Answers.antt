use Rattle.std.proofs.Common.{◌∙◌, ap, map, ℕ}
use Rattle.std.specs.Ordering.{nat_cmp}
use Rattle.lemmas.specs.Places.{first_position}
use Rattle.program.specs.declared.contract.State.{State}
use Rattle.replays.proofs.NameLemmas.{indices_more}
use Rattle.replays.proofs.naming.indices_in.Goals as goal

pub loop-contract-preserved : goal.loop-contract-preserved
loop-contract-preserved c =
    let has = λ (k : ℕ). c.in_ok-indices_of.ensures k ∙ ap (λ l. first_position nat_cmp (map (λ (s : State). s.id.0) l) k) c.deref.ensures.value in
    let more = indices_more c.args.contracts.now c.loop-contract.indices.items c.push.new.self.items c.loop-contract.contract-index c.contract-item.result c.in_ok-indices_of.field-0 c.loop-contract-test.true c.contract-item.is
    c.loop-contract.invariant.many c.loop-contract.invariant.placed has c.in_ok-push.ensures.items in
    record { many = more.0; placed = more.1 }
