use Rattle.std.specs.Ordering.{nat_cmp}
use Rattle.std.proofs.lemmas.Map.Lookups.{exact_unsigned}
use Rattle.contract_traces.proofs.TableLemmas.{adds_updated, message_step}
use Rattle.contract_traces.proofs.reasons.messages_of.Goals as goal

pub loop-message-preserved : goal.loop-message-preserved
loop-message-preserved c =
    let m = c.message-item.result in
    message_step c.args.messages.now c.loop-message.message-index m m c.loop-message.directions c.insert.new.self c.loop-message-test.true
    (adds_updated nat_cmp exact_unsigned c.loop-message.directions c.insert.new.self m.id.0 m.direction c.in_ok-insert.ensures.updates) c.loop-message.invariant c.message-item.is
