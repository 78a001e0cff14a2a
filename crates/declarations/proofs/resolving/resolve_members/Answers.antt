use Rattle.std.proofs.Common.{◌++◌, ◌∙◌, ap, sym, arith, map, take}
use Rattle.declarations.specs.Ready.{IsReady, all_resolved, declared_in, declared_messages, resolved_declared}
use Rattle.declarations.specs.Scopes.{declared_among}
use Rattle.declarations.proofs.MemberLemmas.{all_at, counts, resolved_more}
use Rattle.declarations.proofs.resolving.resolve_members.Goals as goal

pub add_item-requires-clause-ready : goal.add_item-requires-clause-ready
add_item-requires-clause-ready c = all_at (IsReady c.args.text.now) c.args.items.now c.loop-item.item-index c.item-item.result c.loop-item-test.true c.item-item.is c.requires.ready

pub add_item-requires-clause-messages : goal.add_item-requires-clause-messages
add_item-requires-clause-messages c =
    let grown = counts c.args.items.now c.loop-item.item-index c.item-item.result c.loop-item-test.true c.item-item.is in
    omega (arith, grown.message_room, c.requires.messages, c.loop-item.invariant.messages)

pub add_item-requires-clause-states : goal.add_item-requires-clause-states
add_item-requires-clause-states c =
    let grown = counts c.args.items.now c.loop-item.item-index c.item-item.result c.loop-item-test.true c.item-item.is in
    omega (arith, grown.state_room, c.requires.states, c.loop-item.invariant.states)

pub loop-item-preserved : goal.loop-item-preserved
loop-item-preserved c =
    let text = c.args.text.now in
    let items = c.args.items.now in
    let i = c.loop-item.item-index in
    let item = c.item-item.result in
    let before = c.loop-item.invariant in
    let front = declared_in (take i items) in
    let here = declared_among item in
    let grown = counts items i item c.loop-item-test.true c.item-item.is in
    record {
      messages = omega (arith, grown.messages, before.messages, c.in_ok-add_item.ensures.messages);
      states = omega (arith, grown.states, before.states, c.in_ok-add_item.ensures.states);
      contracts = c.in_ok-add_item.ensures.contracts
          ∙ ap (λ l. l ++ map (resolved_declared text c.loop-item.before.messages c.loop-item.before.states) here) before.contracts
          ∙ ap (λ n. all_resolved text front ++ map (resolved_declared text n c.loop-item.before.states) here) before.messages
          ∙ ap (λ n. all_resolved text front ++ map (resolved_declared text (declared_messages front) n) here) before.states
          ∙ sym (resolved_more text items i item c.loop-item-test.true c.item-item.is);
    }
