use Rattle.std.proofs.Common.{◌++◌, ◌∙◌, ap, map, sym}
use Rattle.std.proofs.lemmas.List.{take_all}
use Rattle.std.proofs.lemmas.Simd.{map-map}
use Rattle.std.specs.Global.{Vec}
use Rattle.tree.specs.Trees.{message_tree}
use Rattle.tree.specs.declared.contract as tree
use Rattle.program.specs.declared.types.HeapType.{HeapType}
use Rattle.resolving.specs.Brought.{payload_types, params_held}
use Rattle.program.specs.Programs.{type_lists}
use Rattle.resolving.proofs.ItemLemmas.{seen_more}
use Rattle.resolving.proofs.brought.add_messages.Goals as goal

pub loop-message-preserved : goal.loop-message-preserved
loop-message-preserved c = λ p round.
    seen_more (λ (types : Vec HeapType). types.items) (λ m. payload_types p (message_tree m)) c.args.messages.now c.loop-message.message-index c.message-item.result c.args.told.now.items c.loop-message.told.items _ _
    c.loop-message-test.true c.message-item.is (c.loop-message.invariant p round) c.in_ok-push.ensures.items (c.in_ok-params_held.ensures p round ∙ ap (params_held p) c.deref.ensures.value)

pub returns : goal.returns
returns c = λ p round.
    let messages = c.args.messages.now in
    c.loop-message.invariant p round ∙ ap (λ l. type_lists c.args.told.now.items ++ l)
    (ap (map (λ (m : tree.Message.Message). payload_types p (message_tree m))) (take_all c.loop-message.message-index messages c.loop-message-test.false) ∙ sym (map-map (payload_types p) message_tree messages))
