use Rattle.std.proofs.Common.{Bor, ◌∙◌, ap, sym, subst}
use Rattle.std.specs.List.{flat_map}
use Rattle.std.proofs.lemmas.List.{take_all}
use Rattle.std.proofs.lemmas.List.Folds.{flat_map-map}
use Rattle.tree.specs.Trees.{message_tree}
use Rattle.tree.specs.declared.contract as tree
use Rattle.declarations.specs.ContractMistakes.{message_mistakes}
use Rattle.declarations.specs.Mistakes.{Adds}
use Rattle.declarations.proofs.AddLemmas.{adds_more}
use Rattle.declarations.proofs.message_types.judge_messages.Goals as goal

pub loop-message-preserved : goal.loop-message-preserved
loop-message-preserved c = λ p h.
    adds_more (λ (m : Bor tree.Message.Message). message_mistakes p (message_tree m.now)) c.args.messages.now c.loop-message.message-index c.message-item.result
    c.loop-message-test.true c.message-item.is (c.loop-message.invariant p h) (c.in_ok-judge_message.ensures p h)

pub returns : goal.returns
returns c = λ p h.
    let messages = c.args.messages.now in
    let adds = message_mistakes p in
    subst (Adds c.args.found.now.items c.loop-message.found.items)
    (ap (flat_map (λ (m : Bor tree.Message.Message). adds (message_tree m.now))) (take_all c.loop-message.message-index messages c.loop-message-test.false)
    ∙ sym (flat_map-map adds (λ (m : Bor tree.Message.Message). message_tree m.now) messages))
    (c.loop-message.invariant p h)
