use Rattle.std.proofs.Common.{map, ap, ◌∙◌, sym}
use Rattle.std.proofs.lemmas.List.{take_all}
use Rattle.std.proofs.lemmas.Simd.{map-map}
use Rattle.tree.specs.Trees.{message_tree}
use Rattle.declarations.proofs.outline.Outline.message_names.Goals as goal

pub returns : goal.returns
returns c =
    c.loop-message.invariant
    ∙ ap (map (λ m. (message_tree m.now).name)) (take_all c.loop-message.message-index c.deref-message-items.result.now c.loop-message-test.false ∙ c.deref-message-items.ensures.value)
    ∙ sym (map-map (λ m. m.name) (λ m. message_tree m.now) c.args.self.now.messages.items)
