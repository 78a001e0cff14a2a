use Rattle.std.proofs.Common.{Bor, sym, ap, ◌∙◌, map}
use Rattle.std.proofs.lemmas.List.{take_all}
use Rattle.std.proofs.lemmas.Simd.{map-map}
use Rattle.tree.specs.Trees.{MessageTree, message_tree}
use Rattle.tree.specs.declared.contract.Message.{Message}
use Rattle.declarations.specs.Declarations.{names_of_messages}
use Rattle.declarations.specs.Labels.{in_parentheses}
use Rattle.declarations.specs.Outlines.{outlined_messages}
use Rattle.declarations.proofs.labels.Labels.of.Goals as goal

pub returns-clause-labels : goal.returns-clause-labels
returns-clause-labels c =
    let text = c.args.text.now in
    let outline = c.args.declared.now.outline in
    let tree : Bor Message → MessageTree = λ m. message_tree m.now in
    let told = λ (m : Bor Message). in_parentheses text (tree m).name in
    let items = outline.messages.items in
    record {
      messages = names_of_messages (outlined_messages outline);
      table = c.requires;
      each = λ behind. c.loop-message.invariant behind
          ∙ ap (map told) (take_all c.loop-message.message-index _ c.loop-message-test.false ∙ c.deref-message-items.ensures.value)
          ∙ sym (ap (map (in_parentheses text)) (map-map (λ m. m.name) tree items) ∙ map-map (in_parentheses text) (λ m. (tree m).name) items);
    }
