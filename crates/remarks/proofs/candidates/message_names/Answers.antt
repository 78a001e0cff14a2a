use Rattle.std.proofs.Common.{◌++◌, map, ap, ◌∙◌, sym}
use Rattle.std.specs.List.{flat_map}
use Rattle.std.proofs.lemmas.List.{map-append, take_all}
use Rattle.std.proofs.lemmas.Simd.{map-map}
use Rattle.tree.specs.Trees.{MessageTree, member_tree, message_tree}
use Rattle.tree.specs.declared.contract as made
use Rattle.declarations.specs.Declarations.{message_among, names_of_messages}
use Rattle.remarks.proofs.candidates.message_names.Goals as goal

pub returns : goal.returns
returns c =
    let contract = c.in-Some.contract.now in
    let first = contract.messages.items in
    let others = flat_map message_among (map member_tree contract.members.items) in
    rw c.in-Some.is
    (c.in_ok-add_messages.ensures
    ∙ ap (λ l. c.loop-message.names.items ++ names_of_messages (flat_map message_among (map member_tree l))) c.deref.ensures.value
    ∙ ap (λ l. l ++ names_of_messages others)
    (c.loop-message.invariant
    ∙ ap (map (λ (m : made.Message.Message). m.name)) (take_all c.loop-message.message-index c.deref-message-items.result.now c.loop-message-test.false ∙ c.deref-message-items.ensures.value)
    ∙ sym (map-map (λ (m : MessageTree). m.name) message_tree first))
    ∙ sym (map-append (λ (m : MessageTree). m.name) (map message_tree first) others))
