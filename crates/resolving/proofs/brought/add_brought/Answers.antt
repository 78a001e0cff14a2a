use Rattle.std.proofs.Common.{◌++◌, ◌∙◌, ap, map, sym}
use Rattle.std.specs.List.{flat_map}
use Rattle.tree.specs.Trees.{contract_of, contract_tree, definition_tree, member_tree, message_tree}
use Rattle.tree.specs.declared.item.Definition.{Definition}
use Rattle.declarations.specs.Declarations.{message_among, messages_of}
use Rattle.resolving.specs.Brought.{payload_types}
use Rattle.program.specs.Programs.{type_lists}
use Rattle.resolving.proofs.BroughtLemmas.{contract_brings}
use Rattle.resolving.proofs.brought.add_brought.Goals as goal

pub returns-in_ok-add_members : goal.returns-in_ok-add_members
returns-in_ok-add_members c = λ p round.
    let old = type_lists c.args.told.now.items in
    let mid = type_lists c.add_messages.new.told.items in
    let new = type_lists c.add_members.new.told.items in
    let messages = c.in_ok-add_messages.ensures p round ∙ ap (λ l. old ++ map (payload_types p) (map message_tree l)) c.deref.ensures.value in
    let members = c.in_ok-add_members.ensures p round ∙ ap (λ l. mid ++ map (payload_types p) (flat_map message_among (map member_tree l))) c.deref-in-Contract.ensures.value in
    contract_brings p (contract_tree c.in-Contract.contract) old mid new messages members
    ∙ ap (λ (d : Definition). old ++ map (payload_types p) (flat_map messages_of (contract_of (definition_tree d)))) (sym c.in-Contract.is)
