use Rattle.std.proofs.Common.{◌++◌, map, ap, ◌∙◌, sym}
use Rattle.std.specs.List.{flat_map}
use Rattle.std.proofs.lemmas.List.{take_all}
use Rattle.std.proofs.lemmas.List.Folds.{flat_map-map}
use Rattle.tree.specs.Trees.{member_tree}
use Rattle.declarations.specs.Declarations.{message_among, names_of_messages}
use Rattle.remarks.proofs.NameLemmas.{each_mapped}
use Rattle.remarks.proofs.candidates.add_messages.Goals as goal

pub returns : goal.returns
returns c =
    let members = c.args.members.now in
    c.loop-member.invariant
    ∙ ap (λ l. c.args.names.now.items ++ l)
    (ap (flat_map (λ m. names_of_messages (message_among (member_tree m)))) (take_all c.loop-member.member-index members c.loop-member-test.false)
    ∙ sym (flat_map-map (λ m. names_of_messages (message_among m)) member_tree members)
    ∙ sym (each_mapped (λ m. m.name) message_among (map member_tree members)))
