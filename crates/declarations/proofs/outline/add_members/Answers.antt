use Rattle.std.proofs.Common.{◌++◌, map, sym, ap, ◌∙◌}
use Rattle.std.specs.List.{flat_map}
use Rattle.std.proofs.lemmas.List.{take_all}
use Rattle.std.proofs.lemmas.List.Folds.{flat_map-map}
use Rattle.tree.specs.Trees.{message_tree, state_tree, member_tree}
use Rattle.declarations.specs.Declarations.{message_among, state_among}
use Rattle.declarations.proofs.outline.add_members.Goals as goal

pub returns-clause-messages : goal.returns-clause-messages
returns-clause-messages c =
    let members = c.args.members.now in
    c.loop-member.invariant.messages
    ∙ ap (λ l. map (λ m. message_tree m.now) c.args.messages.now.items ++ l)
    (ap (flat_map (λ m. message_among (member_tree m))) (take_all c.loop-member.member-index members c.loop-member-test.false)
    ∙ sym (flat_map-map message_among member_tree members))

pub returns-clause-states : goal.returns-clause-states
returns-clause-states c =
    let members = c.args.members.now in
    c.loop-member.invariant.states
    ∙ ap (λ l. map (λ s. state_tree s.now) c.args.states.now.items ++ l)
    (ap (flat_map (λ m. state_among (member_tree m))) (take_all c.loop-member.member-index members c.loop-member-test.false)
    ∙ sym (flat_map-map state_among member_tree members))
