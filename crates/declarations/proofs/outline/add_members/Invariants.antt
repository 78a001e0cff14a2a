use Rattle.std.proofs.Common.{◌≡◌, ◌++◌, map, take}
use Rattle.std.specs.List.{flat_map}
use Rattle.tree.specs.Trees.{message_tree, state_tree, member_tree}
use Rattle.declarations.specs.Declarations.{message_among, state_among}
use Rattle.declarations.proofs.outline.add_members.Given as goal

abbrev pub invariant-loop-member : goal.invariant-loop-member
invariant-loop-member l = record {
  messages : map (λ m. message_tree m.now) l.messages.items ≡ map (λ m. message_tree m.now) l.fn.messages.items ++ flat_map (λ m. message_among (member_tree m)) (take l.member-index l.members);
  states : map (λ s. state_tree s.now) l.states.items ≡ map (λ s. state_tree s.now) l.fn.states.items ++ flat_map (λ m. state_among (member_tree m)) (take l.member-index l.members);
}
