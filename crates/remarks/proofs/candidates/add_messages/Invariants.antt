use Rattle.std.proofs.Common.{◌≡◌, ◌++◌, take}
use Rattle.std.specs.List.{flat_map}
use Rattle.declarations.specs.Declarations.{message_among, names_of_messages}
use Rattle.tree.specs.Trees.{member_tree}
use Rattle.remarks.proofs.candidates.add_messages.Given as goal

abbrev pub invariant-loop-member : goal.invariant-loop-member
invariant-loop-member l = l.names.items ≡ l.fn.names.items ++ flat_map (λ m. names_of_messages (message_among (member_tree m))) (take l.member-index l.members)
