use Rattle.std.proofs.Common.{◌≡◌, ◌∷◌, map, take}
use Rattle.tree.specs.StatementTrees.{switch_tree, case_tree}
use Rattle.names.specs.Bodies.{head_of}
use Rattle.names.specs.Heads.{awaiting_of}
use Rattle.names.proofs.heads.awaiting_in.Given as goal

abbrev pub invariant-loop-case : goal.invariant-loop-case
invariant-loop-case l = l.list.items ≡ map awaiting_of (head_of (switch_tree l.switch).first ∷ map (λ c. head_of (case_tree c)) (take l.case-index l.case-items))
