use Rattle.std.proofs.Common.{◌≡◌, ◌++◌, get_or, map, take, false}
use Rattle.std.specs.List.{enumerate_from, flat_map}
use Rattle.machine.specs.Views.{block_model}
use Rattle.replays.specs.Naming.{words_of}
use Rattle.replays.specs.Remains.{owned_line}
use Rattle.replays.proofs.leftover.add_left.Given as goal

-- the lines of the blocks so far
abbrev pub invariant-loop-address : goal.invariant-loop-address
invariant-loop-address l =
    l.answer.items ≡ l.initial.answer.items ++ flat_map (λ b. owned_line (words_of l.naming) b.0 b.1 (get_or l.lost b.0 false) b.1.owner)
    (enumerate_from 0 (map block_model (take l.address l.blocks)))
