use Rattle.std.proofs.Common.{◌≡◌, ◌++◌, map, take}
use Rattle.std.specs.List.{enumerate_from, flat_map}
use Rattle.machine.specs.Views.{blocks_model, stack_model}
use Rattle.replays.specs.Naming.{words_of}
use Rattle.replays.specs.Remains.{process_waits}
use Rattle.replays.proofs.waits.add_waits.Given as goal

-- the lines of the processes so far
abbrev pub invariant-loop-number : goal.invariant-loop-number
invariant-loop-number l =
    l.answer.items ≡ l.initial.answer.items ++ flat_map (λ q. process_waits (words_of l.naming) (blocks_model l.blocks) q.0 q.1)
    (enumerate_from 0 (map stack_model (take l.number l.processes)))
