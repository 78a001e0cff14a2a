use Rattle.std.proofs.Common.{◌≡◌, ◌++◌, map, take}
use Rattle.std.specs.List.{enumerate_from, flat_map}
use Rattle.rules.specs.Programs.{model_of}
use Rattle.machine.specs.Views.{stack_model}
use Rattle.replays.specs.WorldLines.{position, process_line}
use Rattle.replays.proofs.processes.add_processes.Given as goal

-- the lines of the processes so far
abbrev pub invariant-loop-number : goal.invariant-loop-number
invariant-loop-number l =
    l.answer.items ≡ l.initial.answer.items ++ flat_map (λ q. process_line q.0 q.1)
    (enumerate_from 0 (map (λ process. position (model_of l.program) (stack_model process)) (take l.number l.processes)))
