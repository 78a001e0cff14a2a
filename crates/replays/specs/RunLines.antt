-- The lines of a run: its events, how it ends, the processes that have not ended, the blocks that are left, and how many conditions it
-- chose.
use Rattle.std.specs.Prelude.{ℕ, Bool, List, ◌++◌, codes}
use Rattle.std.specs.Fmt.{decimal}
use Rattle.machine.specs.World.{World}
use Rattle.machine.specs.declared.halts.Halt.TheVariants as halts
use Rattle.replays.specs.EventLines.{TraceWords}
use Rattle.replays.specs.Remains.{left_lines, waits_lines}
use Rattle.replays.specs.WorldLines.{halt_text}
use Rattle.replays.specs.declared.end.RunEnd.{RunEnd}
use Rattle.replays.specs.declared.end.RunEnd.TheVariants.{Ended, Deadlock, Fault, Running}
use Rattle.replays.specs.declared.end.EndKind.{EndKind}
use Rattle.replays.specs.declared.end.EndKind.TheVariants as kinds

-- the way in which a run ends, without the event of a fault
abbrev pub kind_of : RunEnd → EndKind
kind_of Ended = kinds.Ended
kind_of Deadlock = kinds.Deadlock
kind_of (Fault e fault at) = kinds.Fault
kind_of Running = kinds.Running

-- how runs end that end in this way
abbrev pub kind_text : EndKind → List ℕ
kind_text kinds.Ended = codes "every process has ended"
kind_text kinds.Deadlock = codes "deadlock"
kind_text kinds.Fault = codes "fault"
kind_text kinds.Running = codes "still running"

-- how a run ends
abbrev pub end_text : RunEnd → List ℕ
end_text (Fault e fault at) = halt_text e (halts.Fault fault at)
end_text Ended = kind_text kinds.Ended
end_text Deadlock = kind_text kinds.Deadlock
end_text Running = kind_text kinds.Running

-- `end: deadlock, after 12 events`, with its end
abbrev pub end_line : RunEnd → (events : ℕ) → List ℕ
end_line end events = codes "end: " ++ (end_text end ++ (codes ", after " ++ (decimal events ++ codes " events\n")))

-- `chosen: 3 conditions`, with its end
abbrev pub conditions_line : ℕ → List ℕ
conditions_line n = codes "chosen: " ++ (decimal n ++ codes " conditions\n")

-- the lines of a run of this many events that ends so in this world, where the blocks at these addresses are lost
abbrev pub run_lines : TraceWords → World → (events : ℕ) → (lines : List ℕ) → (conditions : ℕ) → RunEnd → (lost : List Bool) → List ℕ
run_lines t w events lines conditions end lost =
    lines ++ (end_line end events ++ (waits_lines t.words w ++ (left_lines t.words w.blocks lost ++ conditions_line conditions)))

-- `seed: 7`, with its end
abbrev pub seed_line : ℕ → List ℕ
seed_line seed = codes "seed: " ++ (decimal seed ++ codes "\n")

-- `60 runs: deadlock, the shortest after 5 events with seed 7`, with its end
abbrev pub tally_line : EndKind → (count events seed : ℕ) → List ℕ
tally_line kind count events seed =
    decimal count ++ (codes " runs: " ++ (kind_text kind ++ (codes ", the shortest after "
    ++ (decimal events ++ (codes " events with seed " ++ (decimal seed ++ codes "\n"))))))
