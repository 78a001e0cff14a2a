-- How many choices a process has, and events that do not exist.
use Rattle.std.specs.Prelude.{ℕ, List, [], ◌∷◌, Option, Some, None}
use Rattle.program.specs.Programs.{ProgramModel}
use Rattle.flow.specs.Graphs.{Instruction}
use Rattle.machine.specs.Frames.{choices, instruction_at}
use Rattle.machine.specs.Outcomes.{Outcome, Moved, Faulty, Waits, NoProcess, NoChoice}
use Rattle.machine.specs.World.{Frame, World, stack_at}

-- the number of choices at an instruction, 0 if there is none
abbrev pub choices_of : Option Instruction → ℕ
choices_of None = 0
choices_of (Some i) = choices i

-- the number of choices of a process with these frames, 0 if it has ended
abbrev pub choices_in : ProgramModel → List Frame → ℕ
choices_in p [] = 0
choices_in p (f ∷ rest) = choices_of (instruction_at p f)

-- the number of choices of a process in a world, 0 if there is no such process
abbrev pub choices_at : ProgramModel → World → ℕ → ℕ
choices_at p w q = choices_in p (stack_at w.processes q)

-- there is no such event: its process has ended or does not exist, or has no such choice
abbrev pub IsNoEvent : Outcome → Type 0
IsNoEvent (Moved to) = ⊥
IsNoEvent (Faulty fault) = ⊥
IsNoEvent Waits = ⊥
IsNoEvent NoProcess = Unit {0}
IsNoEvent NoChoice = Unit {0}
