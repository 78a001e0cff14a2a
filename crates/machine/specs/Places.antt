-- Where a process is in the text.
use Rattle.std.specs.Prelude.{ℕ, List, [], ◌∷◌, Option, None}
use Rattle.std.specs.Option.{option_map}
use Rattle.source.specs.declared.place.Place.{Place}
use Rattle.program.specs.Programs.{ProgramModel}
use Rattle.program.specs.declared.statement.Action.{Action}
use Rattle.program.specs.declared.statement.Action.TheVariants.{Use, Move, Delete, Exchange, NewChannel}
use Rattle.flow.specs.Graphs.{Instruction, Act, New, Send, Switch, Branch, Forget, Call, Start}
use Rattle.flow.specs.Graphs.{Return, Stop}
use Rattle.machine.specs.Frames.{instruction_at}
use Rattle.machine.specs.World.{Frame, World, stack_at}

-- the place of an action: of the word `exchange` or `NewChannel`, or else of the first name in it
abbrev pub action_place : Action → Place
action_place (Use v) = v.place
action_place (Move v u) = v.place
action_place (Delete v) = v.place
action_place (Exchange e) = e.place
action_place (NewChannel c) = c.place

-- the place of an instruction: that of its action, of the target of a New, or else the place that the instruction has
abbrev pub place_of : Instruction → Place
place_of (Act action next) = action_place action
place_of (New v arguments next) = v.place
place_of (Send place e message payloads next) = place
place_of (Switch place cases) = place
place_of (Branch place branches) = place
place_of (Forget f next) = f.place
place_of (Call place method arguments target next) = place
place_of (Start place method arguments next) = place
place_of (Return place value scope) = place
place_of (Stop place) = place

-- the place at which a frame is
abbrev pub frame_place : ProgramModel → Frame → Option Place
frame_place p f = option_map place_of (instruction_at p f)

-- the place at which a process with these frames is: that of its innermost frame
abbrev pub stack_place : ProgramModel → List Frame → Option Place
stack_place p [] = None
stack_place p (f ∷ rest) = frame_place p f

-- the place at which a process of a world is
abbrev pub process_place : ProgramModel → World → ℕ → Option Place
process_place p w q = stack_place p (stack_at w.processes q)
