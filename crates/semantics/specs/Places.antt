-- Where a process is in the text.
use Rattle.std.specs.Prelude.{ℕ, List, [], ◌∷◌, length, Option, None, Some}
use Rattle.source.specs.declared.place.Place.{Place}
use Rattle.program.specs.Statements as stated
use Rattle.semantics.specs.Rests.{Rest, Act, New, Send, Switch, If, While, Forget, Call, Start, Return, Stop, Missing}
use Rattle.machine.specs.Places.{action_place}
use Rattle.semantics.specs.Worlds.{Frame, World, stack_at}

-- the place of an instruction: that of its action, of the target of a New, or else the place that it has
abbrev pub place_of : Rest → Option Place
place_of (Act action next) = Some (action_place action)
place_of (New target arguments next) = Some target.place
place_of (Send place endpoint message payloads next) = Some place
place_of (Switch place arms) = Some place
place_of (If place ways inside past) = Some place
place_of (While (stated.Test place mentions ways body) next) = Some place
place_of (Forget forget next) = Some forget.place
place_of (Call place method arguments target next) = Some place
place_of (Start place method arguments next) = Some place
place_of (Return place value scope) = Some place
place_of (Stop place) = Some place
place_of Missing = None

-- the place at which a process with these frames is: that of its innermost frame
abbrev pub stack_place : List Frame → Option Place
stack_place [] = None
stack_place (f ∷ rest) = place_of f.rest

-- where a process with these frames is: how many frames it has, and its place, none once it has ended
abbrev pub position : List Frame → ℕ × Option Place
position stack = (length stack, stack_place stack)

-- the place at which a process of a world is
abbrev pub process_place : World → ℕ → Option Place
process_place w q = stack_place (stack_at w.processes q)
