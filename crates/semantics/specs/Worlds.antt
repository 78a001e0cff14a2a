-- The world of the machine over statements: as that of graphs, but a frame has, in place of a point, what it has still to do.
use Rattle.std.specs.Prelude.{◌==◌, ◌&&◌, ℕ, List, [], ◌∷◌, length, Option, Some, None, get_or, if◌then◌else◌}
use Rattle.program.specs.Lists.{is_among}
use Rattle.program.specs.Methods.{MethodModel}
use Rattle.program.specs.Programs.{ProgramModel}
use Rattle.program.specs.Statements as stated
use Rattle.program.specs.declared.number.VarId.{VarId}
use Rattle.program.specs.declared.statement.Mention.{Mention}
use Rattle.program.specs.declared.statement.Ways.{Ways}
use Rattle.program.specs.declared.statement.Ways.TheVariants.{Either, Body, Past}
use Rattle.flow.specs.Cases.{awaits}
use Rattle.semantics.specs.Rests.{Rest, Switch, If, While, Call, Missing, Arms, NoArm, MoreArms, rest_of}
use Rattle.machine.specs.Frames.{method_at, variables_at_entry}
use Rattle.machine.specs.World.{Block}
use Rattle.machine.specs.Outcomes.{FaultTest}
use Rattle.machine.specs.declared.halts.Fault.{Fault}

-- a frame: a method, what it has still to do, and the address in each of its variables
pub record Frame : Type 0 where
  pub method : ℕ
  pub rest : Rest
  pub variables : List (Option ℕ)

-- the frames of each process, none once it has ended, and the blocks
pub record World : Type 0 where
  pub processes : List (List Frame)
  pub blocks : List Block

-- the frames of a process
abbrev pub stack_at : List (List Frame) → ℕ → List Frame
stack_at processes q = get_or processes q []

-- a frame that begins a method
abbrev pub entered_at : Option MethodModel → ℕ → List (Option ℕ) → Frame
entered_at None m given = record { method = m; rest = Missing; variables = [] }
entered_at (Some x) m given = record { method = m; rest = rest_of x; variables = variables_at_entry x.variables given }

-- the frame with which the method of this number begins
abbrev pub frame_at_entry : ProgramModel → ℕ → List (Option ℕ) → Frame
frame_at_entry p m given = entered_at (method_at p m) m given

-- the variable that takes the result of the call at which a frame waits, and what the frame does after it
abbrev pub call_target : Rest → Option Mention
call_target (Call place method arguments target next) = target
call_target _ = None

abbrev pub call_next : Rest → Rest
call_next (Call place method arguments target next) = next
call_next _ = Missing

-- the endpoints of cases, each where it is named first, without those already seen
abbrev pub first_mentions : List ℕ → Arms → List Mention
first_mentions seen NoArm = []
first_mentions seen (MoreArms endpoint awaited targets body others) =
    if is_among seen endpoint.variable.0 then first_mentions seen others
    else (endpoint ∷ first_mentions (endpoint.variable.0 ∷ seen) others)

-- what a case binds, and what the method does then
pub record Arm : Type 0 where
  pub targets : List VarId
  pub body : Rest

-- the first case at this endpoint that awaits this message, or the close if there is no message
abbrev pub arm_for : Arms → ℕ → Option ℕ → Option Arm
arm_for NoArm endpoint message = None
arm_for (MoreArms e awaited targets body others) endpoint message =
    if (e.variable.0 == endpoint) && awaits awaited message then Some record { targets = targets; body = body }
    else arm_for others endpoint message

-- how many choices a condition has, and what the method does by the choice
abbrev pub ways_of : Ways → ℕ
ways_of Either = 2
ways_of _ = 1

abbrev pub way : Ways → ℕ → (inside past : Rest) → Rest
way Either choice inside past = if choice == 0 then inside else past
way Body choice inside past = inside
way Past choice inside past = past

-- how many choices there are
abbrev pub choices : Rest → ℕ
choices (Switch place arms) = length (first_mentions [] arms)
choices (If place ways inside past) = ways_of ways
choices (While (stated.Test place mentions ways body) next) = ways_of ways
choices Missing = 0
choices _ = 1

-- the outcome of an event: the next world, a fault, or why there is no step
pub data Outcome : Type 0 where
  Moved : (to : World) → Outcome
  Faulty : (fault : Fault) → Outcome
  Waits : Outcome
  NoProcess : Outcome
  NoChoice : Outcome

-- the fault of the first test that fails, or the outcome if none does
abbrev pub after_tests : List FaultTest → Outcome → Outcome
after_tests [] moves = moves
after_tests (Some fault ∷ tests) moves = Faulty fault
after_tests (None ∷ tests) moves = after_tests tests moves
