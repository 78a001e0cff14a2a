-- For proofs within the crate: what the code returns, in the words of the definitions.
use Rattle.std.specs.Prelude.{◌≡◌, ℕ, ◌==◌, List, [], ◌∷◌, ◌++◌, map, set, if◌then◌else◌}
use Rattle.std.specs.Prelude.{Option, Result, Ok, Err, Some, None}
use Rattle.source.specs.declared.place.Place.{Place}
use Rattle.program.specs.Programs.{ProgramModel}
use Rattle.flow.specs.Graphs.{Instruction}
use Rattle.program.specs.declared.call.Argument.{Argument}
use Rattle.program.specs.declared.statement.Mention.{Mention}
use Rattle.machine.specs.Frames.{address, put}
use Rattle.machine.specs.Machine.{outcome_from, returns}
use Rattle.machine.specs.Outcomes.{FaultTest, test, after_tests, QueueBounds, Outcome, Moved, Faulty, Waits, NoProcess}
use Rattle.machine.specs.World.{Block, Frame, MessageHeld, World, is_own, let_go, read, stack_at}
use Rattle.machine.specs.declared.halts.Fault.{Fault}
use Rattle.machine.specs.declared.halts.Fault.TheVariants.{F1}
use Rattle.machine.specs.declared.halts.Halt.{Halt}
use Rattle.machine.specs.declared.halts.Halt.TheVariants as halt
use Rattle.machine.specs.declared.halts.Refusal.{Refusal}
use Rattle.machine.specs.declared.halts.Refusal.TheVariants as refusal

-- What an instruction returns matches the outcome. It returns `Memory` only if the instruction would change the world.
abbrev pub Tells : {X : Type 0} → Result X Refusal → Outcome → World → Type 0
Tells (Ok x) outcome after = outcome ≡ Moved after
Tells (Err refusal.Ended) outcome after = outcome ≡ NoProcess
Tells (Err (refusal.Fault fault)) outcome after = outcome ≡ Faulty fault
Tells (Err refusal.Waits) outcome after = outcome ≡ Waits
Tells (Err refusal.Memory) outcome after = (v : World) × (outcome ≡ Moved v)

-- why no step was taken, given why the instruction at a place was refused
abbrev pub halt_of : Refusal → Place → Halt
halt_of refusal.Ended place = halt.NoSuchProcess
halt_of (refusal.Fault fault) place = halt.Fault fault place
halt_of refusal.Waits place = halt.Waits
halt_of refusal.Memory place = halt.Memory

-- a world with this frame on top of a process
abbrev pub on_top : List (List Frame) → ℕ → List Frame → Frame → List Block → World
on_top processes self rest f blocks = record { processes = set processes self (f ∷ rest); blocks = blocks }

-- a frame with these variables
abbrev pub with_variables : Frame → List (Option ℕ) → Frame
with_variables f variables = record { method = f.method; point = f.point; variables = variables }

-- a world in which a process has this stack
abbrev pub with_stack : World → ℕ → List Frame → List Block → World
with_stack w self stack blocks = record { processes = set w.processes self stack; blocks = blocks }

-- the outcome of an instruction on a stack
abbrev pub on_stack : ProgramModel → QueueBounds → World → ℕ → Instruction → ℕ → List Frame → Outcome
on_stack p bound w self i choice [] = NoProcess
on_stack p bound w self i choice (f ∷ rest) = outcome_from p bound w self f rest i choice

-- In any world with the old frame on top of a process and the old blocks, the outcome of an instruction is what was
-- returned.
abbrev pub TellsFrame : {X : Type 0} → ProgramModel → QueueBounds → (self : ℕ) → Instruction → (choice : ℕ) → Result X Refusal →
    (old new : Frame × List Block) → Type 0
TellsFrame p bound self i choice answer old new = (w : World) (rest : List Frame) → w.blocks ≡ old.1 →
    Tells answer (outcome_from p bound w self old.0 rest i choice) (on_top w.processes self rest new.0 new.1)

-- In any world where a process has the old frames and the blocks are these, the outcome of an instruction without
-- choice is what was returned.
abbrev pub TellsStack : {X : Type 0} → ProgramModel → QueueBounds → (self : ℕ) → Instruction → Result X Refusal →
    (old new : List Frame) → List Block → Type 0
TellsStack p bound self i answer old new blocks = (w : World) → w.blocks ≡ blocks →
    Tells answer (on_stack p bound w self i 0 old) (with_stack w self new blocks)

-- In the old world, the outcome of an instruction of a process is what was returned.
abbrev pub TellsWorld : {X : Type 0} → ProgramModel → QueueBounds → (self : ℕ) → Instruction → (choice : ℕ) → Result X Refusal →
    (old new : World) → Type 0
TellsWorld p bound self i choice answer old new = Tells answer (on_stack p bound old self i choice (stack_at old.processes self)) new

-- the tests that a process owns the block in each of these variables
abbrev pub own_tests : List Block → (self : ℕ) → List (Option ℕ) → List Mention → List FaultTest
own_tests blocks self variables mentions = map (λ v. test (is_own blocks self (read variables v.variable.0)) F1) mentions

-- the outcome when the innermost frame of a stack ends and returns what a variable has
abbrev pub outcome_of_end : ProgramModel → QueueBounds → World → ℕ → Option Mention → List Frame → Outcome
outcome_of_end p bound w self value [] = NoProcess
outcome_of_end p bound w self value (f ∷ rest) = returns p bound w self f rest value rest

-- the variables of a caller, after its target takes what a variable of the innermost frame of a stack has
abbrev pub given_back : (value target : Option Mention) → List Frame → List (Option ℕ) → List (Option ℕ)
given_back None target stack variables = variables
given_back (Some v) target [] variables = variables
given_back (Some v) target (f ∷ rest) variables = put variables target (read f.variables v.variable.0)

-- a stack with a new frame on top, after the caller lost the claimed arguments
abbrev pub entered_on : Frame → List Argument → List Frame → List Frame
entered_on begun arguments [] = []
entered_on begun arguments (f ∷ rest) = begun ∷ with_variables f (let_go f.variables arguments) ∷ rest

-- a stack whose innermost frame lost the claimed arguments and continues at a point
abbrev pub went_on : List Argument → ℕ → List Frame → List Frame
went_on arguments next [] = []
went_on arguments next (f ∷ rest) = record { method = f.method; point = next; variables = let_go f.variables arguments } ∷ rest

-- all these tests pass
abbrev pub Pass : List FaultTest → Type 0
Pass tests = (more : List FaultTest) (outcome : Outcome) → after_tests (tests ++ more) outcome ≡ after_tests more outcome

-- the fault of the first of these tests that fails, if one does
abbrev pub IsFirstFault : Option Fault → List FaultTest → Type 0
IsFirstFault None tests = Pass tests
IsFirstFault (Some fault) tests = (more : List FaultTest) (outcome : Outcome) → after_tests (tests ++ more) outcome ≡ Faulty fault

-- The first of these tests that fails has this fault. No test waits or takes memory, and no process that has ended is tested.
abbrev pub IsRefusal : Refusal → List FaultTest → Type 0
IsRefusal (refusal.Fault fault) tests = IsFirstFault (Some fault) tests
IsRefusal refusal.Ended tests = ⊥
IsRefusal refusal.Memory tests = ⊥
IsRefusal refusal.Waits tests = ⊥

-- the addresses that arguments claim, the last first, followed by those taken before
abbrev pub claimed_in : List (Option ℕ) → (taken : List ℕ) → List Argument → List ℕ
claimed_in variables taken [] = taken
claimed_in variables taken (a ∷ arguments) =
    claimed_in variables (if a.claimed then address (read variables a.mention.variable.0) ∷ taken else taken) arguments

-- the block at `j`, after the endpoint at an address has a new state
abbrev pub in_state : (a state : ℕ) → ℕ → Block → Block
in_state a state j b = record b { state = if j == a then state else b.state }

-- the block at `j`, after a message is appended to the queue of the endpoint at an address
abbrev pub with_message : ℕ → MessageHeld → ℕ → Block → Block
with_message to m j b = record b { queue = if j == to then b.queue ++ m ∷ [] else b.queue }

-- the block at `j`, after the endpoint at an address has only these messages left in its queue
abbrev pub left_in : ℕ → List MessageHeld → ℕ → Block → Block
left_in a messages j b = record b { queue = if j == a then messages else b.queue }

-- the block at `j`, after a field of the block at an address holds this
abbrev pub with_field : (at field given : ℕ) → ℕ → Block → Block
with_field at field given j b = record b { fields = if j == at then set b.fields field given else b.fields }

-- the message at the front of a queue
abbrev pub front_of : List MessageHeld → Option ℕ
front_of [] = None
front_of (m ∷ ms) = Some m.message
