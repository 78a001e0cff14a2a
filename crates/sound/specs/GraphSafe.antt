-- For proofs: what holds of the worlds of graphs in every run of a program without findings.
use Rattle.std.specs.Prelude.{◌≡◌, ◌≢◌, ◌+◌, ◌<◌, ◌≤◌, ℕ, true, false, List, [], ◌∷◌, length, Some}
use Rattle.program.specs.Lists.{Each}
use Rattle.program.specs.Programs.{ProgramModel}
use Rattle.program.specs.declared.types.Side.{Side}
use Rattle.machine.specs.Frames.{variables_of}
use Rattle.machine.specs.Machine.{event_outcome}
use Rattle.machine.specs.Outcomes.{QueueBounds, Faulty, Moved}
use Rattle.machine.specs.World.{Frame, World, block_at, cut_off, is_inside, owns, read, stack_at}
use Rattle.machine.specs.declared.halts.Event.{Event}
use Rattle.machine.specs.declared.halts.Fault.{Fault}
use Rattle.machine.specs.declared.halts.Fault.TheVariants.{F6}
use Rattle.sound.specs.Queues.{IsLiveEnd, QueueIsWalk}
use Rattle.sound.specs.Safe.{FieldsOwn, stands_in}

-- the number of variables that hold this address, in all frames of a process
abbrev pub stands_in_frames : ProgramModel → List Frame → ℕ → ℕ
stands_in_frames p [] a = 0
stands_in_frames p (f ∷ frames) a = stands_in (variables_of p f.method) f.variables a + stands_in_frames p frames a

-- Safety of a world of graphs: no event is a fault; queued messages are those of walks; variables hold only
-- what their process owns, and each block that a process owns is in exactly one of them; what is
-- inside a block is in no variable; owning fields are as FieldsOwn says; what is cut off stays so;
-- an ended process owns nothing.
pub record IsSafe (p : ProgramModel) (bound : QueueBounds) (w : World) : Type 0 where
  -- no event is a fault
  pub no_fault : (e : Event) (fault : Fault) → event_outcome p bound w e ≢ Faulty fault
  -- the queue to each end that is not freed is a walk of its contract
  pub queues : (a contract : ℕ) (side : Side) → IsLiveEnd w.blocks a contract side → QueueIsWalk p w.blocks a contract side
  -- a process owns what its variables have
  pub holds : (q v a : ℕ) → Each (λ f. read f.variables v ≡ Some a → owns w.blocks q a ≡ true) (stack_at w.processes q)
  -- what a process owns is in exactly one of its variables, lent copies not counted
  pub once : (q a : ℕ) → owns w.blocks q a ≡ true → stands_in_frames p (stack_at w.processes q) a ≡ 1
  -- what is inside a block is in no variable, not even as a lent copy
  pub apart : (q v a b : ℕ) → is_inside (block_at w.blocks a).owner b ≡ true
      → Each (λ f. read f.variables v ≢ Some a) (stack_at w.processes q)
  -- owning fields hold exactly what is inside their block, and each holds something
  pub fields : FieldsOwn p w.blocks
  -- what is cut off stays cut off
  pub stays_cut_off : (e : Event) (v : World) (a : ℕ) → event_outcome p bound w e ≡ Moved v → a < length w.blocks
      → cut_off w.blocks a ≡ true → cut_off v.blocks a ≡ true
  -- a process that has ended owns nothing
  pub ended : (q a : ℕ) → stack_at w.processes q ≡ [] → owns w.blocks q a ≡ false

-- each queue to an end that is not freed is a walk of its contract and no longer than its bound, and no next event sends past a bound
pub record IsBounded (p : ProgramModel) (bound : QueueBounds) (w : World) : Type 0 where
  -- each queue is a walk
  pub queues : (a contract : ℕ) (side : Side) → IsLiveEnd w.blocks a contract side → QueueIsWalk p w.blocks a contract side
  -- no queue is longer than its bound
  pub short : (a contract : ℕ) (side : Side) → IsLiveEnd w.blocks a contract side → length (block_at w.blocks a).queue ≤ bound contract side
  -- no send exceeds the bound
  pub fits : (e : Event) → event_outcome p bound w e ≢ Faulty F6
