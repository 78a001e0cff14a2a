-- What holds in every run of a program without findings.
use Rattle.std.specs.Prelude.{◌≡◌, ◌≢◌, ◌+◌, ◌==◌, ◌<◌, ◌&&◌, ℕ, true, false, not, List, [], ◌∷◌, length, Option, Some, None, if◌then◌else◌}
use Rattle.program.specs.Lists.{Each}
use Rattle.program.specs.Methods.{VariableModel}
use Rattle.program.specs.Programs.{ProgramModel}
use Rattle.program.specs.WellFormed.{field_types}
use Rattle.program.specs.declared.types.Side.{Side}
use Rattle.rules.specs.Mentions.{is_lent_role}
use Rattle.machine.specs.Frames.{variables_of}
use Rattle.machine.specs.Outcomes.{QueueBounds}
use Rattle.machine.specs.Heaps.{Rooted, occurs, one_if}
use Rattle.machine.specs.World.{Block, block_at, cut_off, is_freed_at, is_inside, owns, read}
use Rattle.machine.specs.declared.halts.Event.{Event}
use Rattle.machine.specs.declared.halts.Fault.{Fault}
use Rattle.semantics.specs.Events.{event_outcome}
use Rattle.semantics.specs.Worlds.{Faulty, Frame, Moved, World, stack_at}
use Rattle.sound.specs.Queues.{IsLiveEnd, QueueIsWalk}

-- The number of variables of a frame that hold this address. A lent parameter does not count, since the caller has the address too.
abbrev pub stands_in : List VariableModel → List (Option ℕ) → ℕ → ℕ
stands_in (v ∷ variables) (Some b ∷ xs) a = (if (b == a) && not (is_lent_role v.role) then 1 else 0) + stands_in variables xs a
stands_in (v ∷ variables) (None ∷ xs) a = stands_in variables xs a
stands_in _ _ a = 0

-- the number of variables that hold this address, in all frames of a process
abbrev pub stands_in_frames : ProgramModel → List Frame → ℕ → ℕ
stands_in_frames p [] a = 0
stands_in_frames p (f ∷ frames) a = stands_in (variables_of p f.method) f.variables a + stands_in_frames p frames a

-- Each owning field of a block that is not freed holds one block, which is inside the block with that
-- field; each block inside another is in exactly one field; and from each address the owners lead to a
-- process, a queue or the channel, or the block at the address is freed.
pub record FieldsOwn (p : ProgramModel) (blocks : List Block) : Type 0 where
  -- a block that is not freed has an address for each owning field of its struct
  pub full : (a : ℕ) → a < length blocks → is_freed_at blocks a ≡ false
      → length (block_at blocks a).fields ≡ length (field_types p.structs (block_at blocks a).ty)
  -- An address occurs once in the fields of the block that it is directly inside, and in no field of another.
  pub once : (a x : ℕ) → occurs (block_at blocks a).fields x ≡ one_if (is_inside (block_at blocks x).owner a)
  -- the chain of owners from each address ends, after finitely many steps, at a block that is inside no other
  pub rooted : (x : ℕ) → Rooted blocks x
  -- a block inside another is inside one that is not freed
  pub alive : (x a : ℕ) → is_inside (block_at blocks x).owner a ≡ true → is_freed_at blocks a ≡ false

-- Safety of a world: no event is a fault; queued messages are those of walks; variables hold only
-- what their process owns, and each block that a process owns is in exactly one of them; what is
-- inside a block is in no variable; owning fields are as FieldsOwn says; what is cut off stays so;
-- an ended process owns nothing.
pub record IsSafe (p : ProgramModel) (bound : QueueBounds) (w : World) : Type 0 where
  -- no event is a fault
  pub no_fault : (e : Event) (fault : Fault) → event_outcome p bound w e ≢ Faulty fault
  -- the queue to each end that is not freed is a walk of its contract
  pub queues : (a contract : ℕ) (side : Side) → IsLiveEnd w.blocks a contract side → QueueIsWalk p w.blocks a contract side
  -- a process owns what its variables have
  pub holds : (q v a : ℕ) → Each (λ f. read f.variables v ≡ Some a → owns w.blocks q a ≡ true) (stack_at w.processes q)
  -- what a process owns is in exactly one of its variables, lent copies not counted
  pub once : (q a : ℕ) → owns w.blocks q a ≡ true → stands_in_frames p (stack_at w.processes q) a ≡ 1
  -- what is inside a block is in no variable, not even as a lent copy
  pub apart : (q v a b : ℕ) → is_inside (block_at w.blocks a).owner b ≡ true
      → Each (λ f. read f.variables v ≢ Some a) (stack_at w.processes q)
  -- owning fields hold exactly what is inside their block, and each holds something
  pub fields : FieldsOwn p w.blocks
  -- what is cut off stays cut off
  pub stays_cut_off : (e : Event) (v : World) (a : ℕ) → event_outcome p bound w e ≡ Moved v → a < length w.blocks
      → cut_off w.blocks a ≡ true → cut_off v.blocks a ≡ true
  -- a process that has ended owns nothing
  pub ended : (q a : ℕ) → stack_at w.processes q ≡ [] → owns w.blocks q a ≡ false
