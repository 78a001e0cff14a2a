-- For proofs within the crate: which addresses are marked, and what marking more of them changes.
use Rattle.std.specs.Prelude.{◌≡◌, ◌⊎◌, ◌≤◌, ◌+◌, ◌&&◌, ℕ, Bool, true, not, Contains, List, Some, count_by, get_or, length}
use Rattle.contracts.specs.Marking.{IsMarked}
use Rattle.machine.specs.World.{Block, Frame, MessageHeld, World, block_at, is_freed}
use Rattle.lost.specs.Lost.{IsReached}
use Rattle.lost.specs.declared.marking.Reach.{Reach}

-- one of these values has this address, in this sense
abbrev pub OneHas : {B : Type 0} → (B → ℕ → Type 0) → List B → ℕ → Type 0
OneHas {B} Has ys a = (y : B) × Contains ys y × Has y a

-- a message of the queue brings it
abbrev pub Brings : List MessageHeld → ℕ → Type 0
Brings queue = OneHas (λ m. Contains m.payload) queue

-- a field of the block holds it, or a message of its queue brings it
abbrev pub BlockHolds : Block → ℕ → Type 0
BlockHolds b a = Contains b.fields a ⊎ Brings b.queue a

-- a variable of one of these frames has it
abbrev pub Have : List Frame → ℕ → Type 0
Have frames = OneHas (λ f a. Contains f.variables (Some a)) frames

-- a variable of one of these processes has it
abbrev pub HaveAny : List (List Frame) → ℕ → Type 0
HaveAny stacks = OneHas Have stacks

-- the block at an address is marked, or there is none
abbrev pub IsMarkedIfThere : List Bool → ℕ → Type 0
IsMarkedIfThere marks a = get_or marks a true ≡ true

-- how many blocks may still have to be looked into: those without a mark, and the pending ones
abbrev pub to_do : Reach → ℕ
to_do r = count_by not r.marks.items + length r.pending.items

-- The blocks at these addresses are marked, and those that were. What was not marked before is pending; no other block is newly pending.
pub record AddsMarks (Of : ℕ → Type 0) (old new : Reach) : Type 0 where
  pub all : (a : ℕ) → Of a → IsMarkedIfThere new.marks.items a
  pub keeps : (a : ℕ) → IsMarkedIfThere old.marks.items a → IsMarkedIfThere new.marks.items a
  pub only : (a : ℕ) → IsMarked new.marks.items a → IsMarked old.marks.items a ⊎ Contains new.pending.items a
  pub waits : (a : ℕ) → Contains old.pending.items a → Contains new.pending.items a
  pub pending : (a : ℕ) → Contains new.pending.items a → Contains old.pending.items a ⊎ Of a
  pub long : length new.marks.items ≡ length old.marks.items
  pub count : to_do new ≡ to_do old

-- all that the block at an address holds is marked
abbrev pub HoldsOnlyMarked : List Block → List Bool → ℕ → Type 0
HoldsOnlyMarked blocks marks a = (x : ℕ) → BlockHolds (block_at blocks a) x → IsMarkedIfThere marks x

-- What the variables of processes have is marked. What is marked or pending is reached. What is marked is pending, or all that
-- its block holds is marked.
pub record AreMarkedSoFar (w : World) (r : Reach) : Type 0 where
  pub starts : (a : ℕ) → HaveAny w.processes a → IsMarkedIfThere r.marks.items a
  pub right : (a : ℕ) → IsMarked r.marks.items a → IsReached w a
  pub pending : (a : ℕ) → Contains r.pending.items a → IsReached w a
  pub each : (a : ℕ) → IsMarked r.marks.items a → Contains r.pending.items a ⊎ HoldsOnlyMarked w.blocks r.marks.items a
  pub long : length r.marks.items ≡ length w.blocks

-- exactly the blocks that processes reach are marked
pub record AreMarked (w : World) (marks : List Bool) : Type 0 where
  pub long : length marks ≡ length w.blocks
  pub right : (a : ℕ) → IsMarked marks a → IsReached w a
  pub all : (a : ℕ) → IsReached w a → IsMarkedIfThere marks a

-- whether a block is neither freed nor marked
abbrev pub is_unreached : Block → Bool → Bool
is_unreached b mark = not (is_freed b.owner) && not mark

-- The pending blocks of a world were looked into, and what became pending meanwhile, until nothing was left.
abbrev pub FollowsAll : List Block → (old new : Reach) → Type 0
FollowsAll blocks old new = (w : World) → w.blocks ≡ blocks → AreMarkedSoFar w old → to_do old ≤ length blocks
    → AreMarked w new.marks.items
