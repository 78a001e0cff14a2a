-- Lost blocks: not freed, and out of reach of every process.
use Rattle.std.specs.Prelude.{◌≡◌, ◌<◌, ℕ, Contains, List, Some, false, length}
use Rattle.machine.specs.World.{Frame, MessageHeld, World, block_at, is_freed_at}

-- A process reaches the address that a variable of one of its frames has, whoever owns the block there. It reaches what the fields of a
-- reached block hold, and what the messages in the queue of a reached endpoint bring. A process that has ended has no frames.
pub data IsReached (w : World) : ℕ → Type 0 where
  by_variable : (stack : List Frame) (f : Frame) (a : ℕ) → Contains w.processes stack → Contains stack f
      → Contains f.variables (Some a) → IsReached w a
  by_field : (b a : ℕ) → IsReached w b → Contains (block_at w.blocks b).fields a → IsReached w a
  by_message : (b a : ℕ) (m : MessageHeld) → IsReached w b → Contains (block_at w.blocks b).queue m → Contains m.payload a
      → IsReached w a

-- The block at an address is lost: there is one, it is not freed, and no process reaches it.
pub record IsLost (w : World) (a : ℕ) : Type 0 where
  pub there : a < length w.blocks
  pub alive : is_freed_at w.blocks a ≡ false
  pub unreached : IsReached w a → ⊥
