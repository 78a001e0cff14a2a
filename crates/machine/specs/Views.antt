-- Worlds without their memory.
use Rattle.std.specs.Prelude.{ℕ, List, [], ◌∷◌, Option, Some, None, map, reverse}
pub use Rattle.machine.specs.BlockViews.{held_model, block_model, blocks_model}
use Rattle.machine.specs.Bindings.{MayTake, variables_in}
use Rattle.machine.specs.World.{Block, Frame, World}
use Rattle.machine.specs.declared.heaps.BlockHeap.{BlockHeap}
use Rattle.machine.specs.declared.variables.Variables.{Variables}
use Rattle.machine.specs.declared.worlds as made

-- what the variables of a frame have
abbrev pub variables_model : Variables → List (Option ℕ)
variables_model v = variables_in v.count v.bindings.items

-- a variable may be given something without allocating
abbrev pub CanTake : Variables → ℕ → Type 0
CanTake v u = MayTake v.count v.bindings.items u

-- each variable that may be given something without allocating still may
abbrev pub StillTakes : (old new : Variables) → Type 0
StillTakes old new = (u : ℕ) → CanTake old u → CanTake new u

-- a frame
abbrev pub frame_model : made.Frame.Frame → Frame
frame_model f = record { method = f.method.0; point = f.point; variables = variables_model f.variables }

-- the frames of a process: the innermost one, then those that wait, which are listed innermost last
abbrev pub stack_of : Option made.Frame.Frame → List made.Frame.Frame → List Frame
stack_of None waiting = []
stack_of (Some f) waiting = frame_model f ∷ map frame_model (reverse waiting)

-- a process
abbrev pub stack_model : made.Process.Process → List Frame
stack_model p = stack_of p.top p.waiting.items

-- the blocks of a heap
abbrev pub heap_model : BlockHeap → List Block
heap_model h = blocks_model h.blocks.items

-- a world
abbrev pub world_model : made.World.World → World
world_model w = record { processes = map stack_model w.processes.items; blocks = heap_model w.heap }
