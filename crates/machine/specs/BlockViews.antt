-- Blocks without their memory.
use Rattle.std.specs.Prelude.{List, map}
use Rattle.machine.specs.World.{MessageHeld, Block}
use Rattle.machine.specs.declared.worlds.Block as made_block
use Rattle.machine.specs.declared.worlds.Held as made_held

-- a message in a queue
abbrev pub held_model : made_held.Held → MessageHeld
held_model h = record { message = h.message.0; payload = h.payload.items }

-- a block
abbrev pub block_model : made_block.Block → Block
block_model b = record {
  ty = b.ty;
  owner = b.owner;
  peer = b.peer;
  state = b.state.0;
  queue = map held_model b.queue.items;
  fields = b.fields.items;
}

-- all blocks, by their addresses
abbrev pub blocks_model : List made_block.Block → List Block
blocks_model blocks = map block_model blocks
