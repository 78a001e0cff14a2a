-- How blocks change, each by its address, and what the tests ask of them.
use Rattle.std.specs.Prelude.{ℕ, zero, suc, ◌==◌, nat_lt, Bool, true, false, not, ◌&&◌, ◌||◌, if◌then◌else◌}
use Rattle.std.specs.Prelude.{List, [], ◌∷◌, ◌++◌, length, Option, Some, None, is_some, unwrap_or, set}
use Rattle.program.specs.Lists.{is_among}
use Rattle.program.specs.Programs.{ProgramModel}
use Rattle.program.specs.declared.call.Argument.{Argument}
use Rattle.program.specs.declared.types.HeapType.{HeapType}
use Rattle.program.specs.declared.types.HeapType.TheVariants.{Endpoint}
use Rattle.program.specs.declared.types.Side.{Side}
use Rattle.program.specs.declared.types.Side.TheVariants.{Imp}
use Rattle.program.specs.declared.statement.Channel as made
use Rattle.contracts.specs.Leaving.{end_on}
use Rattle.rules.specs.Endpoints.{edges_in, edges_out}
use Rattle.machine.specs.Frames.{address}
use Rattle.machine.specs.Outcomes.{QueueBounds, FaultTest, test}
use Rattle.machine.specs.World.{MessageHeld, Block, block_at, cut_off, is_freed_at, is_process, owns, read}
use Rattle.machine.specs.declared.halts.Fault.TheVariants.{F1, F3, F4, F6}
use Rattle.machine.specs.declared.worlds.Owner.{Owner}
use Rattle.machine.specs.declared.worlds.Owner.TheVariants.{Process, Queue, Inside, Channel, Freed}

-- the block at `j`, after the blocks at these addresses have a new owner
abbrev pub with_new_owner : Owner → List ℕ → ℕ → Block → Block
with_new_owner to given j b = record b { owner = if is_among given j then to else b.owner }

-- whether the owner is a block whose address meets the condition
abbrev pub in_block_of : Owner → (ℕ → Bool) → Bool
in_block_of (Inside b) P = P b
in_block_of _ P = false

-- whether the block at `j` is the block at `a`, or is inside it by a chain of at most this many owners
abbrev pub lies_in : List Block → (most : ℕ) → (a j : ℕ) → Bool
lies_in blocks zero a j = j == a
lies_in blocks (suc most) a j = (j == a) || in_block_of (block_at blocks j).owner (lies_in blocks most a)

-- Whether the block at `j` goes with the block at `a`: it is that block, or is inside it, directly
-- or not. No block is inside itself, so the chain of owners is no longer than the list of blocks.
abbrev pub goes_with : List Block → (a j : ℕ) → Bool
goes_with blocks a j = lies_in blocks (length blocks) a j

-- whether the owner is the queue of an endpoint whose address meets the condition
abbrev pub in_queue_of : Owner → (ℕ → Bool) → Bool
in_queue_of (Queue b) P = P b
in_queue_of _ P = false

-- The block at `j`, after those that go are freed. Their queues are emptied, and what was in these
-- belongs to the channel. Their fields are emptied.
abbrev pub freed_block : (goes : ℕ → Bool) → ℕ → Block → Block
freed_block goes j b = record b {
  owner = if goes j then Freed else (if in_queue_of b.owner goes then Channel else b.owner);
  queue = if goes j then [] else b.queue;
  fields = if goes j then [] else b.fields;
}

-- The block at `j`, after the block at `given` and the one in a field of the block at `at` change
-- places: the first is inside that block now, and the second is the process's.
abbrev pub exchanged_block : (self at field given held : ℕ) → ℕ → Block → Block
exchanged_block self at field given held j b = record b {
  owner = if j == given then Inside at else (if j == held then Process self else b.owner);
  fields = if j == at then set b.fields field given else b.fields;
}

-- The block at `j`, after the endpoint at `a` sends. The endpoint is in a new state, and the
-- message and what it brings are in the queue of the endpoint at `to`. If that one is freed, the
-- message is in no queue, and what it brings belongs to the channel.
abbrev pub sent_block : (a state to : ℕ) (gone : Bool) → MessageHeld → ℕ → Block → Block
sent_block a state to gone m j b = record b {
  owner = if is_among m.payload j then (if gone then Channel else Queue to) else b.owner;
  state = if j == a then state else b.state;
  queue = if (j == to) && not gone then b.queue ++ m ∷ [] else b.queue;
}

-- The block at `j`, after the endpoint at `a` receives the front of its queue. The endpoint is in a
-- new state, and what the message brings is the process's.
abbrev pub received_block : (self a state : ℕ) → MessageHeld → List MessageHeld → ℕ → Block → Block
received_block self a state m rest j b = record b {
  owner = if is_among m.payload j then Process self else b.owner;
  state = if j == a then state else b.state;
  queue = if j == a then rest else b.queue;
}

-- a new block that a process owns, of this type, peer and state, with an empty queue and these addresses in its fields
abbrev pub new_block : HeapType → ℕ → ℕ → ℕ → List ℕ → Block
new_block ty self peer state fields = record {
  ty = ty;
  owner = Process self;
  peer = peer;
  state = state;
  queue = [];
  fields = fields;
}

-- whether a type is an importing end
abbrev pub is_imp : HeapType → Bool
is_imp (Endpoint contract Imp state) = true
is_imp _ = false

-- the type of an end of a channel of a contract; the state in it is 0 and means nothing
abbrev pub end_type : made.Channel → Side → HeapType
end_type c side = Endpoint c.contract side record { 0 = 0 }

-- how many messages the queue to an end of this type may hold
abbrev pub bound_of : QueueBounds → HeapType → ℕ
bound_of bound (Endpoint contract side state) = bound contract.0 side
bound_of bound _ = 0

-- whether a process owns none of these blocks
abbrev pub owns_none : List Block → ℕ → Bool
owns_none [] q = true
owns_none (b ∷ blocks) q = not (is_process b.owner q) && owns_none blocks q

-- whether a process owns the block in a variable, and did not give it away before
abbrev pub is_own_still : List Block → ℕ → List ℕ → Option ℕ → Bool
is_own_still blocks self taken None = false
is_own_still blocks self taken (Some a) = owns blocks self a && not (is_among taken a)

-- the tests of arguments, in order: of a lent one that it may be used, of a claimed one that it may be given away
abbrev pub argument_tests : List Block → ℕ → List (Option ℕ) → List ℕ → List Argument → List FaultTest
argument_tests blocks self variables taken [] = []
argument_tests blocks self variables taken (a ∷ arguments) =
    test (is_own_still blocks self taken (read variables a.mention.variable.0)) (if a.claimed then F3 else F1)
    ∷ argument_tests blocks self variables (if a.claimed then address (read variables a.mention.variable.0) ∷ taken else taken) arguments

-- the state to which the endpoint at an address goes when it sends a message, if an edge allows that
abbrev pub sent_state : ProgramModel → List Block → (at message : ℕ) → Option ℕ
sent_state p blocks at message = end_on (edges_out p (Some (block_at blocks at).ty) (block_at blocks at).state) message

-- whether the endpoint at an address may send a message: it is cut off, or an edge leaves its state on that message
abbrev pub may_send : ProgramModel → List Block → (at message : ℕ) → Bool
may_send p blocks at message = cut_off blocks at || is_some (sent_state p blocks at message)

-- the state of the endpoint at an address after a send; if it is cut off, or no edge allows the send, the state stays
abbrev pub state_after_send : ProgramModel → List Block → (at message : ℕ) → ℕ
state_after_send p blocks at message =
    if cut_off blocks at then (block_at blocks at).state else unwrap_or (sent_state p blocks at message) (block_at blocks at).state

-- whether the queue of the endpoint at an address has room for one more message; if it is freed, there always is
abbrev pub has_room : QueueBounds → List Block → ℕ → Bool
has_room bound blocks to = is_freed_at blocks to || nat_lt (length (block_at blocks to).queue) (bound_of bound (block_at blocks to).ty)

-- the last two tests of a send: the contract allows it, and the queue has room
abbrev pub send_tests : ProgramModel → QueueBounds → List Block → (at message : ℕ) → List FaultTest
send_tests p bound blocks at message =
    test (may_send p blocks at message) F4 ∷ test (has_room bound blocks (block_at blocks at).peer) F6 ∷ []

-- the state to which the endpoint at an address goes when it receives a message, if an edge allows that
abbrev pub received_state : ProgramModel → List Block → (at message : ℕ) → Option ℕ
received_state p blocks at message = end_on (edges_in p (Some (block_at blocks at).ty) (block_at blocks at).state) message

-- the state of the endpoint at an address after a receive; if no edge allows that, the state stays
abbrev pub state_after_receive : ProgramModel → List Block → (at message : ℕ) → ℕ
state_after_receive p blocks at message = unwrap_or (received_state p blocks at message) (block_at blocks at).state
