-- The world of the machine: each process is a stack of frames, innermost first, and each block has an address.
use Rattle.std.specs.Prelude.{ℕ, suc, ◌==◌, Bool, true, false, ◌&&◌, List, [], ◌∷◌, Option, Some, None, get_or, set, if◌then◌else◌}
use Rattle.program.specs.declared.call.Argument.{Argument}
use Rattle.program.specs.declared.types.HeapType.{HeapType}
use Rattle.program.specs.declared.types.HeapType.TheVariants.{Struct}
use Rattle.machine.specs.declared.worlds.Owner.{Owner}
use Rattle.machine.specs.declared.worlds.Owner.TheVariants.{Process, Queue, Inside, Channel, Freed}

-- a message in a queue: its number, and the addresses of the blocks that it brings
pub record MessageHeld : Type 0 where
  pub message : ℕ
  pub payload : List ℕ

-- A block. Its peer, state and queue mean something only if it is an endpoint. Its fields are the
-- addresses in the owning fields of a struct, in order; a freed block has none.
pub record Block : Type 0 where
  pub ty : HeapType
  pub owner : Owner
  pub peer : ℕ
  pub state : ℕ
  pub queue : List MessageHeld
  pub fields : List ℕ

-- a frame: a method at a point, and the address in each of its variables
pub record Frame : Type 0 where
  pub method : ℕ
  pub point : ℕ
  pub variables : List (Option ℕ)

-- the frames of each process, none once it has ended, and the blocks
pub record World : Type 0 where
  pub processes : List (List Frame)
  pub blocks : List Block

-- the type of a variable that does not exist
abbrev pub no_type : HeapType
no_type = Struct record { 0 = 0 }

-- the block at an address that has none: no process owns it, and it is not freed
abbrev pub no_block : Block
no_block = record { ty = no_type; owner = Channel; peer = 0; state = 0; queue = []; fields = [] }

-- the block at an address
abbrev pub block_at : List Block → ℕ → Block
block_at blocks a = get_or blocks a no_block

-- the frames of a process
abbrev pub stack_at : List (List Frame) → ℕ → List Frame
stack_at processes q = get_or processes q []

-- the address in a variable
abbrev pub read : List (Option ℕ) → ℕ → Option ℕ
read variables v = get_or variables v None

-- whether the owner is this process
abbrev pub is_process : Owner → ℕ → Bool
is_process (Process q) p = q == p
is_process _ p = false

-- whether it is the queue of the endpoint at this address
abbrev pub is_queue : Owner → ℕ → Bool
is_queue (Queue b) a = b == a
is_queue _ a = false

-- whether the owner is the block at this address
abbrev pub is_inside : Owner → ℕ → Bool
is_inside (Inside b) a = b == a
is_inside _ a = false

-- whether the owner is nobody any more: the block is freed
abbrev pub is_freed : Owner → Bool
is_freed Freed = true
is_freed _ = false

-- whether a list is empty
abbrev pub is_empty : {X : Type 0} → List X → Bool
is_empty [] = true
is_empty (x ∷ xs) = false

-- whether a process owns the block at an address
abbrev pub owns : List Block → ℕ → ℕ → Bool
owns blocks q a = is_process (block_at blocks a).owner q

-- whether a process owns the block in a variable
abbrev pub is_own : List Block → ℕ → Option ℕ → Bool
is_own blocks self None = false
is_own blocks self (Some a) = owns blocks self a

-- whether the block at an address is freed
abbrev pub is_freed_at : List Block → ℕ → Bool
is_freed_at blocks a = is_freed (block_at blocks a).owner

-- whether an endpoint is cut off: its peer is freed, and its own queue is empty
abbrev pub cut_off : List Block → ℕ → Bool
cut_off blocks a = is_freed_at blocks (block_at blocks a).peer && is_empty (block_at blocks a).queue

-- the blocks after this function is applied to each address and its block
abbrev pub change_each : (ℕ → Block → Block) → List Block → List Block
change_each f [] = []
change_each f (b ∷ blocks) = f 0 b ∷ change_each (λ a. f (suc a)) blocks

-- variables after arguments are given: what is claimed is gone
abbrev pub let_go : List (Option ℕ) → List Argument → List (Option ℕ)
let_go variables [] = variables
let_go variables (a ∷ arguments) = let_go (if a.claimed then set variables a.mention.variable.0 None else variables) arguments
