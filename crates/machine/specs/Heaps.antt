-- Blocks inside other blocks.
use Rattle.std.specs.Prelude.{◌≡◌, ◌⊎◌, ℕ, ◌+◌, ◌<◌, ◌==◌, Bool, true, false, List, [], ◌∷◌, ◌++◌, get_or, length}
use Rattle.program.specs.Lists.{is_among}
use Rattle.machine.specs.World.{Block, MessageHeld, block_at, is_freed_at, is_inside, is_process, is_queue, owns}
use Rattle.machine.specs.declared.worlds.Owner.{Owner}
use Rattle.machine.specs.declared.worlds.Owner.TheVariants.{Process, Inside}

-- 1 if it holds, else 0
abbrev pub one_if : Bool → ℕ
one_if true = 1
one_if false = 0

-- how many blocks a process owns
abbrev pub owned_by : List Block → ℕ → ℕ
owned_by [] q = 0
owned_by (b ∷ blocks) q = one_if (is_process b.owner q) + owned_by blocks q

-- how often a number occurs in a list
abbrev pub occurs : List ℕ → ℕ → ℕ
occurs [] n = 0
occurs (x ∷ xs) n = one_if (x == n) + occurs xs n

-- the addresses that the messages of a queue bring
abbrev pub brings : List MessageHeld → List ℕ
brings [] = []
brings (m ∷ ms) = m.payload ++ brings ms

-- Each process owns as many blocks as its count, none if it has no count.
pub record IsCounted (blocks : List Block) (counts : List ℕ) : Type 0 where
  pub counts_are : (q : ℕ) → get_or counts q 0 ≡ owned_by blocks q

-- The messages of a queue bring each block that it owns once, and no other.
pub record QueuesBring (blocks : List Block) : Type 0 where
  pub brings_are : (a j : ℕ) → occurs (brings (block_at blocks a).queue) j ≡ one_if (is_queue (block_at blocks j).owner a)

-- The chain of owners from an address ends, after finitely many steps, at a block that is inside no other. So no block is inside itself.
pub data Rooted (blocks : List Block) : ℕ → Type 0 where
  top : (a : ℕ) → ((b : ℕ) → is_inside (block_at blocks a).owner b ≡ false) → Rooted blocks a
  below : (a b : ℕ) → (block_at blocks a).owner ≡ Inside b → Rooted blocks b → Rooted blocks a

-- The fields of a block hold each block that is directly inside it once, and no other; the owners lead up from each address in
-- finitely many steps; and what a block is inside of is not freed. So from each address the owners lead to a process, a queue or
-- the channel, or the block at the address is freed.
pub record FieldsHold (blocks : List Block) : Type 0 where
  pub holds_are : (a j : ℕ) → occurs (block_at blocks a).fields j ≡ one_if (is_inside (block_at blocks j).owner a)
  pub rooted : (j : ℕ) → Rooted blocks j
  pub alive : (j a : ℕ) → is_inside (block_at blocks j).owner a ≡ true → is_freed_at blocks a ≡ false

-- These blocks are the one at a and all that is inside it, through any number of blocks.
pub record AreAllInside (blocks : List Block) (a : ℕ) (these : ℕ → Bool) : Type 0 where
  pub itself : these a ≡ true
  pub down : (x b : ℕ) → (block_at blocks x).owner ≡ Inside b → these b ≡ true → these x ≡ true
  pub up : (x : ℕ) → these x ≡ true → (x ≡ a) ⊎ ((b : ℕ) × ((block_at blocks x).owner ≡ Inside b) × (these b ≡ true))

-- the invariant of a heap
pub record IsHeap (blocks : List Block) (counts : List ℕ) : Type 0 where
  pub counted : IsCounted blocks counts
  pub brought : QueuesBring blocks
  pub held : FieldsHold blocks

-- an owner may be given a block: a process needs a count
abbrev pub IsListed : List ℕ → Owner → Type 0
IsListed counts (Process q) = q < length counts
IsListed counts _ = Unit {0}

-- whether the owner is a process
abbrev pub of_process : Owner → Bool
of_process (Process q) = true
of_process _ = false

-- each of these blocks is owned by a process
pub record AreOwned (blocks : List Block) (given : List ℕ) : Type 0 where
  pub own : (j : ℕ) → is_among given j ≡ true → of_process (block_at blocks j).owner ≡ true

-- each of these blocks is owned by this process
pub record AreOwnedBy (blocks : List Block) (self : ℕ) (given : List ℕ) : Type 0 where
  pub own : (j : ℕ) → is_among given j ≡ true → owns blocks self j ≡ true

-- no address occurs twice
pub record AreOnce (given : List ℕ) : Type 0 where
  pub once : (j : ℕ) → occurs given j ≡ one_if (is_among given j)
