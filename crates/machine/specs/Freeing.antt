-- For proofs within the crate: the steps by which a block is freed with all that is inside it.
use Rattle.std.specs.Prelude.{◌≡◌, ◌⊎◌, false, ℕ, ◌==◌, List, [], ◌∷◌, ◌++◌, Option, Some, None, if◌then◌else◌}
use Rattle.machine.specs.Blocks.{freed_block}
use Rattle.machine.specs.World.{Block, block_at, change_each, is_inside}
use Rattle.machine.specs.declared.worlds.Owner.TheVariants.{Inside}

-- the block at an address has these left in its fields
abbrev pub fields_left : ℕ → List ℕ → ℕ → Block → Block
fields_left x rest j b = record b { fields = if j == x then rest else b.fields }

-- The block at x gives up its last field, which held inner.
pub record IsPopped (old new : List Block) (x inner : ℕ) : Type 0 where
  pub rest : List ℕ
  pub fields : (block_at old x).fields ≡ rest ++ inner ∷ []
  pub blocks : new ≡ change_each (fields_left x rest) old

-- one block alone is freed
abbrev pub freed_one : ℕ → ℕ → Block → Block
freed_one x = freed_block (λ j. j == x)

-- The block at x, whose fields hold nothing, is freed.
pub record IsAlone (old new : List Block) (x : ℕ) : Type 0 where
  pub empty : (block_at old x).fields ≡ []
  pub blocks : new ≡ change_each (freed_one x) old

-- A step goes to what the last field of x held. If the fields of x hold nothing, x is freed, and the step goes to the
-- block that x was inside, or the path ends.
abbrev pub IsStep : (old new : List Block) → ℕ → Option ℕ → Type 0
IsStep old new x None = IsAlone old new x × ((b : ℕ) → is_inside (block_at old x).owner b ≡ false)
IsStep old new x (Some y) = IsPopped old new x y ⊎ (IsAlone old new x × ((block_at old x).owner ≡ Inside y))
