-- The verdicts that were put so far, one after another.
use Rattle.std.specs.Prelude.{ℕ, ◌-◌, ◌≡◌, ◌≤◌, ◌<◌, Option, IsSomeAnd}
use Rattle.analyse.specs.declared.verdict.Verdict.{Verdict}
use Rattle.shelf.specs.Shelves.{IsOwnVerdict, IsOf, index_of, verdict_of}
use Rattle.shelf.specs.declared.receipt.Receipt.{Receipt}
use Rattle.shelf.specs.declared.shelf.Shelf.{Shelf}
use Rattle.shelf.specs.declared.so_far.SoFar.{SoFar}

-- the shelf of the iterator
abbrev pub shelf_of : SoFar → Shelf
shelf_of so_far = so_far.shelf.now

-- the receipt of the latest verdict
abbrev pub last_of : SoFar → Option Receipt
last_of so_far = so_far.last

-- the first index that was not passed yet
abbrev pub next_index : SoFar → ℕ
next_index so_far = so_far.rest.index

-- the number of indices that are left
abbrev pub indices_left : SoFar → ℕ
indices_left so_far = so_far.rest.end - next_index so_far

-- the receipt is of the shelf and reads the verdict; its index was not passed before, and is passed now
pub record IsNextReceipt (old : SoFar) (verdict : Verdict) (new : SoFar) (receipt : Receipt) : Type 0 where
  pub of_shelf : IsOf receipt (shelf_of old)
  pub reads : verdict_of receipt ≡ verdict
  pub unseen : next_index old ≤ index_of receipt
  pub passed : index_of receipt < next_index new

-- the item is a verdict that was put, whose receipt is now the latest; and it is the verdict of its method
pub record GivesVerdict (old : SoFar) (verdict : Verdict) (new : SoFar) : Type 0 where
  pub put : IsSomeAnd (last_of new) (IsNextReceipt old verdict new)
  pub judged : IsOwnVerdict verdict

-- there is no item, since no index is left, and the latest receipt stays
abbrev pub ComesToEnd : SoFar → SoFar → Type 0
ComesToEnd old new = (indices_left new ≡ 0) × (last_of new ≡ last_of old)
