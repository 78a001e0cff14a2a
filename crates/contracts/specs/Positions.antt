-- Positions of numbers and keys in lists.
use Rattle.std.specs.Prelude.{ℕ, List, Option, Contains, map}
use Rattle.std.specs.List.{range_with_len}
use Rattle.std.specs.declared.cmp.Ordering.{Ordering}
use Rattle.std.specs.Ordering.{nat_cmp, ordering_then}
use Rattle.lemmas.specs.Places.{first_position}
use Rattle.program.specs.declared.contract.Edge.{Edge}
use Rattle.contracts.specs.declared.positions.Listing.{Listing}

-- the numbers of a listing, each one more than the previous one
abbrev pub numbers_of : Listing → List ℕ
numbers_of l = range_with_len l.first l.count

-- the order of pairs of numbers
abbrev pub pair_cmp : ℕ × ℕ → ℕ × ℕ → Ordering
pair_cmp x y = ordering_then (nat_cmp x.0 y.0) (nat_cmp x.1 y.1)

-- the key that tells the edges of a contract apart: the numbers of the state and of the message
abbrev pub key_of : Edge → ℕ × ℕ
key_of e = (e.from.0, e.message.0)

-- the position of the first edge that has the key
abbrev pub first_with : List Edge → ℕ × ℕ → Option ℕ
first_with edges key = first_position pair_cmp (map key_of edges) key

-- the states and the message of the edge are listed
pub record EndsHave (states messages : List ℕ) (e : Edge) : Type 0 where
  pub from : Contains states e.from.0
  pub to : Contains states e.to.0
  pub message : Contains messages e.message.0
