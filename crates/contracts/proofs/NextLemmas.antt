-- The edge of a state on a message, by the position of its key.
use Rattle.std.proofs.Common.{◌≡◌, ℕ, ◌<◌, List, length, map, get_or, Option, Some, None, sym, ap, ◌∙◌, arith}
use Rattle.std.specs.Ordering.{is_eq}
use Rattle.std.proofs.lemmas.List.{length-map, get_or-map}
use Rattle.std.proofs.lemmas.List.Quantifiers.{position-Some}
use Rattle.program.specs.declared.contract.Edge.{Edge}
use Rattle.program.specs.declared.number.MessageId.{MessageId}
use Rattle.program.specs.declared.number.StateId.{StateId}
use Rattle.lemmas.specs.Places.{first_position}
use Rattle.contracts.specs.Positions.{pair_cmp, key_of}
use Rattle.contracts.specs.Walks.{IsNext}
use Rattle.contracts.proofs.PartLemmas.{contains_map}
use Rattle.lemmas.proofs.FirstPlaces.{position_there}
use Rattle.contracts.proofs.PositionLemmas.{pair_equal, equal_pair}

abbrev key : StateId → MessageId → ℕ × ℕ
key q m = (q.0, m.0)

abbrev state : ℕ × ℕ → StateId
state k = record { 0 = k.0 }

abbrev message : ℕ × ℕ → MessageId
message k = record { 0 = k.1 }

some_none : (i : ℕ) (o : Option ℕ) → o ≡ Some i → o ≡ None → ⊥
some_none i o a b = let e : Some i ≡ None = sym a ∙ b in cc

-- without a position there is no such edge
pub next_none : (edges : List Edge) (q : StateId) (m : MessageId) → first_position pair_cmp (map key_of edges) (key q m) ≡ None → IsNext edges q m None
next_none edges q m none = λ e c from on.
    let same : key q m ≡ key_of e = ap (λ (x : StateId). key x m) (sym from) ∙ ap (key e.from) (sym on) in
    let there = position_there (λ x. is_eq (pair_cmp (key q m) x)) (map key_of edges) (key_of e) (contains_map key_of edges e c) (equal_pair (key q m) (key_of e) same) in
    some_none there.at _ there.is none

-- the edge at the position
pub record Found (edges : List Edge) (q : StateId) (m : MessageId) (i : ℕ) (e : Edge) : Type 0 where
  pub within : i < length edges
  pub from : get_or edges i e ≡ e → e.from ≡ q
  pub on : get_or edges i e ≡ e → e.message ≡ m

pub next_some : (edges : List Edge) (q : StateId) (m : MessageId) (i : ℕ) (e : Edge) → first_position pair_cmp (map key_of edges) (key q m) ≡ Some i → Found edges q m i e
next_some edges q m i e is =
    let at = position-Some (λ x. is_eq (pair_cmp (key q m) x)) (map key_of edges) i (key_of e) is in
    let size = length-map edges key_of in
    let lt = at.0 in
    let below : i < length edges = omega (arith, lt, size) in
    let same : key q m ≡ key_of (get_or edges i e) = pair_equal (key q m) _ at.1 ∙ get_or-map key_of edges i e (key_of e) below in
    record {
      within = below;
      from = λ here. sym (ap state (same ∙ ap key_of here));
      on = λ here. sym (ap message (same ∙ ap key_of here));
    }
