-- For proofs: tables with what shows the findings of a contract, by their places.
use Rattle.std.specs.Prelude.{◌≡◌, ◌⊎◌, ℕ, List, [], ◌∷◌, Some, None, Contains}
use Rattle.std.specs.BTreeMap.{BTreeMap, ContainsKey, get}
use Rattle.std.specs.declared.cmp.Ordering.{Ordering}
use Rattle.contracts.specs.Positions.{key_of, pair_cmp}
use Rattle.program.specs.Parts.{MessageModel, Parts, contract_parts}
use Rattle.program.specs.declared.contract.Contract.{Contract}
use Rattle.program.specs.declared.contract.Direction.{Direction}
use Rattle.program.specs.declared.contract.Edge.{Edge}
use Rattle.program.specs.declared.contract.Sign.{Sign}
use Rattle.program.specs.declared.contract.State.{State}
use Rattle.source.specs.declared.finding.Code.{Code}
use Rattle.source.specs.declared.finding.Code.TheVariants.{C04}
use Rattle.source.specs.declared.place.Place.{Place}
use Rattle.contract_traces.specs.Shown.{IsDirectionAt, Shows, ShowsBoth, ShowsEarlier}
use Rattle.contract_traces.specs.declared.firsts.EdgesSoFar.{EdgesSoFar}
use Rattle.contract_traces.specs.declared.reasons.Reasons.{Reasons}

-- a place as a key: its line and its column
abbrev pub key_of_place : Place → ℕ × ℕ
key_of_place place = (place.line, place.col)

abbrev pub place_of_key : ℕ × ℕ → Place
place_of_key key = record { line = key.0; col = key.1 }

-- the table has a value for each key that is related to one, and each of its values is related to its key
pub record IsTableOf {K V : Type 0} (cmp : K → K → Ordering) (R : K → V → Type 0) (table : BTreeMap K V) : Type 0 where
  pub right : (k : K) (v : V) → get cmp table k ≡ Some v → R k v
  pub all : (k : K) (v : V) → R k v → ContainsKey cmp table k

-- the new table has the keys of the old one and this one; each of its values is one of the old table, or this one
pub record AddsEntry {K V : Type 0} (cmp : K → K → Ordering) (old new : BTreeMap K V) (key : K) (value : V) : Type 0 where
  pub right : (k : K) (v : V) → get cmp new k ≡ Some v → (get cmp old k ≡ Some v) ⊎ ((k ≡ key) × (v ≡ value))
  pub kept : (k : K) → ContainsKey cmp old k → ContainsKey cmp new k
  pub here : ContainsKey cmp new key

-- a message with this number has this direction
pub record HasMessage (messages : List MessageModel) (number : ℕ) (direction : Direction) : Type 0 where
  pub message : MessageModel
  pub listed : Contains messages message
  pub its : message.id.0 ≡ number
  pub is : message.direction ≡ direction

-- what shows a finding, by its place as a key
abbrev pub HasDirectionAt : Parts → ℕ × ℕ → Direction → Type 0
HasDirectionAt parts key direction = IsDirectionAt parts (place_of_key key) direction

abbrev pub IsEarlierIn : List Edge → ℕ × ℕ → Edge → Type 0
IsEarlierIn edges key earlier = ShowsEarlier edges (place_of_key key) (earlier ∷ [])

abbrev pub HasBothAt : Parts → ℕ × ℕ → Edge × Edge → Type 0
HasBothAt parts key both = ShowsBoth parts (place_of_key key) (both.0 ∷ both.1 ∷ [])

pub record HasStateAt (states : List State) (key : ℕ × ℕ) (state : State) : Type 0 where
  pub there : Contains states state
  pub its : key_of_place state.place ≡ key

-- an edge with this sign from the state with this number
pub record IsFirstBy (edges : List Edge) (sign : Sign) (number : ℕ) (edge : Edge) : Type 0 where
  pub there : Contains edges edge
  pub from : edge.from.0 ≡ number
  pub its : edge.sign ≡ sign

-- an edge with this state and message
pub record IsFirstOf (edges : List Edge) (key : ℕ × ℕ) (edge : Edge) : Type 0 where
  pub there : Contains edges edge
  pub its : key_of edge ≡ key

-- one more edge was noted: it noted an earlier one, or is the first of its state and message
pub data NotesEdge (edge : Edge) (old new : EdgesSoFar) : Type 0 where
  Again : (first : Edge) → get pair_cmp old.firsts (key_of edge) ≡ Some first → new.firsts ≡ old.firsts
      → AddsEntry pair_cmp old.earlier new.earlier (key_of_place edge.place) first → NotesEdge edge old new
  First : get pair_cmp old.firsts (key_of edge) ≡ None → AddsEntry pair_cmp old.firsts new.firsts (key_of edge) edge
      → new.earlier ≡ old.earlier → NotesEdge edge old new

-- what shows the findings of a contract
pub record AreReasonsFor (contract : Contract) (reasons : Reasons) : Type 0 where
  pub directions : IsTableOf pair_cmp (HasDirectionAt (contract_parts contract)) reasons.directions
  pub earlier : IsTableOf pair_cmp (IsEarlierIn contract.edges.items) reasons.earlier
  pub both : IsTableOf pair_cmp (HasBothAt (contract_parts contract)) reasons.both
  pub states : IsTableOf pair_cmp (HasStateAt contract.states.items) reasons.states

-- the list has the property; it is empty only if no list has it
abbrev pub IsOneOrNone : {X : Type 0} → (List X → Type 0) → List X → Type 0
IsOneOrNone {X} P [] = (xs : List X) → P xs → ⊥
IsOneOrNone P (x ∷ xs) = P (x ∷ xs)

-- the edges show the finding of this code at the place; there are none if none do, or if a ring was not found
pub data AreShowing (parts : Parts) (code : Code) (place : Place) (shown : List Edge) : Type 0 where
  Showing : Shows parts code place shown → AreShowing parts code place shown
  NotFound : code ≡ C04 → shown ≡ [] → AreShowing parts code place shown
  Nothing : ((edges : List Edge) → Shows parts code place edges → ⊥) → shown ≡ [] → AreShowing parts code place shown
