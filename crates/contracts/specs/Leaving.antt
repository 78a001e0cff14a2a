-- What an end of a channel can do in a state: the edges along which it sends or receives, and where a message leads.
use Rattle.std.specs.Prelude.{◌≡◌, ℕ, ◌==◌, ◌<◌, Bool, true, false, ◌&&◌, List, [], ◌∷◌, Option, Some, None, filter, if◌then◌else◌}
use Rattle.std.specs.Prelude.{All, Contains, get_or, length, map, take}
use Rattle.program.specs.declared.contract.Edge.{Edge}
use Rattle.program.specs.declared.contract.Sign.{Sign}
use Rattle.program.specs.declared.contract.Sign.TheVariants.{Send, Receive}
use Rattle.program.specs.declared.types.Side.{Side}
use Rattle.program.specs.declared.types.Side.TheVariants.{Imp, Exp}
use Rattle.contracts.specs.declared.arcs.Arc.{Arc}
use Rattle.contracts.specs.Arcs.{ends_from}
use Rattle.contracts.specs.Graphs.{group_at}
use Rattle.contracts.specs.Parts.{MessageModel}

-- the sign of the edges along which an end sends; it receives along those of the other sign
abbrev pub sign_from : Side → Sign
sign_from Imp = Receive
sign_from Exp = Send

-- whether two signs are the same
abbrev pub same_sign : Sign → Sign → Bool
same_sign Send Send = true
same_sign Receive Receive = true
same_sign _ _ = false

-- whether an edge of this sign leaves the state
abbrev pub leaves : Sign → ℕ → Edge → Bool
leaves sign q e = (e.from.0 == q) && same_sign e.sign sign

-- the edges of this sign that leave the state, in order
abbrev pub edges_from : List Edge → Sign → ℕ → List Edge
edges_from edges sign q = filter (leaves sign q) edges

-- the state to which the first of these edges on this message leads
abbrev pub end_on : List Edge → ℕ → Option ℕ
end_on [] message = None
end_on (e ∷ edges) message = if e.message.0 == message then Some e.to.0 else end_on edges message

-- the name of the first message of this number; empty if there is none
abbrev pub name_among : List MessageModel → ℕ → List ℕ
name_among [] message = []
name_among (m ∷ messages) message = if m.id.0 == message then m.name else name_among messages message

-- the edges of either sign from the state, in order
abbrev pub all_from : List Edge → ℕ → List Edge
all_from edges q = filter (λ e. e.from.0 == q) edges

-- the group of each number has the edges from that state, and other states have no edges
abbrev pub AreLeaving : List ℕ → List Edge → List (List Edge) → Type 0
AreLeaving numbers edges lists = (length lists ≡ length numbers)
    × ((v : ℕ) → v < length numbers → group_at lists v ≡ all_from edges (get_or numbers v 0))
    × ((q : ℕ) → (Contains numbers q → ⊥) → all_from edges q ≡ [])

abbrev pub edge_at : List Edge → ℕ → Edge
edge_at edges i = get_or edges i record {
  from = record { 0 = 0 };
  message = record { 0 = 0 };
  sign = Send;
  to = record { 0 = 0 };
  place = record { line = 0; col = 0 };
}

-- for each of the first n edges an arc from the position of its state to its own index
pub record AreSources (numbers : List ℕ) (edges : List Edge) (n : ℕ) (arcs : List Arc) : Type 0 where
  pub within : All (λ a. (a.from < length numbers) × (a.to < length edges)) arcs
  pub group : (v : ℕ) → v < length numbers → map (edge_at edges) (ends_from arcs v) ≡ all_from (take n edges) (get_or numbers v 0)
