-- Why a condition of a contract is broken: edges that show it.
use Rattle.std.specs.Prelude.{◌≡◌, ◌≢◌, ◌<◌, ◌-◌, ◌++◌, ℕ, true, false, List, [], ◌∷◌, Option, Some, Contains, map, slice_get, codes}
use Rattle.std.specs.Option.{option_map_or}
use Rattle.contracts.specs.Conditions.{IsFlaw}
use Rattle.contracts.specs.Walks.{HasSign, IsWalk}
use Rattle.program.specs.Parts.{MessageModel, Parts, StateModel}
use Rattle.program.specs.declared.contract.Direction.{Direction}
use Rattle.program.specs.declared.contract.Direction.TheVariants.{In, Out}
use Rattle.program.specs.declared.contract.Edge.{Edge}
use Rattle.program.specs.declared.contract.Sign.{Sign}
use Rattle.program.specs.declared.contract.Sign.TheVariants.{Send, Receive}
use Rattle.source.specs.declared.finding.Code.{Code}
use Rattle.source.specs.declared.finding.Code.TheVariants.{C01, C02, C03, C04}
use Rattle.source.specs.declared.place.Place.{Place}
use Rattle.explanations.specs.Explained.{ExplainedModel, is_asked}
use Rattle.explanations.specs.Lines.{LineModel, line, name_of_state}

-- the name of a message; messages have consecutive numbers, from the first one on
abbrev pub name_of_message : Parts → ℕ → List ℕ
name_of_message parts m =
    option_map_or (λ x. x.name) (slice_get parts.messages (m - option_map_or (λ x. x.id.0) (slice_get parts.messages 0) 0)) []

abbrev pub sign_text : Sign → List ℕ
sign_text Send = codes "!"
sign_text Receive = codes "?"

-- `M! -> S`, at the message
abbrev pub edge_line : Parts → Edge → LineModel
edge_line parts e = line e.place (name_of_message parts e.message.0 ++ (sign_text e.sign ++ (codes " -> " ++ name_of_state parts e.to.0)))

-- the message of the edge at the place has this direction
pub record IsDirectionAt (parts : Parts) (place : Place) (direction : Direction) : Type 0 where
  pub edge : Edge
  pub there : Contains parts.edges edge
  pub its : edge.place ≡ place
  pub message : MessageModel
  pub listed : Contains parts.messages message
  pub same : message.id ≡ edge.message
  pub is : message.direction ≡ direction

-- the sign that a message takes
abbrev pub taken_sign_text : Direction → List ℕ
taken_sign_text In = codes "an in message is followed by ?"
taken_sign_text Out = codes "an out message is followed by !"

-- the line with the sign that the message of the edge at the place takes
abbrev pub HasDirection : Parts → Place → List LineModel → Type 0
HasDirection parts place lines =
    (direction : Direction) × IsDirectionAt parts place direction × (lines ≡ line place (taken_sign_text direction) ∷ [])

-- the edge at the place has the message of an earlier one of its state, which is shown
pub record ShowsEarlier (edges : List Edge) (place : Place) (shown : List Edge) : Type 0 where
  pub at : ℕ
  pub edge : Edge
  pub there : slice_get edges at ≡ Some edge
  pub its : edge.place ≡ place
  pub before : ℕ
  pub less : before < at
  pub earlier : Edge
  pub first : slice_get edges before ≡ Some earlier
  pub state : earlier.from ≡ edge.from
  pub message : earlier.message ≡ edge.message
  pub is : shown ≡ earlier ∷ []

-- the state at the place has edges of both signs, and one of each is shown
pub record ShowsBoth (parts : Parts) (place : Place) (shown : List Edge) : Type 0 where
  pub state : StateModel
  pub there : Contains parts.states state
  pub its : state.place ≡ place
  pub sends : Edge
  pub sends_in : Contains parts.edges sends
  pub sends_from : sends.from ≡ state.id
  pub sends_sign : sends.sign ≡ Send
  pub receives : Edge
  pub receives_in : Contains parts.edges receives
  pub receives_from : receives.from ≡ state.id
  pub receives_sign : receives.sign ≡ Receive
  pub is : shown ≡ sends ∷ receives ∷ []

-- edges of one sign lead from the state at the place back to it, and are shown
pub record ShowsRound (parts : Parts) (place : Place) (shown : List Edge) : Type 0 where
  pub state : StateModel
  pub there : Contains parts.states state
  pub its : state.place ≡ place
  pub sign : Sign
  pub some : shown ≢ []
  pub walk : IsWalk parts.edges state.id shown state.id
  pub one_sign : HasSign sign shown

-- the edges show the finding of this code at a place
pub data Shows (parts : Parts) (code : Code) (place : Place) (shown : List Edge) : Type 0 where
  Earlier : code ≡ C02 → ShowsEarlier parts.edges place shown → Shows parts code place shown
  Both : code ≡ C03 → ShowsBoth parts place shown → Shows parts code place shown
  Round : code ≡ C04 → ShowsRound parts place shown → Shows parts code place shown

-- edges that show the finding, each as a line
pub record HasEdges (parts : Parts) (e : ExplainedModel) : Type 0 where
  pub shown : List Edge
  pub show : Shows parts e.finding.code e.finding.place shown
  pub lines : e.lines ≡ map (edge_line parts) shown

-- What is shown of a finding, if it is asked for: for C01 the sign that its message takes, for C02 to C04 edges that show it. A
-- finding of C04 may have no lines, since the search for its ring has a limit. What is no finding of the contract may have none.
pub data IsShown (named : Option Place) (parts : Parts) (e : ExplainedModel) : Type 0 where
  NotAsked : is_asked named e.finding.place ≡ false → e.lines ≡ [] → IsShown named parts e
  BySign : is_asked named e.finding.place ≡ true → e.finding.code ≡ C01 → HasDirection parts e.finding.place e.lines → IsShown named parts e
  ByEdges : is_asked named e.finding.place ≡ true → HasEdges parts e → IsShown named parts e
  NoRing : e.finding.code ≡ C04 → e.lines ≡ [] → IsShown named parts e
  NoFlaw : (IsFlaw parts e.finding → ⊥) → e.lines ≡ [] → IsShown named parts e
