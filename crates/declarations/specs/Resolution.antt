-- Contracts with their names resolved to numbers. Messages and states are counted through the whole text, unnamed states included.
use Rattle.std.specs.Prelude.{ℕ, ◌+◌, List, [], ◌∷◌, ◌++◌, length, map, take, codes}
use Rattle.std.specs.List.{flat_map, enumerate_from, range_with_len}
use Rattle.std.specs.Option.{option_map_or}
use Rattle.std.specs.Str.Lossy.{utf8_lossy}
use Rattle.source.specs.declared.place.Place.{Place}
use Rattle.source.specs.declared.token.Span.{Span}
use Rattle.tree.specs.Trees.{ContractTree, MessageTree, StateTree, PathTree}
use Rattle.tree.specs.declared.contract as tree
use Rattle.declarations.specs.Declarations.{messages_of, states_of, paths_of, unnamed_of, counted_states}
use Rattle.declarations.specs.Declarations.{names_of_messages, names_of_states, first_among}
use Rattle.program.specs.Parts.{StateModel, MessageModel, ContractModel}
use Rattle.tables.specs.Words.{word_at}
use Rattle.program.specs.declared.contract.Edge.{Edge}

-- what each element adds, which may depend on those before it, in order
abbrev pub each_behind : {X Y : Type 0} → (List X → X → List Y) → List X → List X → List Y
each_behind f before [] = []
each_behind f before (x ∷ xs) = f before x ++ each_behind f (before ++ x ∷ []) xs

-- a name as it is printed
abbrev pub printed_name : List ℕ → Span → List ℕ
printed_name text name = utf8_lossy (word_at text name)

-- a message with its number
abbrev pub numbered_message : List ℕ → ℕ → MessageTree → MessageModel
numbered_message text number m = record { id = record { 0 = number }; name = printed_name text m.name; direction = m.direction }

-- the messages of a contract, numbered from `first`
abbrev pub messages_from : List ℕ → ℕ → List MessageTree → List MessageModel
messages_from text first messages = map (λ p. numbered_message text p.0 p.1) (enumerate_from first messages)

-- a state that has no number yet: its name as printed, and its place
pub record UnnumberedState : Type 0 where
  pub name : List ℕ
  pub place : Place

-- a state that has a name
abbrev pub named_state : List ℕ → Span → UnnumberedState
named_state text name = record { name = printed_name text name; place = name.place }

-- an unnamed state, printed as its message in parentheses
abbrev pub unnamed_state : List ℕ → Span → UnnumberedState
unnamed_state text message = record { name = codes "(" ++ (printed_name text message ++ codes ")"); place = message.place }

-- a named state, then the unnamed states of its paths
abbrev pub counted_in : List ℕ → StateTree → List UnnumberedState
counted_in text s = named_state text s.name ∷ map (unnamed_state text) (flat_map unnamed_of (paths_of s.body))

-- a state with its number
abbrev pub numbered_state : ℕ → UnnumberedState → StateModel
numbered_state number s = record { id = record { 0 = number }; name = s.name; place = s.place }

-- states, numbered from `first`
abbrev pub numbered_states : ℕ → List UnnumberedState → List StateModel
numbered_states first states = map (λ p. numbered_state p.0 p.1) (enumerate_from first states)

-- the states of a contract, numbered from `first`
abbrev pub states_from : List ℕ → ℕ → List StateTree → List StateModel
states_from text first states = numbered_states first (flat_map (counted_in text) states)

-- the number of the first of these messages with this name, if they are numbered from `first`; 0 if there is none
abbrev pub message_meant : List ℕ → ℕ → List MessageTree → Span → ℕ
message_meant text first messages name = option_map_or (λ k. first + k) (first_among text (names_of_messages messages) name) 0

-- the number of the first of these states with this name, if they are numbered from `first`, unnamed ones included; 0 if there is none
abbrev pub state_meant : List ℕ → ℕ → List StateTree → Span → ℕ
state_meant text first states name =
    option_map_or (λ k. first + length (counted_states (take k states))) (first_among text (names_of_states states) name) 0

-- the numbers that the names in the edges of a contract mean
pub record Meanings : Type 0 where
  pub message : Span → ℕ
  pub state : Span → ℕ

-- an edge from one state to another
abbrev pub edge_between : Meanings → ℕ → tree.Edge.Edge → ℕ → Edge
edge_between means from e to = record {
  from = record { 0 = from };
  message = record { 0 = means.message e.message };
  sign = e.sign;
  to = record { 0 = to };
  place = e.message.place;
}

-- edges in a row, from a state through these states in order
abbrev pub edges_through : Meanings → ℕ → List ℕ → List tree.Edge.Edge → List Edge
edges_through means from stops [] = []
edges_through means from [] (e ∷ edges) = []
edges_through means from (to ∷ stops) (e ∷ edges) = edge_between means from e to ∷ edges_through means to stops edges

-- the edges of a path: from its state, through its unnamed states, numbered in a row, to the state that it names
abbrev pub path_edges : Meanings → ℕ → ℕ → PathTree → List Edge
path_edges means from unnamed p =
    edges_through means from (range_with_len unnamed (length p.others) ++ means.state p.target ∷ []) (p.first ∷ p.others)

-- the edges of all paths of one state; its unnamed states are numbered after it, path by path
abbrev pub paths_edges : Meanings → ℕ → List PathTree → List Edge
paths_edges means from paths = each_behind (λ before p. path_edges means from (from + 1 + length (flat_map unnamed_of before)) p) [] paths

-- the edges of a contract whose states are numbered from `first`
abbrev pub edges_from : Meanings → ℕ → List StateTree → List Edge
edges_from means first states =
    each_behind (λ before s. paths_edges means (first + length (counted_states before)) (paths_of s.body)) [] states

-- A contract of these messages and states, numbered from these numbers. Its initial state is the first one in the text.
abbrev pub resolved_contract : List ℕ → ℕ → ℕ → Span → List MessageTree → List StateTree → ContractModel
resolved_contract text first_message first_state name messages states = record {
  name = printed_name text name;
  parts = record {
    first = record { 0 = first_state };
    states = states_from text first_state states;
    messages = messages_from text first_message messages;
    edges = edges_from (record {
      message = message_meant text first_message messages;
      state = state_meant text first_state states;
    }) first_state states;
  };
}

-- how many messages these contracts have
abbrev pub message_count : List ContractTree → ℕ
message_count contracts = length (flat_map messages_of contracts)

-- how many states these contracts have, unnamed ones included
abbrev pub state_count : List ContractTree → ℕ
state_count contracts = length (flat_map (λ c. counted_states (states_of c)) contracts)

-- the contracts of a program, in order
abbrev pub resolved_contracts : List ℕ → List ContractTree → List ContractModel
resolved_contracts text contracts = each_behind (λ before c.
    resolved_contract text (message_count before) (state_count before) c.name (messages_of c) (states_of c) ∷ []) [] contracts
