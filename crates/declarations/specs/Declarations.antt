-- What a program declares.
use Rattle.std.specs.Prelude.{ℕ, Bool, List, [], ◌∷◌, ◌++◌, map, Option, None, Some, is_some}
use Rattle.std.specs.List.{flat_map}
use Rattle.source.specs.declared.token.Span.{Span}
use Rattle.tree.specs.declared.contract.MessageParameter.{MessageParameter}
use Rattle.tree.specs.Trees.{ContractTree, MessageTree, StateTree, BodyTree, Empty, Path, One, MemberTree, Message, State, PathTree}
use Rattle.tables.specs.Firsts.{first_of}
use Rattle.tables.specs.Words.{word_at, words_at}

-- the message that a member of a contract is, if it is one
abbrev pub message_among : MemberTree → List MessageTree
message_among (Message m) = m ∷ []
message_among (State s) = []

-- the state that a member of a contract is, if it is one
abbrev pub state_among : MemberTree → List StateTree
state_among (Message m) = []
state_among (State s) = s ∷ []

-- the messages of a contract, in order
abbrev pub messages_of : ContractTree → List MessageTree
messages_of c = c.messages ++ flat_map message_among c.members

-- the named states of a contract, in order
abbrev pub states_of : ContractTree → List StateTree
states_of c = c.state ∷ flat_map state_among c.members

-- the paths of a state
abbrev pub paths_of : BodyTree → List PathTree
paths_of Empty = []
paths_of (Path p) = p ∷ []
paths_of (One paths close semicolon) = paths

-- the parameters of a message; none if there is no message
abbrev pub bound_params : Option MessageTree → List MessageParameter
bound_params None = []
bound_params (Some m) = m.params

-- the names of messages
abbrev pub names_of_messages : List MessageTree → List Span
names_of_messages messages = map (λ m. m.name) messages

-- the names of states
abbrev pub names_of_states : List StateTree → List Span
names_of_states states = map (λ s. s.name) states

-- the unnamed states of a path, each by its message: every message of a path but the first makes one
abbrev pub unnamed_of : PathTree → List Span
unnamed_of p = map (λ e. e.message) p.others

-- one name for each state that a state declares: its own, then the messages of its unnamed states
abbrev pub counted_in_state : StateTree → List Span
counted_in_state s = s.name ∷ flat_map unnamed_of (paths_of s.body)

-- the same for several states
abbrev pub counted_states : List StateTree → List Span
counted_states states = flat_map counted_in_state states

-- the names of contracts
abbrev pub names_of_contracts : List ContractTree → List Span
names_of_contracts contracts = map (λ c. c.name) contracts

-- the index of the first of these names that is written like `name`
abbrev pub first_among : List ℕ → List Span → Span → Option ℕ
first_among text names name = first_of (words_at text names) (word_at text name)

-- whether one of these names is written like `name`
abbrev pub is_declared : List ℕ → List Span → Span → Bool
is_declared text names name = is_some (first_among text names name)
