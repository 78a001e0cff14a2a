-- What the names of a contract mean, as the code has it.
use Rattle.std.specs.Prelude.{◌≡◌, ℕ, ◌+◌, ◌^◌, ◌<◌, List, [], ◌∷◌, length}
use Rattle.source.specs.declared.token.Span.{Span}
use Rattle.tree.specs.Trees.{MessageTree, StateTree}
use Rattle.tree.specs.declared.contract as tree
use Rattle.declarations.specs.Declarations.{names_of_messages, names_of_states, counted_states}
use Rattle.declarations.specs.Numbered.{indices_named}
use Rattle.declarations.specs.Outlines.{outlined_messages, outlined_states}
use Rattle.declarations.specs.Resolution.{Meanings, message_meant, state_meant, edge_between}
use Rattle.tables.specs.Tables.{IsTable}
use Rattle.tables.specs.Words.{words_at}
use Rattle.declarations.specs.declared.meaning.Meaning.{Meaning}
use Rattle.program.specs.declared.contract.Edge.{Edge}

abbrev pub text_of : Meaning → List ℕ
text_of m = m.text.now

-- the messages and the states of its contract
abbrev pub messages_in : Meaning → List MessageTree
messages_in m = outlined_messages m.declared.now.outline

abbrev pub states_in : Meaning → List StateTree
states_in m = outlined_states m.declared.now.outline

-- their names
abbrev pub message_names : Meaning → List Span
message_names m = names_of_messages (messages_in m)

abbrev pub state_names : Meaning → List Span
state_names m = names_of_states (states_in m)

-- what names mean in its contract
abbrev pub meanings : Meaning → Meanings
meanings m = record {
  message = message_meant (text_of m) m.messages_before (messages_in m);
  state = state_meant (text_of m) m.states_before (states_in m);
}

-- its tables and indices are those of its contract, and all of its numbers fit into 32 bits
pub record IsMeaning (m : Meaning) : Type 0 where
  pub messages : IsTable (words_at (text_of m) (message_names m)) m.declared.now.messages
  pub states : IsTable (words_at (text_of m) (state_names m)) m.declared.now.states
  pub named : m.named.now ≡ indices_named (states_in m)
  pub message_room : m.messages_before + length (messages_in m) < 2 ^ 32
  pub state_room : m.states_before + length (counted_states (states_in m)) < 2 ^ 32

-- the edges of a path from this edge on; its unnamed states are numbered from `to`
abbrev pub path_left : Meanings → ℕ → ℕ → tree.Edge.Edge → List tree.Edge.Edge → Span → List Edge
path_left means from to edge [] target = edge_between means from edge (means.state target) ∷ []
path_left means from to edge (next ∷ others) target = edge_between means from edge to ∷ path_left means to (to + 1) next others target
