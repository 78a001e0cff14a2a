-- Resolved contracts, part by part.
use Rattle.std.proofs.Common.{◌≡◌, ℕ, List, length, map, string_bytes, ap, sym, ◌∙◌}
use Rattle.std.specs.List.{enumerate_from, flat_map}
use Rattle.std.proofs.lemmas.List.{length-map}
use Rattle.std.proofs.lemmas.List.FromFn.{length-enumerate_from}
use Rattle.source.specs.declared.token.Span.{Span}
use Rattle.tree.specs.Trees.{MessageTree, StateTree}
use Rattle.declarations.specs.Declarations.{counted_states}
use Rattle.declarations.specs.Outlines.{outlined_messages, outlined_states}
use Rattle.program.specs.Parts.{MessageModel, StateModel, message_model, state_model, ContractModel, contract_model}
use Rattle.declarations.specs.Ready.{resolved_declared}
use Rattle.declarations.specs.Resolution.{counted_in, edges_from, message_meant, messages_from, numbered_message, numbered_state, printed_name, resolved_contract, state_meant, states_from}
use Rattle.declarations.specs.declared.members.Declared.{Declared}
use Rattle.program.specs.declared.contract.Contract.{Contract}
use Rattle.program.specs.declared.contract.Edge.{Edge}
use Rattle.program.specs.declared.number.StateId.{StateId}
use Rattle.declarations.proofs.MeantLemmas.{as_counted}

pub seen_is : (text : List ℕ) (message state : ℕ) (name : Span) (messages : List MessageTree) (states : List StateTree) (c : Contract) → string_bytes c.name ≡ printed_name text name → c.first ≡ record { 0 = state }
    → map (state_model (string_bytes c.state_names)) c.states.items ≡ states_from text state states → map message_model c.messages.items ≡ messages_from text message messages
    → c.edges.items ≡ edges_from (record { message = message_meant text message messages; state = state_meant text state states }) state states
    → contract_model c ≡ resolved_contract text message state name messages states
seen_is text message state name messages states c name-is first-is states-are messages-are edges-are =
    let seen : List ℕ → StateId → List StateModel → List MessageModel → List Edge → ContractModel = λ n f ss ms es. record { name = n; parts = record { first = f; states = ss; messages = ms; edges = es } } in
    let all = map (state_model (string_bytes c.state_names)) c.states.items in
    ap (λ n. seen n c.first all (map message_model c.messages.items) c.edges.items) name-is
    ∙ ap (λ f. seen (printed_name text name) f all (map message_model c.messages.items) c.edges.items) first-is
    ∙ ap (λ ss. seen (printed_name text name) (record { 0 = state }) ss (map message_model c.messages.items) c.edges.items) states-are
    ∙ ap (λ ms. seen (printed_name text name) (record { 0 = state }) (states_from text state states) ms c.edges.items) messages-are
    ∙ ap (seen (printed_name text name) (record { 0 = state }) (states_from text state states) (messages_from text message messages)) edges-are

-- a resolved contract has as many messages and states as are declared and counted
seen_messages : (text : List ℕ) (message state : ℕ) (name : Span) (messages : List MessageTree) (states : List StateTree) (c : Contract) → contract_model c ≡ resolved_contract text message state name messages states → length c.messages.items ≡ length messages
seen_messages text message state name messages states c is =
    sym (length-map c.messages.items message_model) ∙ ap (λ s. length s.parts.messages) is
    ∙ length-map (enumerate_from message messages) (λ p. numbered_message text p.0 p.1) ∙ length-enumerate_from message messages

seen_states : (text : List ℕ) (message state : ℕ) (name : Span) (messages : List MessageTree) (states : List StateTree) (c : Contract) → contract_model c ≡ resolved_contract text message state name messages states → length c.states.items ≡ length (counted_states states)
seen_states text message state name messages states c is =
    let counted = flat_map (counted_in text) states in
    sym (length-map c.states.items (state_model (string_bytes c.state_names))) ∙ ap (λ s. length s.parts.states) is
    ∙ length-map (enumerate_from state counted) (λ p. numbered_state p.0 p.1) ∙ length-enumerate_from state counted
    ∙ as_counted text states

-- a contract that is resolved has as many messages and states as what it declares
pub record AsMany (d : Declared) (c : Contract) : Type 0 where
  pub messages : length c.messages.items ≡ length (outlined_messages d.outline)
  pub states : length c.states.items ≡ length (counted_states (outlined_states d.outline))

pub as_many : (text : List ℕ) (message state : ℕ) (d : Declared) (c : Contract) → contract_model c ≡ resolved_declared text message state d → AsMany d c
as_many text message state d c seen = record {
  messages = seen_messages text message state d.outline.name (outlined_messages d.outline) (outlined_states d.outline) c seen;
  states = seen_states text message state d.outline.name (outlined_messages d.outline) (outlined_states d.outline) c seen;
}
