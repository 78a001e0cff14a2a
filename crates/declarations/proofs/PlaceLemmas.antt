-- The index of a named state among all states of its contract.
use Rattle.std.proofs.Common.{◌≡◌, ℕ, ◌<◌, List, [], length, take, get_or, Some, sym, ap, ◌∙◌, arith}
use Rattle.std.specs.Prelude.{option_map, slice_get}
use Rattle.std.proofs.lemmas.List.{length-map}
use Rattle.std.proofs.lemmas.List.Quantifiers.{position-Some}
use Rattle.std.proofs.lemmas.Option.{slice_get-get_or}
use Rattle.source.specs.declared.token.Span.{Span}
use Rattle.tree.specs.Trees.{ContractTree, StateTree}
use Rattle.declarations.specs.Declarations.{counted_states, first_among, names_of_states, states_of}
use Rattle.declarations.specs.Indices.{index_among}
use Rattle.declarations.specs.Scopes.{IsDeclared}
use Rattle.tables.specs.Words.{same_word, word_at, words_at}
use Rattle.declarations.specs.declared.members.Declared.{Declared}
use Rattle.declarations.proofs.BehindLemmas.{single_at, singles}

-- the index looked up for a name is that of its state among all states
pub named_there : (text : List ℕ) (c : ContractTree) (d : Declared) (name : Span) (index : ℕ) → IsDeclared text c d → first_among text (names_of_states (states_of c)) name ≡ Some index
    → slice_get d.counted.named.items index ≡ index_among text (states_of c) name
named_there text c d name index h found =
    let states : List StateTree = states_of c in
    let words = words_at text (names_of_states states) in
    let below = (position-Some (same_word (word_at text name)) words index [] found).0 in
    let size : length words ≡ length states = length-map (names_of_states states) (word_at text) ∙ length-map states (λ t. t.name) in
    let lt : index < length states = omega (arith, below, size) in
    let many = ap length h.named ∙ singles (λ b. length (counted_states b)) [] states in
    let value = ap (λ l. get_or l index 0) h.named ∙ single_at (λ b. length (counted_states b)) [] states index 0 lt in
    slice_get-get_or d.counted.named.items index 0 (omega (arith, lt, many)) ∙ ap Some value ∙ sym (ap (option_map (λ k. length (counted_states (take k states)))) found)
