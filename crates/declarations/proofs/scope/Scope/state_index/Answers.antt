use Rattle.std.proofs.Common.{length, take, ap, ◌∙◌, sym}
use Rattle.std.specs.Prelude.{option_and_then, option_map}
use Rattle.tree.specs.Trees.{ContractTree}
use Rattle.declarations.specs.Declarations.{counted_states, names_of_states, states_of}
use Rattle.tables.specs.Firsts.{first_of}
use Rattle.declarations.specs.Indices.{index_among}
use Rattle.declarations.specs.Program.{Numbered, item_at, as_contract}
use Rattle.tables.specs.Words.{word_at, words_at}
use Rattle.declarations.proofs.PlaceLemmas.{named_there}
use Rattle.declarations.proofs.ScopeLemmas.{looked_contract}
use Rattle.declarations.proofs.scope.Scope.state_index.Goals as goal

pub returns : goal.returns
returns c = λ p h.
    let d = c.in_ok-declared.declared.now in
    let at = looked_contract p.text (item_at as_contract p c.args.contract) c.args.contract d (c.in_ok-declared.ensures p h) in
    let words = words_at p.text (names_of_states (states_of at.contract)) in
    let found = sym (c.in_ok-index.ensures words at.declared.states ∙ ap (first_of words) (c.slice.ensures ∙ ap (λ t. word_at t c.args.name) h.text_is)) in
    c.named_index.ensures
    ∙ named_there p.text at.contract d c.args.name c.in_ok-index.index at.declared found
    ∙ sym (ap (option_and_then (λ (k : Numbered ContractTree). index_among p.text (states_of k.1) c.args.name)) at.is)

pub returns-in_err-index : goal.returns-in_err-index
returns-in_err-index c = λ p h.
    let d = c.in_ok-declared.declared.now in
    let at = looked_contract p.text (item_at as_contract p c.args.contract) c.args.contract d (c.in_ok-declared.ensures p h) in
    let words = words_at p.text (names_of_states (states_of at.contract)) in
    let found = sym (c.find.ensures words at.declared.states ∙ ap (first_of words) (c.slice.ensures ∙ ap (λ t. word_at t c.args.name) h.text_is)) ∙ c.in_err-index.was in
    c.from_residual-in_err-index.ensures
    ∙ sym (ap (option_map (λ k. length (counted_states (take k (states_of at.contract))))) found)
    ∙ sym (ap (option_and_then (λ (k : Numbered ContractTree). index_among p.text (states_of k.1) c.args.name)) at.is)
