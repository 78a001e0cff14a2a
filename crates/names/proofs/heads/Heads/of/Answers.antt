use Rattle.std.proofs.Common.{List, map, ap, ◌∙◌, subst}
use Rattle.tree.specs.StatementTrees.{switch_tree}
use Rattle.names.specs.declared.heads.Awaiting.{Awaiting}
use Rattle.names.specs.Heads.{Written, awaited_word, key_words, switch_heads}
use Rattle.tables.specs.Tables.{IsTable}
use Rattle.tables.specs.Words.{word_at, words_at}
use Rattle.names.proofs.HeadWords.{key_first, words_of_heads, endpoints_of_heads}
use Rattle.names.proofs.heads.Heads.of.Goals as goal

pub returns : goal.returns
returns c =
    let text = c.args.text.now in
    let all = switch_heads (switch_tree c.args.switch.now) in
    let words : List Awaiting → List Written = λ list. map (λ a. (word_at text a.endpoint, awaited_word text a.awaited)) list in
    let keys = ap (map key_words) c.deref-3.ensures.value ∙ c.in_ok-keys.ensures ∙ ap words (c.deref-2.ensures.value ∙ c.in_ok-list.ensures) ∙ words_of_heads text all in
    let names = c.deref-4.ensures.value ∙ c.in_ok-names.ensures ∙ ap (map (λ a. a.endpoint)) (c.deref.ensures.value ∙ c.in_ok-list.ensures) ∙ endpoints_of_heads all in
    record {
      cases = λ key. c.in_ok-cases.ensures key ∙ key_first text all c.deref-3.result.now key keys;
      endpoints = subst (λ l. IsTable (words_at text l) c.in_ok-endpoints.endpoints) names c.in_ok-endpoints.ensures;
    }
