use Rattle.std.proofs.Common.{ap, ◌∙◌}
use Rattle.names.specs.Heads.{is_before, key_at, awaited_word}
use Rattle.tables.specs.Words.{word_at}
use Rattle.names.proofs.HeadWords.{found_twice}
use Rattle.names.proofs.heads.Heads.is_twice.Goals as goal

pub returns : goal.returns
returns c = λ all h is awaiting.
    let text = c.args.text.now in
    let index = c.args.index in
    c.stands_before.ensures
    ∙ ap (is_before index) (c.index_of.ensures text all is)
    ∙ ap (λ k. is_before index (key_at text k all)) (c.key_of.ensures ∙ ap (λ a. (word_at text a.endpoint, awaited_word text a.awaited)) awaiting)
    ∙ found_twice text all h index
