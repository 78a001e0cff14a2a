use Rattle.source.proofs.PieceLemmas.{word_found}
use Rattle.source.proofs.pieces.word.Goals as goal

pub returns : goal.returns
returns c =
    let len = c.front_len-len.ensures in
    word_found c.args.rest.now c.front_len-len.result c.of_word.result c.requires.some c.requires.begins len.within len.each len.stop c.of_word.ensures
