use Rattle.std.proofs.Common.{refl}
use Rattle.source.proofs.PieceLemmas.{number_found, number_large}
use Rattle.source.proofs.pieces.number.Goals as goal

pub returns-then-capped_value-gt-MAX_NUMBER-clause-fault :
    goal.returns-then-capped_value-gt-MAX_NUMBER-clause-fault
returns-then-capped_value-gt-MAX_NUMBER-clause-fault c =
    let len = c.front_len-len.ensures in
    λ depth. (refl, number_large c.args.rest.now c.front_len-len.result c.capped_value.result c.requires.some c.requires.begins len.within len.each len.stop c.capped_value.ensures c.if-capped_value-gt-MAX_NUMBER.true)

pub returns-clause-found : goal.returns-clause-found
returns-clause-found c =
    let len = c.front_len-len.ensures in
    number_found c.args.rest.now c.front_len-len.result c.capped_value.result c.requires.some c.requires.begins len.within len.each len.stop c.capped_value.ensures c.if-capped_value-gt-MAX_NUMBER.false
