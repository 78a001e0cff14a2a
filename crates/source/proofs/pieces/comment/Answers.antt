use Rattle.std.proofs.Common.{refl, arith}
use Rattle.source.proofs.PieceLemmas.{comment_found, slash_last, slash_alone}
use Rattle.source.proofs.pieces.comment.Goals as goal

pub returns-then-rest-lt2-clause-fault : goal.returns-then-rest-lt2-clause-fault
returns-then-rest-lt2-clause-fault c = λ depth. (refl, slash_last c.args.rest.now c.requires.begins (omega arith))

pub returns-in-47-clause-found : goal.returns-in-47-clause-found
returns-in-47-clause-found c = comment_found c.args.rest.now c.line_len.result c.requires.begins c.line_len.ensures

pub returns-in-Some-clause-found : goal.returns-in-Some-clause-found
returns-in-Some-clause-found c = comment_found c.args.rest.now c.in-Some.len c.requires.begins c.in-Some.ensures.some

pub returns-in_default-clause-fault : goal.returns-in_default-clause-fault
returns-in_default-clause-fault c = λ depth. (
  refl,
  slash_alone c.args.rest.now c.if-rest-lt2.false c.requires.begins (omega arith) (omega arith),
)
