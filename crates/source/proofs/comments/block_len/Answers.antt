use Rattle.std.proofs.Common.{◌-◌, length, take, drop, refl, sym, subst}
use Rattle.std.specs.Prelude.{IfNone}
use Rattle.source.specs.Faults.{IsOpenComment}
use Rattle.source.proofs.CommentLemmas.{two_front}
use Rattle.source.proofs.NeedleLemmas.{block_found, block_open, closing}
use Rattle.source.proofs.comments.block_len.Goals as goal

pub returns-in_err-end-clause-none : goal.returns-in_err-end-clause-none
returns-in_err-end-clause-none c =
    let rest = c.args.rest.now in
    subst (λ r. IfNone r (IsOpenComment rest)) (sym c.from_residual.ensures)
    (block_open rest (take (length rest - 2) (drop 2 rest)) c.args.closing.now (two_front rest 47 42 c.requires.begins) c.requires.closing c.in_err-end.ensures)

pub returns-clause-some : goal.returns-clause-some
returns-clause-some c =
    let rest = c.args.rest.now in
    block_found rest (take (length rest - 2) (drop 2 rest)) c.args.closing.now c.in_ok-end.end (two_front rest 47 42 c.requires.begins) c.requires.closing c.in_ok-end.ensures

pub returns-in-Some-clause-some : goal.returns-in-Some-clause-some
returns-in-Some-clause-some c =
    let rest = c.args.rest.now in
    block_found rest (take (length rest - 2) (drop 2 rest)) closing c.in-Some.end (two_front rest 47 42 c.requires.begins) refl c.in-Some.ensures.some
