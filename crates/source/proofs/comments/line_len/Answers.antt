use Rattle.std.proofs.Common.{◌-◌, length, take, drop}
use Rattle.source.proofs.CommentLemmas.{two_front, line_found}
use Rattle.source.proofs.comments.line_len.Goals as goal

pub returns : goal.returns
returns c =
    let rest = c.args.rest.now in
    line_found rest (take (length rest - 2) (drop 2 rest)) c.find_byte.result c.unwrap_or.result (two_front rest 47 47 c.requires) c.find_byte.ensures c.unwrap_or.ensures
