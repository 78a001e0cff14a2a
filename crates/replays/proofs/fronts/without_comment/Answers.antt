use Rattle.replays.proofs.FrontLemmas.{no_comment, some_comment}
use Rattle.replays.proofs.fronts.without_comment.Goals as goal

pub returns-then-end-line : goal.returns-then-end-line
returns-then-end-line c = some_comment c.args.line.now _ c.bytes_before-end.result c.bytes_before-end.ensures c.if-end-line.true c.without_spaces_at_end.ensures

pub returns-else-end-line : goal.returns-else-end-line
returns-else-end-line c = no_comment c.args.line.now c.bytes_before-end.result c.bytes_before-end.ensures c.if-end-line.false
