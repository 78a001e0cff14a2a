use Rattle.std.proofs.lemmas.Bool.{iff_false}
use Rattle.syntax.proofs.pieces.CursorLemmas.{placed_fails}
use Rattle.syntax.proofs.cursor.Cursor.expect_span.Goals as goal

pub returns-else-is_next : goal.returns-else-is_next
returns-else-is_next c = placed_fails c.args.kind (record { start = 0; end = 0; place = record { line = 1; col = 1 } }) c.args.self.now c.is_next.ensures.some (iff_false c.is_next.ensures.is c.if-is_next.false)
