use Rattle.std.proofs.Common.{refl}
use Rattle.std.proofs.lemmas.Bool.{iff_false}
use Rattle.syntax.proofs.pieces.KindLemmas.{kind_stops}
use Rattle.syntax.proofs.cursor.Cursor.take_if.Goals as goal

pub returns-else-is_next : goal.returns-else-is_next
returns-else-is_next c = (refl, kind_stops c.args.kind _ (iff_false c.is_next.ensures.is c.if-is_next.false))
