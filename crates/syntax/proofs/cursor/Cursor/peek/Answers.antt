use Rattle.std.proofs.Common.{◌∙◌}
use Rattle.syntax.proofs.pieces.CursorLemmas.{symbols_some}
use Rattle.syntax.proofs.cursor.Cursor.peek.Goals as goal

pub returns-then-self-clause-some : goal.returns-then-self-clause-some
returns-then-self-clause-some c e = symbols_some _ (c.self.view_is ∙ e)
