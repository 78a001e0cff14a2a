use Rattle.syntax.proofs.pieces.Tops.{one_spelling}
use Rattle.syntax.proofs.definitions.ItemRules.{program_piece}
use Rattle.syntax.proofs.laws.one_tree_a_spelling.Goals as goal

pub returns : goal.returns
returns c = one_spelling program_piece
