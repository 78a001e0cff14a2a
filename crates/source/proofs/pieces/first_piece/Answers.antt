use Rattle.std.proofs.Common.{sym, ◌∙◌}
use Rattle.source.proofs.PieceLemmas.{blank_found}
use Rattle.source.proofs.pieces.first_piece.Goals as goal

pub returns-then-is_blank-clause-found : goal.returns-then-is_blank-clause-found
returns-then-is_blank-clause-found c = blank_found c.args.rest.now c.requires.some (sym c.is_blank.ensures ∙ c.if-is_blank.true)
