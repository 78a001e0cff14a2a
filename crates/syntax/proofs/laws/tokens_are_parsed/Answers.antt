use Rattle.std.proofs.Common.{[]}
use Rattle.syntax.proofs.pieces.Tops.{spelled}
use Rattle.syntax.proofs.SpelledTokens.{program_tokens}
use Rattle.syntax.proofs.laws.tokens_are_parsed.Goals as goal

pub returns : goal.returns
returns c = λ tokens none right. spelled [] tokens right program_tokens none
