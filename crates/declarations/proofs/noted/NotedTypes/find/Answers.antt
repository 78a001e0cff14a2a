use Rattle.std.proofs.Common.{sym}
use Rattle.declarations.proofs.noted.NotedTypes.find.Goals as goal

pub returns : goal.returns
returns c = λ p k noted is. c.type_for.ensures p k (noted.types c.in_ok-begins.field-0 c.in_ok-noted.noted.now (sym c.in_ok-noted.ensures.value)) is
