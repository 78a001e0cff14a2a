use Rattle.source.proofs.KindLemmas.{every_kind}
use Rattle.source.proofs.laws.each_kind_is_listed.Goals as goal

pub returns : goal.returns
returns c = every_kind
