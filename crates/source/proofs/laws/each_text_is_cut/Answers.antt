use Rattle.source.proofs.EachLemmas.{tokens_or_fault}
use Rattle.source.proofs.laws.each_text_is_cut.Goals as goal

pub returns : goal.returns
returns c = tokens_or_fault
