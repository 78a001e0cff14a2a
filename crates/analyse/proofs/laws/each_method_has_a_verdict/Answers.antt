use Rattle.rules.specs.Steps.{entry_of, outcome}
use Rattle.analyse.specs.Verdicts.{place_of_method, too_many_pairs}
use Rattle.analyse.specs.declared.analysing.TheConstants.{MOST_PAIRS}
use Rattle.analyse.proofs.EachLemmas.{each_has_a_verdict}
use Rattle.analyse.proofs.laws.each_method_has_a_verdict.Goals as goal

pub returns : goal.returns
returns c = λ methods n. each_has_a_verdict (outcome methods n) (entry_of methods n) MOST_PAIRS (too_many_pairs (place_of_method methods n))
