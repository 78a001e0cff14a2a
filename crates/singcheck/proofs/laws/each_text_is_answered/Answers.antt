use Rattle.singcheck.proofs.one_answer.EachLemmas.{bounds_some, check_some}
use Rattle.singcheck.proofs.laws.each_text_is_answered.Goals as goal

pub returns-clause-bounds : goal.returns-clause-bounds
returns-clause-bounds c = bounds_some (record {
  cut = c.each_text_is_cut.ensures;
  parsed = c.tokens_are_parsed.ensures;
  whole = c.clean_contracts_are_whole.ensures;
  judged = c.each_contract_is_judged.ensures.found;
  bounded = c.each_contract_is_judged.ensures.bounds;
  verdicts = c.each_method_has_a_verdict.ensures;
})

pub returns-clause-check : goal.returns-clause-check
returns-clause-check c = check_some (record {
  cut = c.each_text_is_cut.ensures;
  parsed = c.tokens_are_parsed.ensures;
  whole = c.clean_contracts_are_whole.ensures;
  judged = c.each_contract_is_judged.ensures.found;
  bounded = c.each_contract_is_judged.ensures.bounds;
  verdicts = c.each_method_has_a_verdict.ensures;
})
