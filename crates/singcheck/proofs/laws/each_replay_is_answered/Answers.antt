use Rattle.singcheck.proofs.one_answer.EachReplayLemmas.{ran_some, replay_some}
use Rattle.singcheck.proofs.laws.each_replay_is_answered.Goals as goal

pub returns-clause-comes : goal.returns-clause-comes
returns-clause-comes c = replay_some (record {
  cut = c.each_text_is_cut.ensures;
  parsed = c.tokens_are_parsed.ensures;
  whole = c.clean_contracts_are_whole.ensures;
  judged = c.each_contract_is_judged.ensures.found;
  bounded = c.each_contract_is_judged.ensures.bounds;
  verdicts = c.each_method_has_a_verdict.ensures;
}) (record {
  bounds = c.each_program_has_bounds.ensures;
  read = c.each_schedule_is_read.ensures;
  replays = c.events_have_a_replay.ensures;
  agree = record { positions = c.replays_agree.ensures.positions; graphs = c.replays_agree.ensures.graphs; statements = c.replays_agree.ensures.statements };
})

pub returns-clause-ran : goal.returns-clause-ran
returns-clause-ran c = ran_some (record {
  bounds = c.each_program_has_bounds.ensures;
  read = c.each_schedule_is_read.ensures;
  replays = c.events_have_a_replay.ensures;
  agree = record { positions = c.replays_agree.ensures.positions; graphs = c.replays_agree.ensures.graphs; statements = c.replays_agree.ensures.statements };
})
