use Rattle.singcheck.proofs.one_answer.OneReplayLemmas.{one_bytes, one_status, no_entry, no_schedule}
use Rattle.singcheck.proofs.laws.one_replay.Goals as goal

pub returns-clause-bytes : goal.returns-clause-bytes
returns-clause-bytes c = one_bytes (record {
  laws = record { tokens = c.one_cutting.ensures.tokens; fault = c.one_fault.ensures.one; none = c.one_fault.ensures.none; trees = c.one_tree_a_spelling.ensures };
  bounds = c.each_program_has_bounds.ensures;
  reading = c.one_reading.ensures.events;
  apart = c.one_reading.ensures.apart;
  replays = c.one_replay.ensures;
  agree = record { positions = c.replays_agree.ensures.positions; graphs = c.replays_agree.ensures.graphs; statements = c.replays_agree.ensures.statements };
})

pub returns-clause-status : goal.returns-clause-status
returns-clause-status c = one_status (record {
  laws = record { tokens = c.one_cutting.ensures.tokens; fault = c.one_fault.ensures.one; none = c.one_fault.ensures.none; trees = c.one_tree_a_spelling.ensures };
  bounds = c.each_program_has_bounds.ensures;
  reading = c.one_reading.ensures.events;
  apart = c.one_reading.ensures.apart;
  replays = c.one_replay.ensures;
  agree = record { positions = c.replays_agree.ensures.positions; graphs = c.replays_agree.ensures.graphs; statements = c.replays_agree.ensures.statements };
})

pub returns-clause-entry : goal.returns-clause-entry
returns-clause-entry c = no_entry (record {
  laws = record { tokens = c.one_cutting.ensures.tokens; fault = c.one_fault.ensures.one; none = c.one_fault.ensures.none; trees = c.one_tree_a_spelling.ensures };
  bounds = c.each_program_has_bounds.ensures;
  reading = c.one_reading.ensures.events;
  apart = c.one_reading.ensures.apart;
  replays = c.one_replay.ensures;
  agree = record { positions = c.replays_agree.ensures.positions; graphs = c.replays_agree.ensures.graphs; statements = c.replays_agree.ensures.statements };
})

pub returns-clause-line : goal.returns-clause-line
returns-clause-line c = no_schedule (record {
  laws = record { tokens = c.one_cutting.ensures.tokens; fault = c.one_fault.ensures.one; none = c.one_fault.ensures.none; trees = c.one_tree_a_spelling.ensures };
  bounds = c.each_program_has_bounds.ensures;
  reading = c.one_reading.ensures.events;
  apart = c.one_reading.ensures.apart;
  replays = c.one_replay.ensures;
  agree = record { positions = c.replays_agree.ensures.positions; graphs = c.replays_agree.ensures.graphs; statements = c.replays_agree.ensures.statements };
})
