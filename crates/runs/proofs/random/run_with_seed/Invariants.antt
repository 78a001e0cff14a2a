use Rattle.replays.specs.Journals.{IsJournal}
use Rattle.replays.specs.Telling.{tracer_words}
use Rattle.runs.proofs.random.run_with_seed.Given as goal

-- the journal is one of a run of the method
abbrev pub invariant-loop : goal.invariant-loop
invariant-loop l = IsJournal (tracer_words l.tracer) l.plan.method.0 l.journal
