use Rattle.std.proofs.Common.{◌≡◌, take}
use Rattle.replays.specs.Journals.{IsJournal}
use Rattle.replays.specs.Telling.{tracer_words}
use Rattle.runs.proofs.following.trace_of.Given as goal

-- the journal is one of a run of the method along the first events
abbrev pub invariant-loop-index : goal.invariant-loop-index
invariant-loop-index l = record {
  journal : IsJournal (tracer_words l.tracer) l.fn.method.0 l.journal;
  steps : l.journal.events.items ≡ take l.index l.events;
}
