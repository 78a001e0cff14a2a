use Rattle.std.proofs.Common.{ℕ}
use Rattle.replays.specs.Journals.{IsJournal}
use Rattle.replays.specs.Telling.{tracer_words}
use Rattle.runs.proofs.random.take_turn.Given as goal

-- a journal stays one
abbrev pub invariant-loop : goal.invariant-loop
invariant-loop l = (m : ℕ) → IsJournal (tracer_words l.tracer) m l.initial.journal → IsJournal (tracer_words l.tracer) m l.journal
