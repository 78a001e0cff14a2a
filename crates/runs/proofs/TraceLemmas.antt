-- Traces of events that were taken one by one.
use Rattle.std.proofs.Common.{◌≡◌, ◌∙◌, ◌<◌, ◌≤◌, ℕ, List, Option, None, Some, ap, arith, length, subst, sym, take}
use Rattle.std.specs.Prelude.{get_or}
use Rattle.std.proofs.lemmas.List.{length-take-le}
use Rattle.std.proofs.lemmas.Option.{slice_get-get_or}
use Rattle.machine.specs.Outcomes.{QueueBounds}
use Rattle.machine.specs.Replays.{EndsWith, MayEndReplay}
use Rattle.machine.specs.Runs.{AreBounds, RunsTo, start_of}
use Rattle.machine.specs.Views.{world_model}
use Rattle.machine.specs.World.{World}
use Rattle.machine.specs.declared.halts.Event.{Event}
use Rattle.machine.specs.declared.halts.Halt.{Halt}
use Rattle.replays.specs.EventLines.{TraceWords}
use Rattle.replays.specs.Journals.{HasLines, IsJournal, IsNoStep}
use Rattle.replays.specs.declared.journal.Journal.{Journal}
use Rattle.runs.specs.Traces.{IsTraceOf}

-- events with their lines are a run
abbrev pub LinesAreRuns : Type 0
LinesAreRuns = (t : TraceWords) (bound : QueueBounds) (w v : World) (events : List Event) (lines : List ℕ) (conditions : ℕ)
    → HasLines t bound w events v lines conditions → RunsTo t.words.program bound w events v

-- a journal of the first events, in whose world a replay of all of them ends
pub is_trace : LinesAreRuns → (t : TraceWords) (m : ℕ) (events : List Event) (j : Journal) (n : ℕ) (halt : Option Halt) → IsJournal t m j
    → j.events.items ≡ take n events → n ≤ length events → MayEndReplay halt
    → ((bound : QueueBounds) → AreBounds t.words.program bound → EndsWith t.words.program bound (world_model j.world) events n halt)
    → IsTraceOf t m events (record { journal = j; halt = halt })
is_trace led t m events j n halt is steps few known ends =
    let long : length j.events.items ≡ n = ap (λ (es : List Event). length es) steps ∙ length-take-le n events few in
    let w = world_model j.world in
    let begins = start_of t.words.program m in
    record {
      journal = is;
      steps = steps ∙ ap (λ k. take k events) (sym long);
      few = omega (arith, long, few);
      replay = λ bound are. record {
        leads = subst (λ es. RunsTo t.words.program bound begins es w) (steps ∙ ap (λ k. take k events) (sym long))
            (led t bound begins w j.events.items j.lines.items j.conditions (is bound are));
        ends = subst (λ k. EndsWith t.words.program bound w events k halt) (sym long) (ends bound are);
        known = known;
      };
    }

-- the same, if the next event is no step
pub stopped_trace : LinesAreRuns → (t : TraceWords) (m : ℕ) (events : List Event) (j : Journal) (n : ℕ) (none : Event) (why : Halt)
    → IsJournal t m j → j.events.items ≡ take n events → n < length events → MayEndReplay (Some why)
    → IsNoStep t.words.program (world_model j.world) (get_or events n none) why → IsTraceOf t m events (record { journal = j; halt = Some why })
stopped_trace led t m events j n none why is steps lt known refused =
    is_trace led t m events j n (Some why) is steps (omega (arith, lt)) known (λ bound are. record {
      event = get_or events n none;
      there = slice_get-get_or events n none lt;
      tells = refused bound are;
    })
