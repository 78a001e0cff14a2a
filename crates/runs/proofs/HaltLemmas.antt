-- Events that are no steps.
use Rattle.std.proofs.Common.{◌≡◌, ◌∙◌, ℕ, List, Result, Some, length, refl, slice_get, subst, sym}
use Rattle.std.specs.Prelude.{Err, IsErrOf}
use Rattle.source.specs.declared.place.Place.{Place}
use Rattle.machine.specs.Replays.{EndsWith, MayEndReplay}
use Rattle.machine.specs.Views.{world_model}
use Rattle.machine.specs.declared.halts.Event.{Event}
use Rattle.machine.specs.declared.halts.Fault as faults
use Rattle.machine.specs.declared.halts.Halt.{Halt}
use Rattle.machine.specs.declared.halts.Halt.TheVariants as halt
use Rattle.replays.specs.EventLines.{TraceWords}
use Rattle.replays.specs.Journals.{IsFaultAt}
use Rattle.replays.specs.declared.end.RunEnd.TheVariants.{Fault}
use Rattle.runs.specs.Ends.{IsRun}
use Rattle.runs.specs.Traces.{IsTraceOf}
use Rattle.runs.specs.declared.following.Trace.{Trace}

-- a result that is this error is no other
pub is_no_err_of : (X : Type 0) (r : Result X Halt) (x y : Halt) → r ≡ Err x → (x ≡ y → ⊥) → IsErrOf r y → ⊥
is_no_err_of X r x y is apart of = apart (same (sym is ∙ of))
  where
    same : Path (Result X Halt) (Err x) (Err y) → x ≡ y
    same e = cc

-- any halt but that of memory may end a replay
pub may_end : (why : Halt) → (why ≡ halt.Memory → ⊥) → MayEndReplay (Some why)
may_end halt.NoSuchProcess some = tt
may_end halt.NoSuchChoice some = tt
may_end (halt.Fault fault at) some = tt
may_end halt.Waits some = tt
may_end halt.Memory some = absurd (some refl)

-- a trace that stops with a fault of the next event is a run that ends so
pub traced_fault : (t : TraceWords) (m : ℕ) (events : List Event) (r : Trace) (e : Event) (fault : faults.Fault) (at : Place)
    → IsTraceOf t m events r → r.halt ≡ Some (halt.Fault fault at) → slice_get events (length r.journal.events.items) ≡ Some e
    → IsRun t m (record { journal = r.journal; end = Fault e fault at })
traced_fault t m events r e fault at is halts there = record {
  journal = is.journal;
  end = λ bound are.
      let w = world_model r.journal.world in
      let ends = subst (EndsWith t.words.program bound w events (length r.journal.events.items)) halts (is.replay bound are).ends in
      let same : ends.event ≡ e = some_same ends.event e (sym ends.there ∙ there) in
      subst (λ x. IsFaultAt t.words.program bound w x fault at) same (record { faulty = ends.tells.0; place = ends.tells.1 });
}
  where
    some_same : (x y : Event) → Some x ≡ Some y → x ≡ y
    some_same x y e = cc
