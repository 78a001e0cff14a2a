use Rattle.std.proofs.Common.{◌≡◌, ◌∙◌, ap, length, slice_get, subst, Some}
use Rattle.std.specs.Prelude.{get_or}
use Rattle.std.proofs.lemmas.Option.{slice_get-get_or}
use Rattle.machine.specs.declared.halts.Event.{Event}
use Rattle.replays.specs.Telling.{tracer_words}
use Rattle.runs.proofs.HaltLemmas.{traced_fault}
use Rattle.runs.proofs.following.follow.Goals as goal

-- the event that is read past the end of a slice
abbrev no_event : Event
no_event = record { process = 0; choice = 0 }

pub returns-in-Some-clause-run : goal.returns-in-Some-clause-run
returns-in-Some-clause-run c =
    let r = c.in_ok-traced.traced in
    let events = c.args.events.now in
    let steps : c.len-steps.result ≡ length r.journal.events.items = c.len-steps.ensures ∙ r.journal.events.ok.0 in
    let there = subst (λ n. slice_get events n ≡ Some (get_or events c.len-steps.result no_event)) steps
    (slice_get-get_or events c.len-steps.result no_event c.if-steps-events.true) in
    traced_fault (tracer_words c.args.tracer.now) c.args.method.0 events r _ _ _ c.in_ok-traced.ensures c.in-Some.ensures there
