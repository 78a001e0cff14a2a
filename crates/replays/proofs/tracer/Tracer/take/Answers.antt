use Rattle.std.proofs.Common.{◌≡◌, ◌∙◌, ◌+◌, ◌++◌, ap, subst, sym, Err}
use Rattle.std.specs.Prelude.{if◌then◌else◌}
use Rattle.machine.specs.Machine.{event_outcome}
use Rattle.machine.specs.Outcomes.{QueueBounds, Moved, TellsStep}
use Rattle.machine.specs.Places.{process_place}
use Rattle.machine.specs.Runs.{AreBounds, start_of}
use Rattle.machine.specs.Views.{world_model}
use Rattle.replays.specs.EventLines.{event_line, is_open_at}
use Rattle.replays.specs.Journals.{HasLines}
use Rattle.replays.specs.Telling.{tracer_words}
use Rattle.replays.proofs.JournalLemmas.{of_ok, one_more, passed_refusal}
use Rattle.replays.proofs.tracer.Tracer.take.Goals as goal

pub returns-in_err-step-clause-refused : goal.returns-in_err-step-clause-refused
returns-in_err-step-clause-refused c =
    let p = (tracer_words c.args.self.now).words.program in
    let e = c.args.event in
    let tells = subst (λ q. (b : QueueBounds) → AreBounds q b
    → TellsStep {X = Unit {0}} (Err c.in_err-step.field-0.0) (event_outcome q b (world_model c.args.journal.now.world) e)
    (process_place q (world_model c.args.journal.now.world) e.process) (world_model c.step.new.self)) c.program-2.ensures c.in_err-step.ensures.tells in
    passed_refusal _ c.from_residual.result c.in_err-step.field-0.0 p _ _ e c.from_residual.ensures.1 c.in_err-step.ensures.same tells

pub returns-in_err-step-clause-kept : goal.returns-in_err-step-clause-kept
returns-in_err-step-clause-kept c = λ m other is bound are.
    let t = tracer_words c.args.self.now in
    let old = c.args.journal.now in
    subst (λ v. HasLines t bound (start_of t.words.program m) old.events.items v old.lines.items old.conditions) (sym c.in_err-step.ensures.same) (is bound are)

pub returns-in-Ok-clause-kept : goal.returns-in-Ok-clause-kept
returns-in-Ok-clause-kept c = λ m other is bound are.
    let t = tracer_words c.args.self.now in
    let old = c.args.journal.now in
    let w = world_model old.world in
    let e = c.args.event in
    let moved = subst (λ p. (b : QueueBounds) → AreBounds p b → event_outcome p b w e ≡ Moved (world_model c.step.new.self))
    c.program-2.ensures c.in_ok-step.ensures.tells bound are
    ∙ ap (λ v. Moved (world_model v)) (sym c.in-Ok.ensures.world) in
    let line = of_ok _ _ _ c.add_event.result (sym c.is_err.ensures.value ∙ c.if-is_err.false) c.add_event.ensures in
    one_more t bound (start_of t.words.program m) w (world_model c.add.new.self.world) old.events.items c.add.new.self.events.items e
    old.lines.items c.deref.result.now c.add.new.self.lines.items old.conditions c.add.new.self.conditions (is bound are) moved
    c.in-Ok.ensures.events
    (c.deref.ensures.value ∙ (line ∙ ap (λ l. l ++ event_line t w e) c.new-line.ensures.items))
    c.in-Ok.ensures.lines
    (c.in-Ok.ensures.conditions ∙ ap (λ b. old.conditions + (if b then 1 else 0)) (c.is_open_condition-is_open.ensures ∙ ap (λ p. is_open_at p w e.process) c.program.ensures))
