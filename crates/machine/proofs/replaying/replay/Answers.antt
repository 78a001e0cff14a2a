use Rattle.std.proofs.Common.{[], Err, sym, subst, take}
use Rattle.std.specs.Prelude.{get_or}
use Rattle.std.proofs.lemmas.List.{take_more}
use Rattle.std.proofs.lemmas.Option.{slice_get-get_or}
use Rattle.rules.specs.Programs.{model_of}
use Rattle.machine.specs.Machine.{event_outcome}
use Rattle.machine.specs.Outcomes.{TellsStep}
use Rattle.machine.specs.Places.{process_place}
use Rattle.machine.specs.Runs.{RunsTo, moves, start_of, stays}
use Rattle.machine.specs.Views.{world_model}
use Rattle.machine.specs.declared.halts.Event.{Event}
use Rattle.machine.proofs.replaying.replay.Goals as goal

-- the event that is read past the end of a slice
abbrev no_event : Event
no_event = record { process = 0; choice = 0 }

pub loop-steps-init : goal.loop-steps-init
loop-steps-init c = λ bound are.
    let p = model_of c.args.program.now in
    let begins = start_of p c.args.method.0 in
    subst (λ w. RunsTo p bound begins [] w) (sym c.in_ok-world.ensures) stays

pub loop-steps-preserved : goal.loop-steps-preserved
loop-steps-preserved c = λ bound are.
    let p = model_of c.args.program.now in
    let events = c.args.events.now in
    let n = c.loop-steps.steps in
    subst (λ es. RunsTo p bound (start_of p c.args.method.0) es (world_model c.step.new.self)) (sym (take_more events n no_event c.loop-steps-test.true))
    (moves (take n events) (world_model c.loop-steps.world) (world_model c.step.new.self) (get_or events n no_event) (c.loop-steps.invariant bound are) (c.in-Ok.ensures.tells bound are))

pub returns-in-Err : goal.returns-in-Err
returns-in-Err c = λ bound are.
    let p = model_of c.args.program.now in
    let events = c.args.events.now in
    let n = c.loop-steps.steps in
    let e = get_or events n no_event in
    let same = sym c.in-Err.ensures.same in
    record {
      leads = subst (λ w. RunsTo p bound (start_of p c.args.method.0) (take n events) w) same (c.loop-steps.invariant bound are);
      ends = record {
        event = e;
        there = slice_get-get_or events n no_event c.loop-steps-test.true;
        tells = subst (λ h. TellsStep {X = Unit {0}} (Err h) (event_outcome p bound (world_model c.step.new.self) e) (process_place p (world_model c.step.new.self) e.process) (world_model c.step.new.self)) (sym c.in_ok-halt-in-Err.ensures.same)
            (subst (λ w. TellsStep {X = Unit {0}} (Err c.in-Err.halt) (event_outcome p bound w e) (process_place p w e.process) (world_model c.step.new.self)) same (c.in-Err.ensures.tells bound are));
      };
      known = c.in_ok-halt-in-Err.ensures.known;
    }
