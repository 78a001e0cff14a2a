use Rattle.std.proofs.Common.{◌≡◌, ◌∙◌, Err, Some, ap, refl, subst, sym}
use Rattle.std.specs.Global.{Vec}
use Rattle.machine.specs.declared.halts.Event.{Event}
use Rattle.machine.specs.declared.halts.Halt.TheVariants.{Memory}
use Rattle.replays.specs.Telling.{tracer_words}
use Rattle.runs.specs.Traces.{IsTraceOf}
use Rattle.runs.proofs.HaltLemmas.{is_no_err_of, may_end}
use Rattle.runs.proofs.TraceLemmas.{stopped_trace}
use Rattle.runs.proofs.following.trace_of.Goals as goal

-- the event that is read past the end of a slice
abbrev no_event : Event
no_event = record { process = 0; choice = 0 }

pub returns-in-Err : goal.returns-in-Err
returns-in-Err c =
    let t = tracer_words c.args.tracer.now in
    let m = c.args.method.0 in
    let why = c.in-Err.halt in
    let same : c.in_ok-refuse_memory-in-Err.field-0 ≡ why = c.in_ok-refuse_memory-in-Err.ensures.same in
    let some : why ≡ Memory → ⊥ = λ e. c.in_ok-refuse_memory-in-Err.ensures.known (same ∙ e) in
    let kept = is_no_err_of _ c.take.result why Memory c.in-Err.is some in
    subst (λ h. IsTraceOf t m c.args.events.now (record { journal = c.take.new.journal; halt = Some h })) (sym same)
    (stopped_trace c.lines_are_of_runs.ensures t m c.args.events.now c.take.new.journal c.loop-index.index no_event why
    (c.take.ensures.kept m kept c.loop-index.invariant.journal)
    (ap (λ (v : Vec Event). v.items) (c.in-Err.ensures.untaken (is_no_err_of _ (Err why) why Memory refl some)) ∙ c.loop-index.invariant.steps)
    c.loop-index-test.true (may_end why some) (c.in-Err.ensures.refused some))
