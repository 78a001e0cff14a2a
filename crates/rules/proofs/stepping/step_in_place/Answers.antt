use Rattle.std.proofs.Common.{slice_get, ap, ◌∙◌, sym, refl, Some}
use Rattle.std.proofs.lemmas.Option.{slice_get_read, slice_get_past}
use Rattle.std.proofs.lemmas.Result.{IfOk-weaker}
use Rattle.rules.specs.Programs.{model_of}
use Rattle.rules.proofs.ProgramLemmas.{outcome_at, outcome_is, outcome_past}
use Rattle.rules.proofs.RepeatLemmas.{told_at}
use Rattle.rules.proofs.stepping.step_in_place.Goals as goal

pub apply-requires : goal.apply-requires
apply-requires c =
    let there = ap (λ l. slice_get l c.args.point) (sym c.deref.ensures.value) ∙ slice_get_read c.deref.result.now _ c.args.point c.in-Some.instruction.now refl c.in-Some.ensures.lookup.3.0 c.in-Some.ensures.lookup.1 in
    told_at (slice_get (model_of c.args.program.now).methods c.args.method.0) c.graph.result.now c.repeats.result.now c.args.point c.in-Some.instruction.now c.graph.ensures c.repeats.ensures there

pub returns-in-Some-clause-outcome : goal.returns-in-Some-clause-outcome
returns-in-Some-clause-outcome c =
    let p = model_of c.args.program.now in
    let there = ap (λ l. slice_get l c.args.point) (sym c.deref.ensures.value) ∙ slice_get_read c.deref.result.now _ c.args.point c.in-Some.instruction.now refl c.in-Some.ensures.lookup.3.0 c.in-Some.ensures.lookup.1 in
    IfOk-weaker c.apply.result _ _ (λ o h. h ∙ sym (outcome_is p c.args.method.0 _ ∙ outcome_at p (slice_get p.methods c.args.method.0) c.method.result.now c.graph.result.now c.args.point _ (Some c.in-Some.instruction.now) c.method.ensures.method c.graph.ensures there)) c.apply.ensures.outcome

pub returns-in-None-clause-outcome : goal.returns-in-None-clause-outcome
returns-in-None-clause-outcome c =
    let p = model_of c.args.program.now in
    let past = ap (λ l. slice_get l c.args.point) (sym c.deref.ensures.value) ∙ slice_get_past c.deref.result.now c.args.point c.in-None.ensures.lookup.3 in
    sym (outcome_is p c.args.method.0 _ ∙ outcome_past p (slice_get p.methods c.args.method.0) c.graph.result.now c.args.point _ c.graph.ensures past)
