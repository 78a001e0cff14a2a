use Rattle.std.proofs.Common.{slice_get, ap, ◌∙◌, sym, refl, Some, None}
use Rattle.std.proofs.lemmas.Option.{slice_get_read, slice_get_past}
use Rattle.rules.specs.Programs.{model_of}
use Rattle.rules.proofs.ProgramLemmas.{condition_is, condition_on}
use Rattle.rules.proofs.stepping.condition.Goals as goal

pub returns-in-Some : goal.returns-in-Some
returns-in-Some c =
    let p = model_of c.args.program.now in
    let there = ap (λ l. slice_get l c.args.point) (sym c.deref.ensures.value) ∙ slice_get_read c.deref.result.now _ c.args.point c.in-Some.instruction.now refl c.in-Some.ensures.lookup.3.0 c.in-Some.ensures.lookup.1 in
    let which = condition_is (slice_get p.methods c.args.method.0) c.graph.result.now c.args.point (Some c.in-Some.instruction.now) c.branches_of.result c.graph.ensures there c.branches_of.ensures in
    record { goes = condition_on p c.args.method.0 c.args.point c.branches_of.result which; which = which }

pub returns-in-None : goal.returns-in-None
returns-in-None c =
    let p = model_of c.args.program.now in
    let past = ap (λ l. slice_get l c.args.point) (sym c.deref.ensures.value) ∙ slice_get_past c.deref.result.now c.args.point c.in-None.ensures.lookup.3 in
    let which = condition_is (slice_get p.methods c.args.method.0) c.graph.result.now c.args.point None None c.graph.ensures past refl in
    record { goes = condition_on p c.args.method.0 c.args.point None which; which = which }
