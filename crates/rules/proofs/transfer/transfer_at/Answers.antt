use Rattle.std.proofs.Common.{slice_get, ap, ◌∙◌, sym, refl, Some, None}
use Rattle.std.proofs.lemmas.Option.{slice_get_read, slice_get_past}
use Rattle.rules.specs.Programs.{model_of}
use Rattle.rules.proofs.TransferLemmas.{transfer_is, transfer_on}
use Rattle.rules.proofs.transfer.transfer_at.Goals as goal

pub returns-in-Some : goal.returns-in-Some
returns-in-Some c =
    let p = model_of c.args.program.now in
    let there = ap (λ l. slice_get l c.args.point) (sym c.deref.ensures.value) ∙ slice_get_read c.deref.result.now _ c.args.point c.in-Some.instruction.now refl c.in-Some.ensures.lookup.3.0 c.in-Some.ensures.lookup.1 in
    let which = transfer_is (slice_get p.methods c.args.method.0) c.method-owner.result.now c.graph.result.now c.args.point (Some c.in-Some.instruction.now) c.transfer_for.result c.method-owner.ensures.method c.graph.ensures there c.transfer_for.ensures in
    record { goes = transfer_on p c.args.method.0 c.args.point c.transfer_for.result which; which = which }

pub returns-in-None : goal.returns-in-None
returns-in-None c =
    let p = model_of c.args.program.now in
    let past = ap (λ l. slice_get l c.args.point) (sym c.deref.ensures.value) ∙ slice_get_past c.deref.result.now c.args.point c.in-None.ensures.lookup.3 in
    let which = transfer_is (slice_get p.methods c.args.method.0) c.method-owner.result.now c.graph.result.now c.args.point None None c.method-owner.ensures.method c.graph.ensures past refl in
    record { goes = transfer_on p c.args.method.0 c.args.point None which; which = which }
