use Rattle.std.proofs.Common.{◌<◌, ◌≤◌, Contains, None, Some, arith, length, subst, take_all}
use Rattle.machine.specs.Views.{variables_model}
use Rattle.machine.proofs.BindingLemmas.{length_variables}
use Rattle.lost.specs.Marks.{AddsMarks}
use Rattle.lost.proofs.MarkLemmas.{marks_item}
use Rattle.lost.proofs.marking.Reach.mark_variables.Goals as goal

pub loop-number-preserved : goal.loop-number-preserved
loop-number-preserved c =
    let v = c.args.variables.now in
    let short : c.loop-number.number < length (variables_model v) =
    omega (arith, c.len-number-end.ensures, c.loop-number-test.true, length_variables v.count v.bindings.items) in
    marks_item Some (variables_model v) c.loop-number.number c.has.result None c.args.self.now c.loop-number.self c.mark_any.new.self short
    c.has.ensures c.loop-number.invariant c.in_ok-mark_any.ensures

pub returns : goal.returns
returns c =
    let v = c.args.variables.now in
    let past : length (variables_model v) ≤ c.loop-number.number =
    omega (arith, c.len-number-end.ensures, c.loop-number-test.false, length_variables v.count v.bindings.items) in
    subst (λ l. AddsMarks (λ a. Contains l (Some a)) c.args.self.now c.loop-number.self)
    (take_all c.loop-number.number (variables_model v) past) c.loop-number.invariant
