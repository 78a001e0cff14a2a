use Rattle.std.proofs.Common.{◌<◌, ◌∙◌, Contains, Some, arith, length, reverse, subst, sym}
use Rattle.std.proofs.lemmas.List.{get_or-reverse, length-reverse}
use Rattle.machine.specs.Views.{frame_model, variables_model}
use Rattle.lost.specs.Marks.{AddsMarks}
use Rattle.lost.proofs.MarkLemmas.{marks_more}
use Rattle.lost.proofs.marking.Reach.mark_waiting.Goals as goal

pub loop-done-preserved : goal.loop-done-preserved
loop-done-preserved c =
    let xs = c.args.waiting.now in
    let f = c.index-waiting-waiting.result in
    let short : c.loop-done.done < length (reverse xs) = omega (arith, c.loop-done-test.true, length-reverse xs) in
    marks_more (λ g a. Contains g.variables (Some a)) frame_model (reverse xs) c.loop-done.done f f c.args.self.now c.loop-done.self
    c.mark_variables.new.self short (c.index-waiting-waiting.is ∙ sym (get_or-reverse xs c.loop-done.done f c.loop-done-test.true))
    c.loop-done.invariant
    (subst (λ g. AddsMarks (λ a. Contains (variables_model g.variables) (Some a)) c.loop-done.self c.mark_variables.new.self)
    (sym c.index-waiting-waiting.is) c.in_ok-mark_variables.ensures)
