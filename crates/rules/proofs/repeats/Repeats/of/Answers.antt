use Rattle.std.proofs.Common.{◌≡◌, ◌<◌, ◌≤◌, length, slice_index_or, ap, subst, ◌∙◌}
use Rattle.flow.specs.Graphs.{instruction_model}
use Rattle.rules.specs.Repeats.{given_again}
use Rattle.rules.proofs.RepeatLemmas.{kept_all, kept_more}
use Rattle.rules.proofs.repeats.Repeats.of.Goals as goal

pub loop-point-preserved : goal.loop-point-preserved
loop-point-preserved c =
    let n = c.loop-point.point in
    let x = c.instruction-item.result in
    let same = c.deref-instruction-items.ensures.value in
    let at = subst (λ l. x ≡ slice_index_or l n x) same c.instruction-item.is in
    kept_more c.loop-point.repeats c.keep.new.self c.args.graph.now.instructions.items n x c.in_ok-again.again (subst (λ l. n < length l) same c.loop-point-test.true)
    (c.in_ok-again.ensures ∙ ap (λ i. given_again (instruction_model i)) at) c.in_ok-keep.ensures c.loop-point.invariant

pub returns : goal.returns
returns c =
    kept_all c.loop-point.repeats c.args.graph.now c.loop-point.point (subst (λ l. length l ≤ c.loop-point.point) c.deref-instruction-items.ensures.value c.loop-point-test.false) c.loop-point.invariant
