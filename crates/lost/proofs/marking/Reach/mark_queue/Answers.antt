use Rattle.std.proofs.Common.{◌<◌, Contains, arith, length, subst}
use Rattle.machine.specs.Views.{held_model}
use Rattle.lost.specs.Marks.{AddsMarks}
use Rattle.lost.proofs.MarkLemmas.{marks_more}
use Rattle.lost.proofs.marking.Reach.mark_queue.Goals as goal

pub loop-index-preserved : goal.loop-index-preserved
loop-index-preserved c =
    let xs = c.args.queue.now.items in
    let m = c.index.result.now in
    let short : c.loop-index.index < length xs = omega (arith, c.len-index-end.ensures, c.loop-index-test.true) in
    marks_more (λ h. Contains h.payload) held_model xs c.loop-index.index m m c.args.self.now c.loop-index.self c.mark_all.new.self short
    c.index.ensures c.loop-index.invariant
    (subst (λ l. AddsMarks (Contains l) c.loop-index.self c.mark_all.new.self) c.deref.ensures.value c.in_ok-mark_all.ensures)
