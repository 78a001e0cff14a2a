use Rattle.std.proofs.Common.{Contains, subst}
use Rattle.std.proofs.lemmas.Result.{on_ok_weaker}
use Rattle.machine.specs.Views.{block_model}
use Rattle.lost.specs.Marks.{AddsMarks}
use Rattle.lost.proofs.MarkLemmas.{marks_held}
use Rattle.lost.proofs.marking.Reach.mark_held.Goals as goal

pub returns : goal.returns
returns c =
    on_ok_weaker c.mark_queue.result
    (λ queue. marks_held (block_model c.args.block.now) c.args.self.now c.mark_all.new.self c.mark_queue.new.self
    (subst (λ l. AddsMarks (Contains l) c.args.self.now c.mark_all.new.self) c.deref.ensures.value c.in_ok-mark_all.ensures) queue)
    c.mark_queue.ensures
