use Rattle.std.proofs.Common.{ℕ, ◌<◌, get_or, arith, below_more}
use Rattle.contracts.specs.Graphs.{groups}
use Rattle.contracts.proofs.EndlessLemmas.{Waits, heights_all, waits_next}
use Rattle.contracts.proofs.heights.all_heights.Goals as goal

pub loop-v-preserved : goal.loop-v-preserved
loop-v-preserved c =
    let graph = groups c.args.graph.now in
    let order = c.args.order.now in
    let kept = c.lift.ensures.kept in
    let before : (k : ℕ) → k < c.loop-v.v-index → Waits graph c.lift.new.heights (get_or order k 0)
    = λ k lt none. c.loop-v.invariant.waits k lt (kept (get_or order k 0) none) in
    record {
      peeled = c.lift.ensures.peeled;
      waits = below_more _ _ before
          (waits_next graph order c.lift.new.heights c.loop-v.v-index c.requires.order.after c.loop-v-test.true before c.lift.ensures.settled);
    }

pub returns : goal.returns
returns c =
    let past = c.loop-v-test.false in
    heights_all (groups c.args.graph.now) c.args.order.now c.loop-v.heights c.loop-v.invariant.peeled c.requires.order
    (λ k lt. c.loop-v.invariant.waits k (omega (arith, past, lt)))
