use Rattle.std.proofs.Common.{arith, ◌≡◌, [], subst, sym, ap, All}
use Rattle.std.proofs.lemmas.List.Elements.{All-nil, All-push}
use Rattle.std.proofs.lemmas.List.Sums.{sum_by_push}
use Rattle.crossbeam_deque.specs.Handles.{worker_view}
use Rattle.pool.specs.Rule.{copies}
use Rattle.pool.specs.Counts.{DequeOwner, all_put}
use Rattle.pool.specs.Owners.{IsWholeOwner, owner_put}
use Rattle.pool.specs.declared.held.HeldTask.{HeldTask}
use Rattle.pool.specs.declared.held.Hand.{Hand}
use Rattle.pool.proofs.Shares.{begins}
use Rattle.pool.proofs.filling.empty_deques.Goals as goal

pub fifo_as-requires : goal.fifo_as-requires
fifo_as-requires g c = begins

pub loop-preserved : goal.loop-preserved
loop-preserved g c =
    let i = c.loop.invariant in
    let o = c.in_ok-fifo_as.field-0 in
    let told = c.in_ok-fifo_as.ensures in
    let items = c.in_ok-push.ensures.items in
    let Q = λ (x : DequeOwner). All (λ (y : HeldTask). g.J.Job.takes c.args.job.now y.task) (owner_put x) in
    let whole : IsWholeOwner o = record { fifo = told.1; parts = ap (λ (v : Hand). v.parts) told.4; none = ap (λ (v : Hand). v.taken) told.4 } in
    let put : owner_put o ≡ [] = ap (λ (v : Hand). v.put) told.4 in
    record {
      count = omega (arith, c.in_ok-push.ensures.len, i.count);
      filled = record {
        whole = subst (All IsWholeOwner) (sym items) (All-push IsWholeOwner c.loop.owners.items o i.filled.whole whole);
        tasks = subst (All Q) (sym items) (All-push Q c.loop.owners.items o i.filled.tasks
            (subst (All (λ (y : HeldTask). g.J.Job.takes c.args.job.now y.task)) (sym put) (All-nil (λ (y : HeldTask). g.J.Job.takes c.args.job.now y.task))));
      };
      empty = λ n.
          let e = ap (all_put n) items in
          let f : copies n (owner_put o) ≡ copies n [] = ap (copies n) put in
          let a = i.empty n in
          omega (arith, sum_by_push (λ (x : DequeOwner). copies n (worker_view x).put) c.loop.owners.items o);
    }

pub returns-clause-count : goal.returns-clause-count
returns-clause-count g c = omega (arith, c.loop.invariant.count, c.loop-test.false, c.loop.auto.counter-end)
