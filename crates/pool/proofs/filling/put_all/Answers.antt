use Rattle.std.proofs.Common.{arith, ◌≡◌, ◌+◌, subst, ap, ◌∙◌, length, map, All}
use Rattle.std.proofs.lemmas.List.Elements.{All-tail}
use Rattle.std.proofs.lemmas.Nat.{mod_below}
use Rattle.std.specs.Vec.Iter.{into_iter_items}
use Rattle.tasks.specs.Tasks.{number_of}
use Rattle.pool.specs.Counts.{times}
use Rattle.pool.proofs.Puts.{times-cons}
use Rattle.pool.proofs.filling.put_all.Goals as goal

pub loop-task-preserved : goal.loop-task-preserved
loop-task-preserved g c =
    let i = c.loop-task.invariant in
    let put = c.in_default-put_at.ensures in
    let count : c.len-count.result ≡ length c.args.owners.items = omega (arith, c.len-count.ensures, c.args.owners.ok.0) in
    let below = mod_below (c.loop-task.index + 1) c.len-count.result (omega (arith, count, i.index, i.len)) in
    record {
      len = put.len ∙ i.len;
      index = omega (arith, below, count, put.len, i.len);
      filled = put.filled;
      tasks = All-tail (g.J.Job.takes c.args.job.now) _ _ (subst (All (g.J.Job.takes c.args.job.now)) c.in-Some.ensures.items i.tasks);
      put = λ n.
          let e = ap (λ l. times n (map number_of l)) c.in-Some.ensures.items in
          let f = times-cons n (number_of c.in-Some.task) (map number_of (into_iter_items c.next.new.self)) in
          let a = put.put n in
          let b = i.put n in
          omega arith;
    }
