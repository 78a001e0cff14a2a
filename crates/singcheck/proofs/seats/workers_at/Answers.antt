use Rattle.std.proofs.Common.{All, sym, subst}
use Rattle.std.proofs.lemmas.List.Elements.{All-push}
use Rattle.analyse.specs.Workers.{IsWorkerOf}
use Rattle.singcheck.proofs.seats.workers_at.Goals as goal

pub loop-preserved : goal.loop-preserved
loop-preserved c = record {
  seat = c.in-Ok.ensures.left.0;
  each = subst (All (IsWorkerOf c.args.rows.now)) (sym c.in_ok-push-in-Ok.ensures.items)
      (All-push (IsWorkerOf c.args.rows.now) c.loop.workers.items c.new.result c.loop.invariant.each (c.new.ensures.worker c.args.rows.now c.in-Ok.ensures.right.0));
}

pub returns : goal.returns
returns c = record {
  each = subst (All (IsWorkerOf c.args.rows.now)) (sym c.in_ok-push.ensures.items)
      (All-push (IsWorkerOf c.args.rows.now) c.loop.workers.items c.new-2.result c.loop.invariant.each (c.new-2.ensures.worker c.args.rows.now c.loop.invariant.seat));
}
