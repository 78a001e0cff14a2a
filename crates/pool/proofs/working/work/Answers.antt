use Rattle.std.proofs.Common.{subst, sym, ap, All, arith}
use Rattle.std.proofs.lemmas.List.Elements.{All-nil}
use Rattle.pool.specs.Rule.{copies}
use Rattle.pool.specs.Counts.{method_of, times_done}
use Rattle.pool.proofs.working.work.Goals as goal

pub returns : goal.returns
returns g c =
    let gives = g.J.Job.gives c.args.common.now.job.now in
    let own = c.in_ok-run_own.ensures.does in
    let others = c.in_ok-steal_round.ensures.does in
    record {
      own = c.run_own.ensures.took;
      round = c.steal_round.ensures.round;
      counted = λ n.
          let a = own.counted n in
          let b = others.counted n in
          let none = ap (copies n) c.requires.stint.fresh in
          let begun = c.requires.stint.passes.none n in
          let empty = ap (times_done n) c.new.ensures.items in
          omega arith;
      given = others.given (own.given (subst (All (λ d. gives (method_of d) d.out)) (sym c.new.ensures.items) (All-nil (λ d. gives (method_of d) d.out))));
      seat = c.steal_round.ensures.seat;
    }
