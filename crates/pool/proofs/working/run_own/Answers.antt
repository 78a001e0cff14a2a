use Rattle.std.proofs.Common.{arith, subst, sym, ap, ◌∙◌, All, ◌∷◌, []}
use Rattle.crossbeam_deque.specs.Handles.{worker_view}
use Rattle.pool.specs.declared.held.Hand.{Hand}
use Rattle.pool.specs.declared.held.HeldTask.{HeldTask}
use Rattle.pool.specs.Rule.{copies}
use Rattle.pool.proofs.Shares.{takes, taken_one}
use Rattle.pool.proofs.Benches.{does_more, took_more}
use Rattle.pool.proofs.working.run_own.Goals as goal

pub pop_as-requires-clause-fifo : goal.pop_as-requires-clause-fifo
pop_as-requires-clause-fifo g c fifo = let part = c.loop.invariant.took.parts in let some_part = c.requires.own.part in takes _ _ (omega arith)

pub pop_as-requires-clause-lifo : goal.pop_as-requires-clause-lifo
pop_as-requires-clause-lifo g c lifo = let same = c.loop.invariant.took.keeps.flavor in let fifo = c.requires.own.fifo in absurd (omega arith)

pub run_one-requires-clause-task : goal.run_one-requires-clause-task
run_one-requires-clause-task g c κs within =
    let P = λ (x : HeldTask). g.J.Job.takes c.args.common.now.job.now x.task in
    taken_one P (worker_view c.loop.owner).put c.in-Some-pop_as.held c.in-Some-pop_as.ensures.rule.1
    (subst (All P) (sym c.loop.invariant.took.keeps.put) c.requires.own.tasks)

pub loop-preserved : goal.loop-preserved
loop-preserved g c =
    let told = c.in-Some-pop_as.ensures.rule.0 in
    let same = c.in-Some-pop_as.ensures.same in
    let i = c.loop.invariant in record {
      took = record {
        keeps = record {
          deque = same.0.0 ∙ i.took.keeps.deque;
          flavor = same.0.1 ∙ i.took.keeps.flavor;
          put = ap (λ (v : Hand). v.put) told ∙ i.took.keeps.put;
        };
        parts = ap (λ (v : Hand). v.parts) told ∙ i.took.parts;
      };
      seat = c.in_ok-run_one-in-Some-pop_as.ensures.seat;
      does = does_more _ _ _ (λ n. copies n (c.in-Some-pop_as.held ∷ [])) _ _ _ _ (took_more (worker_view c.loop.owner) (worker_view c.pop_as.new.self) (c.in-Some-pop_as.held ∷ []) told) i.does c.in_ok-run_one-in-Some-pop_as.ensures.does;
    }

pub returns-in-None-pop_as-clause-does : goal.returns-in-None-pop_as-clause-does
returns-in-None-pop_as-clause-does g c =
    let told = c.in-None-pop_as.ensures.rule.0 in
    let i = c.loop.invariant.does in record {
      counted = λ n. let e = ap (λ (v : Hand). copies n v.taken) told in let a = i.counted n in omega arith;
      given = i.given;
    }
