use Rattle.std.proofs.Common.{arith, ap, subst, sym, ◌∙◌, ◌≡◌, All}
use Rattle.std.specs.Prelude.{slice_index_or}
use Rattle.crossbeam_deque.specs.Handles.{view, IsPassOf, stealer_deque}
use Rattle.pool.specs.declared.held.HeldTask.{HeldTask}
use Rattle.pool.specs.Counts.{Ticket}
use Rattle.pool.proofs.Shares.{takes}
use Rattle.pool.proofs.Rounds.{after_steal, stolen, round_set}
use Rattle.pool.proofs.stealing.steal_at.Goals as goal

pub steal_as-requires-clause-takes : goal.steal_as-requires-clause-takes
steal_as-requires-clause-takes g c =
    let old = c.index_mut-pass.result.now in
    let part : (view old).parts ≡ 1 = ap (λ (x : Ticket). (view x).parts) c.index_mut-pass.ensures.value ∙ c.requires.round.parts c.args.index old (omega (arith, c.requires.round.lengths)) in
    takes _ _ (omega arith)

pub returns-clause-round : goal.returns-clause-round
returns-clause-round g c =
    let thieves = c.args.common.now.thieves.now in
    let old = c.index_mut-pass.result.now in
    let is = c.index_mut-pass.ensures.value in
    let in_place = c.requires.index in
    let after = after_steal c.steal_as.result (view old) (view c.steal_as.new.pass) _ _ c.steal_as.ensures.rule in
    let P = λ (x : HeldTask). g.J.Job.takes c.args.common.now.job.now x.task in
    let same = c.steal_as.ensures.same in
    let tasks : All P (view old).put = subst (λ (x : Ticket). All P (view x).put) (sym is) (c.requires.round.tasks c.args.index old (omega (arith, c.requires.round.lengths))) in
    round_set (g.J.Job.takes c.args.common.now.job.now) thieves c.args.passes.now.items c.args.index c.steal_as.new.pass c.requires.round in_place
    (λ t.
    let was : IsPassOf (stealer_deque (slice_index_or thieves c.args.index t)) old =
    subst (IsPassOf (stealer_deque (slice_index_or thieves c.args.index t))) (sym is) (c.requires.round.passes c.args.index t old in_place) in
    (same.0 ∙ was.0, same.1 ∙ was.1, same.3, same.4))
    (after.0 ∙ (ap (λ (x : Ticket). (view x).parts) is ∙ c.requires.round.parts c.args.index old (omega (arith, c.requires.round.lengths))))
    (subst (All P) (sym after.1) tasks)

pub returns-clause-task : goal.returns-clause-task
returns-clause-task g c =
    let old = c.index_mut-pass.result.now in
    let is = c.index_mut-pass.ensures.value in
    let P = λ (x : HeldTask). g.J.Job.takes c.args.common.now.job.now x.task in
    let tasks : All P (view old).put = subst (λ (x : Ticket). All P (view x).put) (sym is) (c.requires.round.tasks c.args.index old (omega (arith, c.requires.round.lengths))) in
    stolen P c.steal_as.result (view old) (view c.steal_as.new.pass) _ _ tasks c.steal_as.ensures.rule
