use Rattle.std.proofs.Common.{subst, sym, ◌∙◌, IfOk, suc, List, [], ◌∷◌, take, get_or, arith}
use Rattle.std.specs.Vec.Iter.{into_iter_items}
use Rattle.pool.specs.Counts.{DequeOwner}
use Rattle.pool.specs.Stints.{AreGathered, IsWork}
use Rattle.pool.proofs.Gathers.{gathered_none}
use Rattle.pool.proofs.Places.{below_of_next, next_is, no_items, take_all, take_next}
use Rattle.pool.proofs.gathering.gather.Goals as goal

pub loop-shift-init : goal.loop-shift-init
loop-shift-init g c =
    let job = c.args.common.now.job.now in
    let thieves = c.args.common.now.thieves.now in record {
      so_far = (
        0,
        c.into_iter-rest.ensures.rest,
        λ one others first work. c.in_ok-all.ensures [] one
            (gathered_none (g.J.Job.takes job) (g.J.Job.seats job) (g.J.Job.gives job) thieves _ c.new.ensures.items c.new-2.ensures.items c.new-3.ensures.items c.new-4.ensures.items) first,
      );
    }

pub loop-shift-preserved : goal.loop-shift-preserved
loop-shift-preserved g c =
    let job = c.args.common.now.job.now in
    let thieves = c.args.common.now.thieves.now in
    let shifts = c.args.others.items in
    let so_far = c.loop-shift.invariant.so_far in
    let k = so_far.0 in
    let left = sym so_far.1 ∙ c.in-Some.ensures.items in
    let next = next_is shifts k c.in-Some.shift c.in-Some.shift _ left in record {
      so_far = (
        suc k,
        next.1,
        λ one others first work.
            let below = below_of_next shifts k c.in-Some.shift _ left in
            let size = work.lengths in
            subst (λ (l : List DequeOwner). AreGathered (g.J.Job.takes job) (g.J.Job.seats job) (g.J.Job.gives job) thieves (one ∷ l) c.in_ok-all-2.all) (take_next others k one (omega (arith, size, below)))
            (c.in_ok-all-2.ensures (one ∷ take k others) (get_or others k one) (so_far.2 one others first work)
            (subst (λ r. IfOk r (IsWork (g.J.Job.takes job) (g.J.Job.seats job) (g.J.Job.gives job) thieves (get_or others k one))) next.0 (work.each k one c.in-Some.shift below))),
      );
    }

pub returns : goal.returns
returns g c = λ one others first work.
    let job = c.args.common.now.job.now in
    let so_far = c.loop-shift.invariant.so_far in
    let none = no_items (into_iter_items c.loop-shift.rest) (omega (arith, c.in_default.ensures.cases.0, c.loop-shift.rest.rest.ok.0)) in
    subst (λ (l : List DequeOwner). AreGathered (g.J.Job.takes job) (g.J.Job.seats job) (g.J.Job.gives job) c.args.common.now.thieves.now (one ∷ l) c.loop-shift.all)
    (take_all c.args.others.items others so_far.0 work.lengths (sym so_far.1 ∙ none)) (so_far.2 one others first work)
