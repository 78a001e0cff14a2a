use Rattle.std.proofs.Common.{subst, IfOk}
use Rattle.pool.specs.Stints.{IsWork}
use Rattle.pool.proofs.Gathers.{gathered_more}
use Rattle.pool.proofs.gathering.gather_one.Goals as goal

pub returns : goal.returns
returns g c = λ begun owner all work.
    let job = c.args.common.now.job.now in
    let thieves = c.args.common.now.thieves.now in
    gathered_more (g.J.Job.takes job) (g.J.Job.seats job) (g.J.Job.gives job) thieves begun owner c.args.all _
    (c.in_ok-owner.owner, c.in_ok-owner.passes, c.in_ok-owner.bench) c.in_ok-push.ensures.items c.in_ok-push-2.ensures.items c.in_ok-push-3.ensures.items c.in_ok-append.ensures.items all
    (subst (λ r. IfOk r (IsWork (g.J.Job.takes job) (g.J.Job.seats job) (g.J.Job.gives job) thieves owner)) c.in_ok-owner.was work)
