use Rattle.std.proofs.Common.{arith, ap, subst, ◌∙◌, get_or, IfOk}
use Rattle.pool.specs.Stints.{IsWork}
use Rattle.pool.proofs.threads.fn.run_all.scope.Goals as goal

pub returns-in-Ok : goal.returns-in-Ok
returns-in-Ok g c =
    let h = c.in-Ok.ensures in
    let started = c.in_ok-started.ensures in
    record {
      first = c.work-own.ensures;
      count = h.len ∙ started.count;
      others = λ k d s below.
          let kept = (h.each k d (omega (arith, h.len, below))).1 in
          let told = started.each k kept.handle s (omega (arith, h.len, below)) in
          let common = ap (λ x. x.promise.common.now) kept.handle_is ∙ told.0 in
          let begun = ap (λ x. x.promise.begun.value) kept.handle_is ∙ told.1 in
          let r = get_or c.in-Ok.shifts.items k d in
          subst (λ o. IfOk r (IsWork (g.J.Job.takes c.captures.common.now.job.now) (g.J.Job.seats c.captures.common.now.job.now) (g.J.Job.gives c.captures.common.now.job.now) c.captures.common.now.thieves.now o)) begun
          (subst (λ x. IfOk r (IsWork (g.J.Job.takes x.job.now) (g.J.Job.seats x.job.now) (g.J.Job.gives x.job.now) x.thieves.now kept.handle.promise.begun.value)) common kept.kept);
    }
