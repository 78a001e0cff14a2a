use Rattle.std.proofs.Common.{subst, sym, ap, ◌∙◌, ◌≡◌, ℕ, All, arith, drop, suc, vec_len}
use Rattle.std.proofs.lemmas.List.Elements.{All-head, All-tail}
use Rattle.pool.specs.Stints.{IsStint, owner_of}
use Rattle.pool.proofs.Places.{next_is, pairs_more}
use Rattle.pool.proofs.threads.start_all.Goals as goal

pub loop-stint-init : goal.loop-stint-init
loop-stint-init g c =
    let S = IsStint (g.J.Job.takes c.args.common.now.job.now) (g.J.Job.seats c.args.common.now.job.now) c.args.common.now.thieves.now in record {
      count = omega (arith, c.new-started.ensures.len, c.into_iter-rest.ensures.len);
      left = c.into_iter-rest.ensures.rest ∙ sym (ap (λ (k : ℕ). drop k c.args.stints.items) c.new-started.ensures.len);
      rest = subst (All S) (sym c.into_iter-rest.ensures.rest) c.requires.each;
      each = λ k d s below. absurd (omega (arith, below, c.new-started.ensures.len));
    }

pub start_one-requires-clause-stint : goal.start_one-requires-clause-stint
start_one-requires-clause-stint g c κs within =
    let S = IsStint (g.J.Job.takes c.args.common.now.job.now) (g.J.Job.seats c.args.common.now.job.now) c.args.common.now.thieves.now in
    All-head S _ _ (subst (All S) c.in-Some.ensures.items c.loop-stint.invariant.rest)

pub loop-stint-preserved : goal.loop-stint-preserved
loop-stint-preserved g c =
    let S = IsStint (g.J.Job.takes c.args.common.now.job.now) (g.J.Job.seats c.args.common.now.job.now) c.args.common.now.thieves.now in
    let i = c.loop-stint.invariant in
    let left = sym i.left ∙ c.in-Some.ensures.items in
    let size : vec_len c.push.new.self ≡ suc (vec_len c.loop-stint.started) = omega (arith, c.in_ok-push.ensures.len) in
    let told = c.in_ok-child.ensures in
    let more = pairs_more (λ h t. (h.promise.common.now ≡ c.args.common.now) × (h.promise.begun.value ≡ owner_of t)) c.loop-stint.started.items c.push.new.self.items c.args.stints.items
    c.in_ok-child.child c.in-Some.stint (vec_len c.loop-stint.started) (omega (arith, c.loop-stint.started.ok.0)) c.in_ok-push.ensures.items (λ s. (next_is c.args.stints.items (vec_len c.loop-stint.started) c.in-Some.stint s _ left).0) told i.each in
    record {
      count = omega (arith, size, c.in-Some.ensures.len, i.count);
      left = (next_is c.args.stints.items (vec_len c.loop-stint.started) c.in-Some.stint c.in-Some.stint _ left).1 ∙ ap (λ (k : ℕ). drop k c.args.stints.items) (sym size);
      rest = All-tail S _ _ (subst (All S) c.in-Some.ensures.items i.rest);
      each = λ k d s below. more k d s (omega (arith, below, size));
    }
