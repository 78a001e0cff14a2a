use Rattle.std.proofs.Common.{subst, sym, ap, ◌∙◌, ◌≡◌, ◌<◌, List, All, IfOk, arith, map, length, get_or}
use Rattle.std.proofs.lemmas.List.{get_or-map, length-map}
use Rattle.std.proofs.lemmas.List.Elements.{All-head, All-tail}
use Rattle.pool.specs.Counts.{DequeOwner}
use Rattle.pool.specs.Stints.{AreGathered, IsStint, IsWork, owner_of}
use Rattle.pool.proofs.Places.{some_of, split_first}
use Rattle.pool.proofs.sharing.work_all.Goals as goal

pub run_all-requires-clause-first : goal.run_all-requires-clause-first
run_all-requires-clause-first g c κs within =
    let e = c.remove-first.ensures in
    let S = IsStint (g.J.Job.takes c.args.common.now.job.now) (g.J.Job.seats c.args.common.now.job.now) c.args.common.now.thieves.now in
    let split = split_first c.args.stints.items _ c.remove-first.result (omega (arith, c.requires.some, c.args.stints.ok.0)) e.value e.items in
    All-head S _ _ (subst (All S) split c.requires.each)

pub run_all-requires-clause-others : goal.run_all-requires-clause-others
run_all-requires-clause-others g c κs within =
    let e = c.remove-first.ensures in
    let S = IsStint (g.J.Job.takes c.args.common.now.job.now) (g.J.Job.seats c.args.common.now.job.now) c.args.common.now.thieves.now in
    let split = split_first c.args.stints.items _ c.remove-first.result (omega (arith, c.requires.some, c.args.stints.ok.0)) e.value e.items in
    All-tail S _ _ (subst (All S) split c.requires.each)

pub returns : goal.returns
returns g c =
    let e = c.remove-first.ensures in
    let job = c.args.common.now.job.now in
    let thieves = c.args.common.now.thieves.now in
    let others = c.remove-first.new.self.items in
    let rest = c.in_ok-own.rest.items in
    let ran = c.in_ok-own.ensures in
    let split = split_first c.args.stints.items others c.remove-first.result (omega (arith, c.requires.some, c.args.stints.ok.0)) e.value e.items in
    let size : length rest ≡ length others = omega (arith, ran.count, c.in_ok-own.rest.ok.0, c.remove-first.new.self.ok.0) in
    subst (λ (l : List DequeOwner). IfOk c.gather.result (AreGathered (g.J.Job.takes job) (g.J.Job.seats job) (g.J.Job.gives job) thieves l)) (sym (ap (map owner_of) split))
    (c.gather.ensures (owner_of c.remove-first.result) (map owner_of others) ran.first record {
      lengths = length-map others owner_of ∙ sym size;
      each = λ k o s below.
          let there : k < length others = omega (arith, below, size) in
          let t = some_of others k there in
          subst (λ x. IfOk (get_or rest k s) (IsWork (g.J.Job.takes job) (g.J.Job.seats job) (g.J.Job.gives job) thieves x)) (sym (get_or-map owner_of others k t o there))
          (ran.others k s t (omega (arith, below, c.in_ok-own.rest.ok.0)));
    })
