use Rattle.std.proofs.Common.{◌<◌, ◌≡◌, ◌+◌, subst, sym, ap, refl, arith, ◌∙◌}
use Rattle.std.proofs.lemmas.List.{get_or_default}
use Rattle.crossbeam_deque.specs.Handles.{view, worker_view}
use Rattle.pool.specs.declared.held.Hand.{Hand}
use Rattle.pool.specs.Rule.{copies}
use Rattle.pool.specs.Counts.{DequeOwner}
use Rattle.pool.specs.Owners.{TookIn, owner_parts}
use Rattle.pool.proofs.Shares.{copies-append, merges}
use Rattle.pool.proofs.Places.{sum_one}
use Rattle.pool.proofs.absorbing.absorb_at.Goals as goal

pub absorb-requires-clause-rule : goal.absorb-requires-clause-rule
absorb-requires-clause-rule c =
    merges _ _ _ _ (subst (λ (o : DequeOwner). 0 < owner_parts o) (sym c.index_mut-owner.ensures.value) (c.requires.part c.index_mut-owner.result.now))

pub returns-clause-one : goal.returns-clause-one
returns-clause-one c =
    let told = c.absorb.ensures.rule in
    let same = c.absorb.ensures.same in record {
      old = c.index_mut-owner.result.now;
      new = c.absorb.new.self;
      was = λ o. get_or_default c.args.owners.now.items c.args.index o c.index_mut-owner.result.now c.requires.index ∙ sym c.index_mut-owner.ensures.value;
      now = refl;
      changes = record {
        keeps = record {
          deque = same.0.0;
          flavor = same.0.1;
          put = ap (λ (v : Hand). v.put) told;
        };
        parts = ap (λ (v : Hand). v.parts) told;
        taken = ap (λ (v : Hand). v.taken) told;
      };
    }

pub returns-clause-taken : goal.returns-clause-taken
returns-clause-taken c = λ n.
    let one = returns-clause-one c in
    let f = λ (o : DequeOwner). copies n (worker_view o).taken in
    let sum = sum_one f c.args.index (TookIn c.args.pass) c.args.owners.now.items _ c.requires.index one in
    let more : f one.new ≡ f one.old + copies n (view c.args.pass).taken = ap (copies n) one.changes.taken ∙ copies-append n (worker_view one.old).taken (view c.args.pass).taken in
    omega arith
