use Rattle.std.proofs.Common.{◌<◌, subst, sym, ap, refl, arith, ◌∙◌}
use Rattle.std.proofs.lemmas.List.{get_or_default}
use Rattle.pool.specs.declared.held.Hand.{Hand}
use Rattle.pool.specs.Counts.{DequeOwner}
use Rattle.pool.specs.Owners.{owner_parts}
use Rattle.pool.proofs.Shares.{forks}
use Rattle.pool.proofs.cutting.cut_at.Goals as goal

pub another-requires : goal.another-requires
another-requires c =
    forks _ _ (subst (λ (o : DequeOwner). 1 < owner_parts o) (sym c.index_mut-owner.ensures.value) (c.requires.part c.index_mut-owner.result.now))

pub returns : goal.returns
returns c =
    let told = c.another.ensures.rule in
    let same = c.another.ensures.same in
    let some_part : 1 < owner_parts c.index_mut-owner.result.now =
    subst (λ (o : DequeOwner). 1 < owner_parts o) (sym c.index_mut-owner.ensures.value) (c.requires.part c.index_mut-owner.result.now) in record {
      old = c.index_mut-owner.result.now;
      new = c.another.new.self;
      was = λ o. get_or_default c.args.owners.now.items c.args.index o c.index_mut-owner.result.now c.requires.index ∙ sym c.index_mut-owner.ensures.value;
      now = refl;
      changes = record {
        keeps = record {
          deque = same.0.0;
          flavor = same.0.1;
          put = ap (λ (v : Hand). v.put) told.0;
        };
        parts = (let e = ap (λ (v : Hand). v.parts) told.0 in omega arith);
        taken = ap (λ (v : Hand). v.taken) told.0;
        pass = same.2;
        part = ap (λ (v : Hand). v.parts) told.1;
        none = ap (λ (v : Hand). v.taken) told.1;
        put = ap (λ (v : Hand). v.put) told.1;
      };
    }
