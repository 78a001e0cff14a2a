use Rattle.std.proofs.Common.{subst, sym}
use Rattle.pool.specs.Owners.{IsWholeOwner}
use Rattle.pool.proofs.Shares.{pushes}
use Rattle.pool.proofs.filling.put_at.Goals as goal

pub push_as-requires-clause-pushes : goal.push_as-requires-clause-pushes
push_as-requires-clause-pushes g c =
    pushes _ _ _ (subst IsWholeOwner (sym c.index_mut-owner.ensures.value) (c.requires.filled.whole c.args.index c.index_mut-owner.result.now c.requires.index)).parts
