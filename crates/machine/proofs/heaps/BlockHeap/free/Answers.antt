use Rattle.std.proofs.Common.{sym, subst}
use Rattle.machine.specs.BlockViews.{blocks_model}
use Rattle.machine.specs.Heaps.{FieldsHold}
use Rattle.machine.proofs.Holding.{held_freed}
use Rattle.machine.proofs.heaps.BlockHeap.free.Goals as goal

pub invariant_of-self : goal.invariant_of-self
invariant_of-self c = record {
  kept = record {
    counted = c.free.ensures.counted;
    brought = c.free.ensures.brought;
    held = subst FieldsHold (sym c.free.ensures.freed)
        (held_freed (blocks_model c.args.self.now.blocks.items) c.args.a c.args.self.now.kept.held c.requires.owned);
  };
}
