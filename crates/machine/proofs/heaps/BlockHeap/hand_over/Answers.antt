use Rattle.std.proofs.Common.{refl, sym, subst}
use Rattle.machine.specs.BlockViews.{blocks_model}
use Rattle.machine.specs.Heaps.{QueuesBring, FieldsHold}
use Rattle.machine.specs.declared.worlds.Owner.TheVariants.{Process}
use Rattle.machine.proofs.HeapLemmas.{brought_handed}
use Rattle.machine.proofs.HeldLemmas.{held_handed}
use Rattle.machine.proofs.heaps.BlockHeap.hand_over.Goals as goal

pub invariant_of-self : goal.invariant_of-self
invariant_of-self c = record {
  kept = record {
    counted = c.hand.ensures.counted;
    brought = subst QueuesBring (sym c.hand.ensures.handed)
        (brought_handed (Process c.args.process) (blocks_model c.args.self.now.blocks.items) c.args.given.now (λ a. refl) c.requires.owned c.args.self.now.kept.brought);
    held = subst FieldsHold (sym c.hand.ensures.handed)
        (held_handed (Process c.args.process) (blocks_model c.args.self.now.blocks.items) c.args.given.now (λ a. refl) refl c.requires.owned c.args.self.now.kept.held);
  };
}
