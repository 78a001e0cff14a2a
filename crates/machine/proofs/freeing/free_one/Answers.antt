use Rattle.std.proofs.Common.{[], ◌∷◌, ◌∙◌, refl, sym, ap, subst}
use Rattle.machine.specs.Answers.{left_in}
use Rattle.machine.specs.BlockViews.{blocks_model}
use Rattle.machine.specs.Blocks.{with_new_owner}
use Rattle.machine.specs.Heaps.{IsCounted, brings}
use Rattle.machine.specs.World.{block_at, change_each}
use Rattle.machine.specs.declared.worlds.Owner.TheVariants.{Channel, Freed}
use Rattle.machine.proofs.CountLemmas.{counted_kept}
use Rattle.machine.proofs.FreedQueues.{freed_is}
use Rattle.machine.proofs.freeing.free_one.Goals as goal

pub lose-requires : goal.lose-requires
lose-requires c = record {
  counted = subst (λ bs. IsCounted bs c.args.counts.now.items) (sym c.take_queue-queue.ensures.left)
      (counted_kept (left_in c.args.x []) (blocks_model c.args.blocks.now.items) c.args.counts.now.items (λ j b. refl) c.requires.counted);
}

pub returns-clause-freed : goal.returns-clause-freed
returns-clause-freed c =
    let old = blocks_model c.args.blocks.now.items in
    c.hand_one.ensures.handed
    ∙ (ap (change_each (with_new_owner Freed (c.args.x ∷ []))) (c.lose.ensures.lost
    ∙ (ap (λ q. change_each (with_new_owner Channel (brings q)) (blocks_model c.take_queue-queue.new.blocks.items)) c.take_queue-queue.ensures.taken
    ∙ ap (change_each (with_new_owner Channel (brings (block_at old c.args.x).queue))) c.take_queue-queue.ensures.left))
    ∙ freed_is old c.args.x c.requires.brought c.requires.empty)
