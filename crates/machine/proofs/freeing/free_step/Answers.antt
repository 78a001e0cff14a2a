use Rattle.std.proofs.Common.{refl, sym, subst}
use Rattle.machine.specs.Freeing.{fields_left}
use Rattle.machine.specs.BlockViews.{blocks_model}
use Rattle.machine.specs.Heaps.{IsCounted}
use Rattle.machine.proofs.CountLemmas.{counted_kept}
use Rattle.machine.proofs.freeing.free_step.Goals as goal

pub returns-in-Some-clause-counted : goal.returns-in-Some-clause-counted
returns-in-Some-clause-counted c = subst (λ bs. IsCounted bs c.args.counts.now.items) (sym c.in-Some.ensures.some.blocks)
    (counted_kept (fields_left c.args.x c.in-Some.ensures.some.rest) (blocks_model c.args.blocks.now.items) c.args.counts.now.items
    (λ j b. refl) c.requires.counted)
