use Rattle.std.proofs.Common.{◌≡◌, sym, ap, ◌∙◌, true}
use Rattle.machine.specs.BlockViews.{blocks_model}
use Rattle.machine.specs.World.{block_at, is_own, owns}
use Rattle.machine.proofs.HeapLemmas.{of_some}
use Rattle.machine.proofs.acting.delete.Goals as goal

pub free-requires : goal.free-requires
free-requires c =
    let own : owns (blocks_model c.blocks-2.result.now) c.args.process c.in-Some.a ≡ true = ap (is_own (blocks_model c.blocks-2.result.now) c.args.process) (sym c.in-Some.ensures.some) ∙ c.in-Some.ensures.own in
    record {
      owned = of_some (block_at (blocks_model c.args.heap.now.blocks.items) c.in-Some.a).owner c.args.process (ap (λ l. owns (blocks_model l) c.args.process c.in-Some.a) (sym c.blocks-2.ensures) ∙ own);
    }
