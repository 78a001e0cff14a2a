use Rattle.std.proofs.Common.{refl, sym, ap, ◌≡◌, ◌∙◌, ◌++◌, map, take, length, arith, ◌+◌}
use Rattle.machine.specs.Blocks.{with_new_owner}
use Rattle.machine.specs.BlockViews.{blocks_model, held_model}
use Rattle.machine.specs.Heaps.{brings}
use Rattle.machine.specs.World.{change_each}
use Rattle.machine.specs.declared.worlds.Held as made_held
use Rattle.machine.specs.declared.worlds.Owner.TheVariants.{Channel}
use Rattle.machine.proofs.ChangeLemmas.{handed_nothing, handed_both}
use Rattle.machine.proofs.CountLemmas.{brings_more}
use Rattle.machine.proofs.changing.lose.Goals as goal

pub loop-number-init : goal.loop-number-init
loop-number-init c = record { seen = sym (handed_nothing Channel (blocks_model c.args.blocks.now.items)); counted = c.requires.counted; listed = refl }

pub loop-number-preserved : goal.loop-number-preserved
loop-number-preserved c =
    let old = blocks_model c.args.blocks.now.items in
    let items = c.args.queue.now.items in
    let i = c.loop-number.number in
    let held = c.index.result.now in
    let so_far = brings (map held_model (take i items)) in
    let all : c.len-number-end.result ≡ length items = c.len-number-end.ensures ∙ c.args.queue.now.ok.0 in
    let next : brings (map held_model (take (i + 1) items)) ≡ so_far ++ c.deref.result.now =
    brings_more items i held (omega arith) ∙ ap (λ l. so_far ++ l) (ap (λ (h : made_held.Held). h.payload.items) (sym c.index.ensures) ∙ sym c.deref.ensures.value) in
    record {
      seen = c.hand.ensures.handed
          ∙ (ap (change_each (with_new_owner Channel c.deref.result.now)) c.loop-number.invariant.seen
          ∙ (handed_both Channel so_far c.deref.result.now old ∙ ap (λ l. change_each (with_new_owner Channel l) old) (sym next)));
      counted = c.hand.ensures.counted;
      listed = c.hand.ensures.listed ∙ c.loop-number.invariant.listed;
    }
