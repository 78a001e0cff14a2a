use Rattle.std.proofs.Common.{refl, sym, ap, ◌∙◌, ◌∷◌, [], take}
use Rattle.std.specs.Prelude.{get_or}
use Rattle.std.proofs.lemmas.List.{take_more}
use Rattle.machine.specs.Blocks.{with_new_owner}
use Rattle.machine.specs.BlockViews.{blocks_model}
use Rattle.machine.specs.World.{change_each}
use Rattle.machine.proofs.ChangeLemmas.{handed_nothing, handed_more}
use Rattle.machine.proofs.changing.hand.Goals as goal

pub loop-a-init : goal.loop-a-init
loop-a-init c = record { seen = sym (handed_nothing c.args.to (blocks_model c.args.blocks.now.items)); counted = c.requires.counted; listed = refl }

pub loop-a-preserved : goal.loop-a-preserved
loop-a-preserved c =
    let a = get_or c.args.given.now c.loop-a.a-index 0 in
    let so_far = take c.loop-a.a-index c.args.given.now in
    record {
      seen = c.hand_one.ensures.handed
          ∙ (ap (change_each (with_new_owner c.args.to (a ∷ []))) c.loop-a.invariant.seen
          ∙ (handed_more c.args.to so_far a (blocks_model c.args.blocks.now.items)
          ∙ ap (λ g. change_each (with_new_owner c.args.to g) (blocks_model c.args.blocks.now.items)) (sym (take_more c.args.given.now c.loop-a.a-index 0 c.loop-a-test.true))));
      counted = c.hand_one.ensures.counted;
      listed = c.hand_one.ensures.listed ∙ c.loop-a.invariant.listed;
    }
