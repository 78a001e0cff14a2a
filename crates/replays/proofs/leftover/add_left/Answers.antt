use Rattle.std.proofs.Common.{◌≡◌, ◌++◌, ℕ, false, get_or, subst}
use Rattle.machine.specs.Views.{block_model}
use Rattle.machine.specs.World.{Block}
use Rattle.replays.specs.Naming.{words_of}
use Rattle.replays.specs.Remains.{owned_line}
use Rattle.replays.proofs.LineLemmas.{line_more}
use Rattle.replays.proofs.leftover.add_left.Goals as goal

pub loop-address-preserved : goal.loop-address-preserved
loop-address-preserved c =
    line_more block_model (λ (b : ℕ × Block). owned_line (words_of c.args.naming.now) b.0 b.1 (get_or c.args.lost.now b.0 false) b.1.owner)
    c.args.answer.now.items c.loop-address.answer.items c.add_owned.new.answer.items c.args.blocks.now c.loop-address.address
    c.index-blocks-address.result c.index-blocks-address.result c.loop-address-test.true c.index-blocks-address.is c.loop-address.invariant
    (subst (λ lost. c.add_owned.new.answer.items ≡ c.loop-address.answer.items
    ++ owned_line (words_of c.args.naming.now) c.loop-address.address (block_model c.index-blocks-address.result) lost c.index-blocks-address.result.owner)
    c.is_lost_at.ensures c.in_ok-add_owned.ensures)
