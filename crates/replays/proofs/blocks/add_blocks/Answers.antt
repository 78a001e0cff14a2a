use Rattle.std.proofs.Common.{ℕ}
use Rattle.machine.specs.Views.{block_model}
use Rattle.machine.specs.World.{Block}
use Rattle.replays.specs.Naming.{words_of}
use Rattle.replays.specs.WorldLines.{block_line}
use Rattle.replays.proofs.LineLemmas.{line_more}
use Rattle.replays.proofs.blocks.add_blocks.Goals as goal

pub loop-address-preserved : goal.loop-address-preserved
loop-address-preserved c =
    line_more block_model (λ (b : ℕ × Block). block_line (words_of c.args.naming.now) b.0 b.1) c.args.answer.now.items c.loop-address.answer.items c.add_block.new.answer.items c.args.blocks.now c.loop-address.address
    c.index-blocks-address.result c.index-blocks-address.result c.loop-address-test.true c.index-blocks-address.is c.loop-address.invariant c.in_ok-add_block.ensures
