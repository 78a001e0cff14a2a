use Rattle.std.proofs.Common.{get_or, refl}
use Rattle.std.specs.Fmt.{decimal}
use Rattle.replays.proofs.LineLemmas.{piece_more}
use Rattle.replays.proofs.blocks.add_addresses.Goals as goal

pub loop-index-preserved : goal.loop-index-preserved
loop-index-preserved c =
    piece_more decimal 44 c.args.answer.now.items c.loop-index.answer.items c.separate.new.answer.items c.add_number.new.answer.items c.args.addresses.now c.loop-index.index
    0 (get_or c.args.addresses.now c.loop-index.index 0) c.loop-index-test.true refl c.loop-index.invariant c.in_ok-separate.ensures c.in_ok-add_number.ensures
