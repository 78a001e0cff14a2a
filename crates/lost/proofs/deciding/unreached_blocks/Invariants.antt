use Rattle.std.proofs.Common.{◌≡◌, ◌<◌, ℕ, false, get_or, length}
use Rattle.machine.specs.Views.{blocks_model}
use Rattle.machine.specs.World.{block_at}
use Rattle.lost.specs.Marks.{is_unreached}
use Rattle.lost.proofs.deciding.unreached_blocks.Given as goal

abbrev pub invariant-loop-address : goal.invariant-loop-address
invariant-loop-address l = record {
  long : length l.lost.items ≡ l.address;
  each : (a : ℕ) → a < l.address
      → get_or l.lost.items a false ≡ is_unreached (block_at (blocks_model l.blocks) a) (get_or l.marks a false);
}
