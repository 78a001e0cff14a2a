use Rattle.std.proofs.Common.{length, map, reverse}
use Rattle.flow.specs.Growths.{LaysEnd}
use Rattle.flow.specs.Lowering.{reads}
use Rattle.flow.proofs.laying.lay_reads.Given as goal

abbrev pub invariant-loop-mention : goal.invariant-loop-mention
invariant-loop-mention l =
    LaysEnd l.mentions l.mention-iterator.iter.rest.now (map (λ m. m.now) (reverse l.yielded)) l.fn.instructions.items l.instructions.items l.entry (λ done. reads done (length l.fn.instructions.items) l.next)
