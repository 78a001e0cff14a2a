use Rattle.std.proofs.Common.{ℕ, List}
use Rattle.tree.specs.Trees.{ItemTree}
use Rattle.resolving.specs.Around.{program_in}
use Rattle.resolving.specs.Steps.{AddsReads}
use Rattle.resolving.proofs.CalleeLemmas.{read_to}
use Rattle.resolving.proofs.calls.add_argument_reads.Given as goal

abbrev pub invariant-loop-argument : goal.invariant-loop-argument
invariant-loop-argument l = (items : List ItemTree) (own : ℕ) → AddsReads l.text l.locals (read_to (program_in l.text items) own l.arguments l.argument-index) l.fn.found.items l.found.items
