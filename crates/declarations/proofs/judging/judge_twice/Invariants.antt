use Rattle.tables.specs.Tables.{IsTable}
use Rattle.tables.specs.Words.{words_at}
use Rattle.declarations.proofs.TwiceLemmas.{TwiceSoFar}
use Rattle.declarations.proofs.judging.judge_twice.Given as goal

abbrev pub invariant-loop-index : goal.invariant-loop-index
invariant-loop-index l = IsTable (words_at l.text l.names) l.table → TwiceSoFar l.text l.names l.index l.fn.found.items l.found.items
