use Rattle.std.proofs.Common.{arith}
use Rattle.singcheck.proofs.ExplainLemmas.{report_end}
use Rattle.singcheck.proofs.explaining.explained_report.Goals as goal

pub returns : goal.returns
returns c = report_end c.args.listed.now c.loop-explained.explained-index c.loop-explained.answer.items _ (omega (arith, c.loop-explained-test.false)) c.loop-explained.invariant c.in_ok-add_count.ensures
