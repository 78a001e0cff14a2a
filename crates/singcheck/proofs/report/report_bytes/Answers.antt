use Rattle.std.proofs.Common.{length, arith, refl}
use Rattle.singcheck.proofs.ReportLemmas.{written_is}
use Rattle.singcheck.proofs.report.report_bytes.Goals as goal

pub returns : goal.returns
returns c = written_is c.args.findings.now c.loop-finding.finding-index (length c.args.findings.now) c.loop-finding.answer.items _ (omega arith) c.loop-finding.invariant refl c.in_ok-add_count.ensures
