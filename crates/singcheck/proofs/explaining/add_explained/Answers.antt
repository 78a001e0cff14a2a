use Rattle.std.proofs.Common.{◌++◌, arith}
use Rattle.source.specs.Findings.{finding_model}
use Rattle.singcheck.specs.Lines.{finding_line}
use Rattle.singcheck.proofs.ExplainLemmas.{lines_end, lines_more}
use Rattle.singcheck.proofs.explaining.add_explained.Goals as goal

pub loop-line-preserved : goal.loop-line-preserved
loop-line-preserved c =
    lines_more c.deref-line-items.result.now c.loop-line.line-index _ c.line-item.result (c.args.answer.now.items ++ finding_line (finding_model c.args.explained.now.finding)) c.loop-line.answer.items c.add_line.new.answer.items c.loop-line-test.true c.line-item.is c.loop-line.invariant c.in_ok-add_line.ensures

pub returns : goal.returns
returns c =
    lines_end c.deref-line-items.result.now c.args.explained.now.lines.items c.loop-line.line-index c.args.answer.now.items (finding_line (finding_model c.args.explained.now.finding)) c.loop-line.answer.items c.deref-line-items.ensures.value (omega (arith, c.loop-line-test.false)) c.loop-line.invariant
