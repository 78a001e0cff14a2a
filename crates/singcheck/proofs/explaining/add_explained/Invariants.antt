use Rattle.std.proofs.Common.{◌≡◌, ◌++◌, take}
use Rattle.std.specs.List.{flat_map}
use Rattle.source.specs.Findings.{finding_model}
use Rattle.explanations.specs.Lines.{line_model}
use Rattle.singcheck.specs.Lines.{finding_line, trace_line}
use Rattle.singcheck.proofs.explaining.add_explained.Given as goal

abbrev pub invariant-loop-line : goal.invariant-loop-line
invariant-loop-line l = l.answer.items ≡ (l.fn.answer.items ++ finding_line (finding_model l.explained.finding)) ++ flat_map (λ x. trace_line (line_model x)) (take l.line-index l.line-items)
