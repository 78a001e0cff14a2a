use Rattle.std.proofs.Common.{◌≡◌, take}
use Rattle.std.specs.List.{flat_map}
use Rattle.explanations.specs.Explained.{explained_model}
use Rattle.singcheck.specs.Explains.{explained_lines}
use Rattle.singcheck.proofs.explaining.explained_report.Given as goal

abbrev pub invariant-loop-explained : goal.invariant-loop-explained
invariant-loop-explained l = l.answer.items ≡ flat_map (λ e. explained_lines (explained_model e)) (take l.explained-index l.listed)
