use Rattle.std.proofs.Common.{◌≡◌, true, take}
use Rattle.std.specs.List.{list_all}
use Rattle.rows.specs.Rows.{row_model}
use Rattle.traces.specs.Lines.{keeps}
use Rattle.traces.proofs.step.PathStep.keeps_all.Given as goal

abbrev pub invariant-loop-variable : goal.invariant-loop-variable
invariant-loop-variable l = list_all (λ v. keeps (row_model l.self.before.now) (row_model l.self.after.now) v.0) (take l.variable-index l.variables) ≡ true
