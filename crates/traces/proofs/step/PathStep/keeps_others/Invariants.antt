use Rattle.std.proofs.Common.{◌≡◌, ◌==◌, ◌||◌, true, take}
use Rattle.std.specs.List.{list_all}
use Rattle.rows.specs.Rows.{row_model}
use Rattle.traces.specs.Lines.{keeps}
use Rattle.traces.proofs.step.PathStep.keeps_others.Given as goal

abbrev pub invariant-loop-endpoint : goal.invariant-loop-endpoint
invariant-loop-endpoint l = list_all (λ e. (e.variable.0 == l.own.0) || keeps (row_model l.self.before.now) (row_model l.self.after.now) e.variable.0) (take l.endpoint-index l.endpoints) ≡ true
