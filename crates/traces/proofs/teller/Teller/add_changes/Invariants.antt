use Rattle.std.proofs.Common.{◌≡◌, ◌++◌, [], map, take, if◌then◌else◌}
use Rattle.std.specs.List.{flat_map}
use Rattle.flow.specs.Graphs.{instruction_model}
use Rattle.program.specs.Methods.{method_model}
use Rattle.rules.specs.Programs.{model_of}
use Rattle.rows.specs.Rows.{leaf_at, row_model}
use Rattle.explanations.specs.Lines.{line_model}
use Rattle.traces.specs.Lines.{change, keeps}
use Rattle.traces.proofs.teller.Teller.add_changes.Given as goal

abbrev pub invariant-loop-variable : goal.invariant-loop-variable
invariant-loop-variable l = map line_model l.lines.items ≡ map line_model l.fn.lines.items
    ++ flat_map (λ v. if keeps (row_model l.step.before.now) (row_model l.step.after.now) v.0 then [] else change (model_of l.self.program.now) (method_model l.self.method.now) l.came (instruction_model l.instr) v.0 (leaf_at (row_model l.step.after.now) v.0)) (take l.variable-index l.watched)
