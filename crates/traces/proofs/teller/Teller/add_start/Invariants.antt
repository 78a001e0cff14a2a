use Rattle.std.proofs.Common.{◌≡◌, ◌++◌, ◌∷◌, [], map, take, if◌then◌else◌}
use Rattle.std.specs.List.{flat_map}
use Rattle.program.specs.Methods.{method_model}
use Rattle.rules.specs.Programs.{model_of}
use Rattle.rows.specs.Rows.{is_owned, leaf_at, row_model}
use Rattle.explanations.specs.Lines.{line, line_model}
use Rattle.traces.specs.Lines.{has}
use Rattle.traces.proofs.teller.Teller.add_start.Given as goal

abbrev pub invariant-loop-variable : goal.invariant-loop-variable
invariant-loop-variable l = map line_model l.lines.items ≡ map line_model l.fn.lines.items
    ++ flat_map (λ v. if is_owned (row_model l.first) v.0 then (line l.self.method.now.name (has (model_of l.self.program.now) (method_model l.self.method.now) v.0 (leaf_at (row_model l.first) v.0)) ∷ []) else []) (take l.variable-index l.watched)
