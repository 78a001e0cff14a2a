use Rattle.std.proofs.Common.{[], filter, map, take}
use Rattle.flow.specs.Cases.{entrance_model, first_mentions}
use Rattle.flow.specs.Graphs.{cases_model}
use Rattle.program.specs.Methods.{method_model}
use Rattle.rules.specs.Programs.{model_of}
use Rattle.explanations.specs.Lines.{line_model}
use Rattle.traces.specs.Lines.{came_by}
use Rattle.traces.specs.Steps.{HasCases, step_after, step_before}
use Rattle.traces.proofs.teller.Teller.add_cases.Given as goal

abbrev pub invariant-loop-case : goal.invariant-loop-case
invariant-loop-case l =
    let p = model_of l.self.program.now in
    let m = method_model l.self.method.now in
    HasCases p m (map line_model l.fn.lines.items)
    (filter (came_by p m (first_mentions [] (cases_model l.cases)) (step_before l.step) (step_after l.step)) (map entrance_model (take l.case-index l.case-items)))
    l.first l.lines.items
