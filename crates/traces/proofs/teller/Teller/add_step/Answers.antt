use Rattle.std.proofs.Common.{◌++◌, map, sym, ap, ◌∙◌, append-nil}
use Rattle.std.proofs.lemmas.Result.{on_ok_weaker}
use Rattle.flow.specs.Graphs.{instruction_model}
use Rattle.program.specs.Methods.{method_model}
use Rattle.program.specs.declared.number.VarId.{VarId}
use Rattle.rules.specs.Programs.{model_of}
use Rattle.explanations.specs.Lines.{line_model}
use Rattle.traces.specs.Lines.{step_lines}
use Rattle.traces.specs.Steps.{step_after, step_before}
use Rattle.traces.proofs.LineLemmas.{step_is}
use Rattle.traces.proofs.teller.Teller.add_step.Goals as goal

pub returns-in_default : goal.returns-in_default
returns-in_default c =
    let p = model_of c.args.self.now.program.now in
    let m = method_model c.args.self.now.method.now in
    sym (append-nil (map line_model c.args.lines.now.items))
    ∙ ap (λ o. map line_model c.args.lines.now.items ++ step_lines p m o (map (λ (v : VarId). v.0) c.args.watched.now) (step_before c.args.step.now) (step_after c.args.step.now)) c.in_default.ensures

pub returns : goal.returns
returns c =
    let p = model_of c.args.self.now.program.now in
    let m = method_model c.args.self.now.method.now in
    on_ok_weaker c.add_changes.result
    (step_is p m _ (instruction_model c.in-Some.instr.now) (map (λ (v : VarId). v.0) c.args.watched.now) (step_before c.args.step.now) (step_after c.args.step.now) c.in_ok-came.came
    (map line_model c.args.lines.now.items) (map line_model c.add_choice.new.lines.items) (map line_model c.add_changes.new.lines.items) (sym c.in-Some.ensures) c.in_ok-came.ensures.lines c.in_ok-came.ensures.came)
    c.add_changes.ensures
