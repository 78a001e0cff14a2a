use Rattle.std.proofs.Common.{◌++◌, ◌∷◌, [], ℕ, map, sym, ap, ◌∙◌, arith, if◌then◌else◌}
use Rattle.std.specs.List.{flat_map}
use Rattle.std.proofs.lemmas.List.{take_all}
use Rattle.std.proofs.lemmas.List.Folds.{flat_map-map}
use Rattle.program.specs.Methods.{method_model}
use Rattle.program.specs.declared.number.VarId.{VarId}
use Rattle.rules.specs.Programs.{model_of}
use Rattle.rows.specs.Rows.{is_owned, leaf_at, row_model}
use Rattle.explanations.specs.Lines.{line, line_model}
use Rattle.traces.specs.Lines.{has}
use Rattle.traces.proofs.teller.Teller.add_start.Goals as goal

pub returns : goal.returns
returns c =
    let p = model_of c.args.self.now.program.now in
    let m = method_model c.args.self.now.method.now in
    let row = row_model c.args.first.now in
    let watched = c.args.watched.now in
    let each = λ (v : ℕ). if is_owned row v then (line m.name (has p m v (leaf_at row v)) ∷ []) else [] in
    let all = take_all c.loop-variable.variable-index watched (omega (arith, c.loop-variable-test.false)) in
    c.loop-variable.invariant
    ∙ ap (λ ls. map line_model c.args.lines.now.items ++ ls) (ap (flat_map (λ (v : VarId). each v.0)) all ∙ sym (flat_map-map each (λ (v : VarId). v.0) watched))
