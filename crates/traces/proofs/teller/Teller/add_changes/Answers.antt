use Rattle.std.proofs.Common.{◌≡◌, ◌++◌, ◌∷◌, [], ℕ, true, false, map, sym, ap, ap₂, ◌∙◌, append-nil, arith, if◌then◌else◌}
use Rattle.std.specs.List.{flat_map, list_all}
use Rattle.std.proofs.lemmas.List.{map-append, take_all}
use Rattle.std.proofs.lemmas.List.Folds.{flat_map-map, list_all-map}
use Rattle.flow.specs.Graphs.{instruction_model}
use Rattle.program.specs.Methods.{method_model}
use Rattle.program.specs.declared.number.VarId.{VarId}
use Rattle.rules.specs.Mentions.{name_of}
use Rattle.rules.specs.Programs.{model_of}
use Rattle.rows.specs.Rows.{leaf_at, row_model}
use Rattle.traces.proofs.LineLemmas.{changes_of_move, no_move}
use Rattle.explanations.specs.Lines.{line, line_model}
use Rattle.traces.specs.Lines.{change, changes_with, keeps, takes}
use Rattle.traces.proofs.teller.Teller.add_changes.Goals as goal

pub returns-in_ok-push : goal.returns-in_ok-push
returns-in_ok-push c =
    let p = model_of c.args.self.now.program.now in
    let m = method_model c.args.self.now.method.now in
    let before = row_model c.args.step.now.before.now in
    let after = row_model c.args.step.now.after.now in
    let watched = c.args.watched.now in
    let old = c.args.lines.now.items in
    let target = c.in-Some.target in
    let source = c.in-Some.source in
    let told : line_model c.in_ok-takes.field-0 ≡ line target.place (takes (name_of m target.variable.0) (name_of m source.variable.0))
    = c.in_ok-takes.ensures ∙ ap₂ (λ who what. line target.place (takes who what)) c.name_of-target_name.ensures c.name_of-source_name.ensures in
    let kept : list_all (keeps before after) (map (λ (v : VarId). v.0) watched) ≡ false
    = list_all-map (keeps before after) (λ (v : VarId). v.0) watched ∙ sym c.keeps_all.ensures ∙ c.if-not-keeps_all.true in
    ap (map line_model) c.in_ok-push.ensures.items ∙ map-append line_model old (c.in_ok-takes.field-0 ∷ [])
    ∙ ap (λ l. map line_model old ++ l ∷ []) told
    ∙ ap (λ ls. map line_model old ++ ls) (sym (changes_of_move p m c.args.came (instruction_model c.args.instr.now) (map (λ (v : VarId). v.0) watched) before after target source false (sym c.move_in.ensures ∙ c.in-Some.is) kept))

pub returns-else-not-keeps_all : goal.returns-else-not-keeps_all
returns-else-not-keeps_all c =
    let p = model_of c.args.self.now.program.now in
    let m = method_model c.args.self.now.method.now in
    let before = row_model c.args.step.now.before.now in
    let after = row_model c.args.step.now.after.now in
    let watched = c.args.watched.now in
    let old = c.args.lines.now.items in
    let kept : list_all (keeps before after) (map (λ (v : VarId). v.0) watched) ≡ true
    = list_all-map (keeps before after) (λ (v : VarId). v.0) watched ∙ sym c.keeps_all.ensures ∙ c.if-not-keeps_all.false in
    sym (append-nil (map line_model old))
    ∙ ap (λ ls. map line_model old ++ ls) (sym (changes_of_move p m c.args.came (instruction_model c.args.instr.now) (map (λ (v : VarId). v.0) watched) before after c.in-Some.target c.in-Some.source true (sym c.move_in.ensures ∙ c.in-Some.is) kept))

pub returns : goal.returns
returns c =
    let p = model_of c.args.self.now.program.now in
    let m = method_model c.args.self.now.method.now in
    let before = row_model c.args.step.now.before.now in
    let after = row_model c.args.step.now.after.now in
    let watched = c.args.watched.now in
    let each = λ (v : ℕ). if keeps before after v then [] else change p m c.args.came (instruction_model c.args.instr.now) v (leaf_at after v) in
    let all = take_all c.loop-variable.variable-index watched (omega (arith, c.loop-variable-test.false)) in
    c.loop-variable.invariant
    ∙ ap (λ ls. map line_model c.args.lines.now.items ++ ls)
    (ap (flat_map (λ (v : VarId). each v.0)) all ∙ sym (flat_map-map each (λ (v : VarId). v.0) watched)
    ∙ sym (ap (λ o. changes_with p m o c.args.came (instruction_model c.args.instr.now) (map (λ (v : VarId). v.0) watched) before after) (sym c.move_in.ensures ∙ no_move c.move_in.result (λ move is. c.in_default.not-Some move is))))
