use Rattle.std.proofs.Common.{◌∙◌, ◌∷◌, ◌++◌, [], Some, None, ap, map, sym}
use Rattle.program.specs.Parts.{contract_parts}
use Rattle.explanations.specs.Lines.{line_model}
use Rattle.contract_traces.specs.Shown.{taken_sign_text}
use Rattle.contract_traces.proofs.ConditionLemmas.{direction_shown, one_line}
use Rattle.contract_traces.proofs.conditions.Faults.direction_lines.Goals as goal
use Rattle.contract_traces.proofs.conditions.Faults.direction_lines.Goals.{in-Some+in_ok-line_of+in_ok-push, in_default}

pub returns : goal.returns
returns c =
    let parts = contract_parts c.args.self.now.contract.now in
    let ls = map line_model c.match-copied.lines.items in
    let shown = direction_shown parts c.args.self.now.reasons.now.directions c.args.place c.place_key.result c.requires.reasons.directions c.place_key.ensures in
    elim c.match-copied.branch [
      | in-Some+in_ok-line_of+in_ok-push w ↦
          let l = w.in_ok-line_of.field-0 in
          shown (Some w.in-Some.direction) (sym (w.in-Some.ensures ∙ c.get.ensures.value)) ls
          (one_line l ls c.args.place (taken_sign_text w.in-Some.direction)
          (ap (λ v. map line_model v.items) w.lines-is ∙ ap (map line_model) (w.in_ok-push.ensures.items ∙ ap (λ xs. xs ++ l ∷ []) c.new-lines.ensures.items))
          w.in_ok-line_of.ensures.place (w.in_ok-line_of.ensures.text ∙ ap (λ t. t ++ ([] ++ [])) w.sign_text.ensures))
      | in_default w ↦ shown None (sym (w.in_default.ensures ∙ c.get.ensures.value)) ls (ap (λ v. map line_model v.items) w.lines-is ∙ ap (map line_model) c.new-lines.ensures.items)
    ]
