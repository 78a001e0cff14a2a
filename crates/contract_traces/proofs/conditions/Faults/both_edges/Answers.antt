use Rattle.std.proofs.Common.{◌∙◌, ◌∷◌, ◌++◌, [], Some, None, ap, sym}
use Rattle.program.specs.Parts.{contract_parts}
use Rattle.contract_traces.proofs.ConditionLemmas.{both_shown}
use Rattle.contract_traces.proofs.conditions.Faults.both_edges.Goals as goal
use Rattle.contract_traces.proofs.conditions.Faults.both_edges.Goals.{in-Some+in_ok-push+in_ok-push-2, in_default}

pub returns : goal.returns
returns c =
    let parts = contract_parts c.args.self.now.contract.now in
    let shown = both_shown parts c.args.self.now.reasons.now.both c.args.place c.place_key.result c.requires.reasons.both c.place_key.ensures in
    elim c.match-copied.branch [
      | in-Some+in_ok-push+in_ok-push-2 w ↦
          let a = w.in-Some.sends in
          let b = w.in-Some.receives in
          shown (Some (a, b)) (sym (w.in-Some.ensures ∙ c.get.ensures.value)) c.match-copied.shown.items
          (ap (λ v. v.items) w.shown-is ∙ w.in_ok-push-2.ensures.items ∙ ap (λ l. l ++ b ∷ []) (w.in_ok-push.ensures.items ∙ ap (λ l. l ++ a ∷ []) c.new-shown.ensures.items))
      | in_default w ↦ shown None (sym (w.in_default.ensures ∙ c.get.ensures.value)) c.match-copied.shown.items (ap (λ v. v.items) w.shown-is ∙ c.new-shown.ensures.items)
    ]
