use Rattle.std.proofs.Common.{◌∙◌, ◌∷◌, ◌++◌, [], Some, None, ap, sym}
use Rattle.contract_traces.proofs.ConditionLemmas.{earlier_shown}
use Rattle.contract_traces.proofs.conditions.Faults.earlier_edge.Goals as goal
use Rattle.contract_traces.proofs.conditions.Faults.earlier_edge.Goals.{in-Some+in_ok-push, in_default}

pub returns : goal.returns
returns c =
    let edges = c.args.self.now.contract.now.edges.items in
    let shown = earlier_shown edges c.args.self.now.reasons.now.earlier c.args.place c.place_key.result c.requires.reasons.earlier c.place_key.ensures in
    elim c.match-copied.branch [
      | in-Some+in_ok-push w ↦
          shown (Some w.in-Some.earlier) (sym (w.in-Some.ensures ∙ c.get.ensures.value)) c.match-copied.shown.items
          (ap (λ v. v.items) w.shown-is ∙ w.in_ok-push.ensures.items ∙ ap (λ l. l ++ w.in-Some.earlier ∷ []) c.new-shown.ensures.items)
      | in_default w ↦ shown None (sym (w.in_default.ensures ∙ c.get.ensures.value)) c.match-copied.shown.items (ap (λ v. v.items) w.shown-is ∙ c.new-shown.ensures.items)
    ]
