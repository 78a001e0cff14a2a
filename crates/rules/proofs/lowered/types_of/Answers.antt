use Rattle.std.proofs.Common.{◌≡◌, ◌+◌, ◌<◌, length, slice_index_or, ap, sym, subst, ◌∙◌}
use Rattle.rules.proofs.TypeLemmas.{Listed, listed_less, listed_more}
use Rattle.rules.proofs.lowered.types_of.Goals as goal
use Rattle.rules.proofs.lowered.types_of.Goals.{then-is_parameter+in_ok-push, else-is_parameter}

pub loop-variable-preserved : goal.loop-variable-preserved
loop-variable-preserved c =
    let l = c.loop-variable in
    let variables = c.args.method.now.variables.items in
    let listed = Listed variables (l.variable-index + 1) in
    let x = c.variable-item.result in
    let same = c.deref-variable-items.ensures.value in
    let at = subst (λ vs. slice_index_or vs l.variable-index x ≡ x) same (sym c.variable-item.is) in
    let lt = subst (λ vs. l.variable-index < length vs) same c.loop-variable-test.true in
    elim c.if-is_parameter.branch [
      | then-is_parameter+in_ok-push w ↦
          subst listed (sym (ap (λ v. v.items) w.types-is ∙ w.in_ok-push.ensures.items))
          (listed_more variables l.variable-index x l.types.items lt at (sym c.is_parameter.ensures ∙ w.if-is_parameter.true) l.invariant)
      | else-is_parameter w ↦
          subst listed (sym (ap (λ v. v.items) w.types-is))
          (listed_less variables l.variable-index x l.types.items lt at (sym c.is_parameter.ensures ∙ w.if-is_parameter.false) l.invariant)
    ]
