use Rattle.std.proofs.Common.{◌+◌, ap, sym, subst, ◌∙◌}
use Rattle.flow.proofs.EndpointLemmas.{Named, named_again, named_more}
use Rattle.flow.proofs.cases.endpoints_of.Goals as goal
use Rattle.flow.proofs.cases.endpoints_of.Goals.{then-branch+in_ok-push, else-branch}

pub loop-case-preserved : goal.loop-case-preserved
loop-case-preserved c =
    let l = c.loop-case in
    let named = Named c.insert.new.self c.args.cases.now (l.case-index + 1) in
    let x = c.case-item.result in
    elim c.if-branch.branch [
      | then-branch+in_ok-push w ↦
          subst named (sym (ap (λ v. v.items) w.endpoints-is ∙ w.in_ok-push.ensures.items))
          (named_more l.seen c.insert.new.self c.args.cases.now l.case-index x l.endpoints.items _ c.loop-case-test.true (sym c.case-item.is) w.if-branch.true c.in_ok-insert.ensures.added c.in_ok-insert.ensures.updates l.invariant)
      | else-branch w ↦
          subst named (sym (ap (λ v. v.items) w.endpoints-is))
          (named_again l.seen c.insert.new.self c.args.cases.now l.case-index x l.endpoints.items _ c.loop-case-test.true (sym c.case-item.is) w.if-branch.false c.in_ok-insert.ensures.added c.in_ok-insert.ensures.updates l.invariant)
    ]
