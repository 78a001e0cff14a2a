use Rattle.std.proofs.Common.{◌≡◌, true, false, sym, ◌∙◌}
use Rattle.machine.specs.Views.{variables_model}
use Rattle.machine.proofs.GiveLemmas.{claims, claims_not}
use Rattle.machine.proofs.giving.is_claimed.Goals as goal
use Rattle.machine.proofs.giving.is_claimed.Goals.{else-argument-via-then-argument+else-address-a, else-argument-via-else-argument}

pub returns-then-address-a : goal.returns-then-address-a
returns-then-address-a c =
    sym (claims (variables_model c.args.frame.now.variables) c.args.arguments.now c.loop-argument.argument-index c.args.a _ c.loop-argument-test.true c.if-argument.true
    (sym c.address.ensures ∙ c.if-address-a.true))

pub loop-argument-preserved : goal.loop-argument-preserved
loop-argument-preserved c =
    let variables = (variables_model c.args.frame.now.variables) in
    let arguments = c.args.arguments.now in
    let n = c.loop-argument.argument-index in
    elim c.else-argument.branch [
      | else-argument-via-then-argument+else-address-a w ↦
          claims_not variables arguments n c.args.a _ c.loop-argument-test.true c.loop-argument.invariant (λ claimed is. w.if-address-a.false (w.address.ensures ∙ is))
      | else-argument-via-else-argument w ↦
          claims_not variables arguments n c.args.a _ c.loop-argument-test.true c.loop-argument.invariant (λ claimed. absurd (let bad : true ≡ false = sym claimed ∙ w.if-argument.false in cc))
    ]
