use Rattle.std.proofs.Common.{ap, sym, ◌∙◌}
use Rattle.machine.specs.Views.{blocks_model, variables_model}
use Rattle.machine.specs.World.{is_own}
use Rattle.machine.proofs.FrameLemmas.{none_of, own_fails}
use Rattle.machine.proofs.switching.are_own.Goals as goal

pub returns-then-is_none-clause-refusal : goal.returns-then-is_none-clause-refusal
returns-then-is_none-clause-refusal c =
    let bs = blocks_model c.args.blocks.now in
    own_fails bs c.args.process (variables_model c.args.frame.now.variables) c.args.endpoints.now c.loop-endpoint.endpoint-index _ c.loop-endpoint-test.true
    (ap (is_own bs c.args.process) (sym c.has.ensures) ∙ none_of c.own.result _ c.if-is_none.ensures c.own.ensures.none) c.loop-endpoint.invariant
