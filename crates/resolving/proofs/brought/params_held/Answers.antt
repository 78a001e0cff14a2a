use Rattle.std.proofs.Common.{◌∙◌, ap}
use Rattle.std.specs.Global.{Vec}
use Rattle.std.proofs.lemmas.List.{take_all}
use Rattle.tree.specs.declared.contract.MessageParameter.{MessageParameter}
use Rattle.program.specs.declared.types.Scalar.TheVariants.{Int}
use Rattle.tree.specs.declared.types.Type.TheVariants.{Scalar}
use Rattle.program.specs.declared.types.HeapType.{HeapType}
use Rattle.resolving.specs.Brought.{params_held}
use Rattle.resolving.specs.Types.{type_held}
use Rattle.resolving.proofs.BroughtLemmas.{held_none, held_some}
use Rattle.resolving.proofs.brought.params_held.Goals as goal
use Rattle.resolving.proofs.brought.params_held.Goals.{in-Some+in_ok-push, in_default}

-- the default for a read past the end of a list
abbrev past : MessageParameter
past = record { ty = Scalar Int; name = record { start = 0; end = 0; place = record { line = 0; col = 0 } } }

pub loop-param-preserved : goal.loop-param-preserved
loop-param-preserved c = λ p round.
    let params = c.args.params.now in
    let i = c.loop-param.param-index in
    let done = c.loop-param.types.items in
    let lt = c.loop-param-test.true in
    let before = c.loop-param.invariant p round in
    elim c.match-type_held.branch [
      | in-Some+in_ok-push w ↦ ap (λ (k : Vec HeapType). k.items) w.types-is ∙ w.in_ok-push.ensures.items ∙ held_some (λ (x : MessageParameter). type_held p x.ty) params i past w.in-Some.ty done lt before (w.in-Some.ensures p round)
      | in_default w ↦ ap (λ (k : Vec HeapType). k.items) w.types-is ∙ held_none (λ (x : MessageParameter). type_held p x.ty) params i past done lt before (w.in_default.ensures p round)
    ]

pub returns : goal.returns
returns c = λ p round. c.loop-param.invariant p round ∙ ap (params_held p) (take_all c.loop-param.param-index c.args.params.now c.loop-param-test.false)
