use Rattle.std.proofs.Common.{◌≡◌, ◌<◌, [], sym, ap, ◌∙◌, subst, length}
use Rattle.rules.specs.Programs.{model_of}
use Rattle.machine.specs.BlockViews.{blocks_model}
use Rattle.machine.specs.Frames.{addresses, payloads_claimed}
use Rattle.machine.specs.Heaps.{AreOnce, AreOwned}
use Rattle.machine.specs.Views.{variables_model}
use Rattle.machine.proofs.PassLemmas.{pass_once, pass_owned}
use Rattle.machine.proofs.SendLemmas.{send_moves}
use Rattle.machine.proofs.sending.send.Goals as goal

pub returns-then-not-send-clause-tells : goal.returns-then-not-send-clause-tells
returns-then-not-send-clause-tells c = λ bound are w rest is.
    let sending = c.args.sending.now in (
      _,
      send_moves (model_of c.args.turn.now.program.now) bound w.blocks (blocks_model c.blocks-2.result.now) (blocks_model c.blocks-3.result.now) (blocks_model c.blocks-4.result.now) c.args.turn.now.process (variables_model c.args.frame.now.variables)
          sending.endpoint.variable.0 c.has.result c.in-Some.at sending.message.0 sending.payloads.items c.deref.result.now _
          (is ∙ ap blocks_model (sym c.blocks-2.ensures)) (is ∙ ap blocks_model (sym c.blocks-3.ensures)) (is ∙ ap blocks_model (sym c.blocks-4.ensures)) c.deref.ensures.value
          c.has.ensures c.in-Some.ensures.some c.in-Some.ensures.own (c.are_unsent.ensures.pass c.if-not-are_unsent.false) (c.in_ok-way.ensures.pass bound are),
    )

pub send-requires-clause-owned : goal.send-requires-clause-owned
send-requires-clause-owned c =
    let variables = (variables_model c.args.frame.now.variables) in
    let blocks = blocks_model c.blocks-3.result.now in
    let payloads = c.deref.result.now in
    let given : c.deref-3.result.now ≡ addresses variables (payloads_claimed payloads) =
    c.deref-3.ensures.value ∙ (c.in_ok-payload.ensures.value
    ∙ ap (λ l. addresses variables (payloads_claimed l)) (c.deref-2.ensures.value ∙ sym c.deref.ensures.value)) in
    subst (λ l. AreOwned (blocks_model l) c.deref-3.result.now) c.blocks-3.ensures
    (subst (AreOwned blocks) (sym given) (pass_owned blocks c.args.turn.now.process variables [] (payloads_claimed payloads) (c.are_unsent.ensures.pass c.if-not-are_unsent.false)))

pub send-requires-clause-once : goal.send-requires-clause-once
send-requires-clause-once c =
    let variables = (variables_model c.args.frame.now.variables) in
    let blocks = blocks_model c.blocks-3.result.now in
    let payloads = c.deref.result.now in
    let given : c.deref-3.result.now ≡ addresses variables (payloads_claimed payloads) =
    c.deref-3.ensures.value ∙ (c.in_ok-payload.ensures.value
    ∙ ap (λ l. addresses variables (payloads_claimed l)) (c.deref-2.ensures.value ∙ sym c.deref.ensures.value)) in
    subst AreOnce (sym given) (pass_once blocks c.args.turn.now.process variables payloads (c.are_unsent.ensures.pass c.if-not-are_unsent.false))

pub send-requires-clause-there : goal.send-requires-clause-there
send-requires-clause-there c = λ here. subst (λ l. c.in_ok-way.way.peer < length (blocks_model l)) c.blocks-4.ensures (c.in_ok-way.ensures.there here)
