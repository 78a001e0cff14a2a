use Rattle.std.proofs.Common.{◌≡◌, ◌<◌, Some, length, sym, ap, ◌∙◌, subst, slice_get}
use Rattle.std.specs.Prelude.{get_or}
use Rattle.std.proofs.lemmas.Option.{slice_get-get_or}
use Rattle.flow.specs.Graphs.{cases_model}
use Rattle.rules.specs.Programs.{model_of}
use Rattle.machine.specs.Answers.{Tells, on_top, own_tests}
use Rattle.machine.specs.Frames.{address}
use Rattle.machine.specs.Machine.{receives_from}
use Rattle.machine.specs.Outcomes.{after_tests}
use Rattle.machine.specs.Views.{blocks_model, frame_model}
use Rattle.machine.specs.World.{owns, read}
use Rattle.machine.proofs.CallLemmas.{pass_alone, passed_on, told_alone}
use Rattle.machine.proofs.PassLemmas.{own_at, pass_each}
use Rattle.machine.proofs.SwitchLemmas.{no_mention, switch_goes, switch_is}
use Rattle.machine.proofs.switching.switch.Goals as goal

pub returns-in_err-are_own-clause-tells : goal.returns-in_err-are_own-clause-tells
returns-in_err-are_own-clause-tells c = λ bound place w rest is.
    let p = model_of c.args.turn.now.program.now in
    let bs = blocks_model c.blocks-2.result.now in
    let es = c.endpoints-endpoints.result.now in
    let f = frame_model c.args.frame.now in
    let x = c.in_err-are_own.field-0.0 in
    told_alone _ c.from_residual.result x (own_tests bs c.args.turn.now.process f.variables es) (receives_from p bound w c.args.turn.now.process f rest (cases_model c.args.cases.now) (slice_get es c.args.choice)) _ _
    (passed_on _ c.from_residual.result x c.from_residual.ensures.1) c.in_err-are_own.ensures.refusal
    (switch_is p bound w c.args.turn.now.process f rest place (cases_model c.args.cases.now) c.args.choice bs es (is ∙ ap blocks_model (sym c.blocks-2.ensures)) c.endpoints-endpoints.ensures)

pub returns-clause-tells : goal.returns-clause-tells
returns-clause-tells c = λ bound place w rest is.
    let p = model_of c.args.turn.now.program.now in
    let bs = blocks_model c.args.heap.now.blocks.items in
    let es = c.endpoints-endpoints.result.now in
    let f = frame_model c.args.frame.now in
    let cs = cases_model c.args.cases.now in
    let e = get_or es c.args.choice no_mention in
    let same : blocks_model c.blocks-2.result.now ≡ bs = ap blocks_model c.blocks-2.ensures in
    let outcome = receives_from p bound w c.args.turn.now.process f rest cs (slice_get es c.args.choice) in
    let passed = ap (λ b. after_tests (own_tests b c.args.turn.now.process f.variables es) outcome) (sym same) ∙ pass_alone (own_tests (blocks_model c.blocks-2.result.now) c.args.turn.now.process f.variables es) outcome c.in_ok-are_own.ensures.pass in
    let there : slice_get es c.args.choice ≡ Some e = slice_get-get_or es c.args.choice no_mention (subst (λ l. c.args.choice < length l) (sym c.endpoints-endpoints.ensures) c.requires.there) in
    subst (λ o. Tells c.deliver.result o (on_top w.processes c.args.turn.now.process rest (frame_model c.deliver.new.frame) (blocks_model c.deliver.new.heap.blocks.items)))
    (sym (switch_is p bound w c.args.turn.now.process f rest place cs c.args.choice bs es is c.endpoints-endpoints.ensures
    ∙ (passed ∙ switch_goes p bound w c.args.turn.now.process f rest cs es c.args.choice e c.address-at.result bs there c.address-at.ensures is)))
    (c.deliver.ensures.tells bound w rest is)

pub deliver-requires : goal.deliver-requires
deliver-requires c =
    let es = c.endpoints-endpoints.result.now in
    let bs = blocks_model c.args.heap.now.blocks.items in
    let f = frame_model c.args.frame.now in
    let short : c.args.choice < length es = subst (λ l. c.args.choice < length l) (sym c.endpoints-endpoints.ensures) c.requires.there in
    let e = get_or es c.args.choice no_mention in
    let own = pass_each (blocks_model c.blocks-2.result.now) c.args.turn.now.process f.variables es c.args.choice no_mention short c.in_ok-are_own.ensures.pass in
    let there = own_at (blocks_model c.blocks-2.result.now) c.args.turn.now.process (read f.variables e.variable.0) own in
    record {
      owned = ap (owns bs c.args.turn.now.process) c.address-at.ensures
          ∙ (ap (λ l. owns (blocks_model l) c.args.turn.now.process (address (read f.variables e.variable.0))) (sym c.blocks-2.ensures) ∙ there);
    }
