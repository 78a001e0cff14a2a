use Rattle.std.proofs.Common.{◌≡◌, ◌∙◌, [], List, Some, ap, eqb-true, refl, set, subst, sym, length}
use Rattle.std.proofs.lemmas.List.{nil_from_length}
use Rattle.flow.specs.Graphs.{New}
use Rattle.program.specs.declared.statement.Mention.{Mention}
use Rattle.rules.specs.Programs.{model_of}
use Rattle.machine.specs.Answers.{Tells, on_top, with_variables}
use Rattle.machine.specs.Frames.{addresses, payloads_claimed}
use Rattle.machine.specs.Machine.{outcome_from}
use Rattle.machine.specs.Outcomes.{Moved}
use Rattle.machine.specs.Views.{blocks_model, frame_model, variables_model}
use Rattle.machine.specs.World.{Frame, let_go}
use Rattle.machine.specs.declared.halts.Fault.TheVariants.{F3}
use Rattle.machine.specs.declared.halts.Refusal.TheVariants as refusal
use Rattle.machine.proofs.CallLemmas.{memory_tells, passed_on}
use Rattle.machine.proofs.ChangeLemmas.{seen_length}
use Rattle.machine.proofs.MakeLemmas.{blocks_with, given_once, given_owned, tests_fail, tests_pass, world_with}
use Rattle.machine.proofs.owning.new.Goals as goal

pub returns-then-is_empty-clause-tells : goal.returns-then-is_empty-clause-tells
returns-then-is_empty-clause-tells c = λ bound w rest is.
    let none : c.args.arguments.now ≡ [] =
    nil_from_length c.args.arguments.now (eqb-true _ _ (sym c.is_empty.ensures ∙ c.if-is_empty.true)) in
    subst (λ (payloads : List Mention). Tells c.new_alone.result
    (outcome_from (model_of c.args.turn.now.program.now) bound w c.args.turn.now.process (frame_model c.args.frame.now) rest
    (New c.args.target payloads c.args.next) 0)
    (on_top w.processes c.args.turn.now.process rest (frame_model c.new_alone.new.frame) (blocks_model c.new_alone.new.heap.blocks.items)))
    (sym none) (c.new_alone.ensures.tells bound w rest is)

pub returns-then-not-are_unsent-clause-tells : goal.returns-then-not-are_unsent-clause-tells
returns-then-not-are_unsent-clause-tells c = λ bound w rest is.
    tests_fail w.blocks (blocks_model c.blocks-2.result.now) c.args.turn.now.process (variables_model c.args.frame.now.variables)
    (is ∙ ap blocks_model (sym c.blocks-2.ensures)) (payloads_claimed c.args.arguments.now) F3 _
    (c.are_unsent.ensures.fault c.if-not-are_unsent.true)

pub returns-in_err-given-clause-tells : goal.returns-in_err-given-clause-tells
returns-in_err-given-clause-tells c = λ bound w rest is.
    let r = c.from_residual.result in
    memory_tells _ r refusal.Memory _ _ _ (passed_on _ r refusal.Memory c.from_residual.ensures.1) refl
    (tests_pass w.blocks (blocks_model c.blocks-2.result.now) c.args.turn.now.process (variables_model c.args.frame.now.variables)
    (is ∙ ap blocks_model (sym c.blocks-2.ensures)) (payloads_claimed c.args.arguments.now) _
    (c.are_unsent.ensures.pass c.if-not-are_unsent.false))

pub add-requires-clause-owned : goal.add-requires-clause-owned
add-requires-clause-owned c =
    let variables = (variables_model c.args.frame.now.variables) in
    let payloads = c.args.arguments.now in
    let given : c.deref.result.now ≡ addresses variables (payloads_claimed payloads) =
    c.deref.ensures.value ∙ c.in_ok-given.ensures.value in
    given_owned (blocks_model c.args.heap.now.blocks.items) (blocks_model c.blocks-2.result.now) c.args.turn.now.process variables
    (ap blocks_model (sym c.blocks-2.ensures)) payloads c.deref.result.now given (c.are_unsent.ensures.pass c.if-not-are_unsent.false)

pub add-requires-clause-once : goal.add-requires-clause-once
add-requires-clause-once c =
    let variables = (variables_model c.args.frame.now.variables) in
    let payloads = c.args.arguments.now in
    let given : c.deref.result.now ≡ addresses variables (payloads_claimed payloads) =
    c.deref.ensures.value ∙ c.in_ok-given.ensures.value in
    given_once (blocks_model c.args.heap.now.blocks.items) (blocks_model c.blocks-2.result.now) c.args.turn.now.process variables
    (ap blocks_model (sym c.blocks-2.ensures)) payloads c.deref.result.now given (c.are_unsent.ensures.pass c.if-not-are_unsent.false)

pub returns-in_err-add-clause-tells : goal.returns-in_err-add-clause-tells
returns-in_err-add-clause-tells c = λ bound w rest is.
    let x = c.in_err-add.field-0.0 in
    let r = c.from_residual-in_err-add.result in
    memory_tells _ r x _ _ _ (passed_on _ r x c.from_residual-in_err-add.ensures.1) c.in_err-add.ensures.memory
    (tests_pass w.blocks (blocks_model c.blocks-2.result.now) c.args.turn.now.process (variables_model c.args.frame.now.variables)
    (is ∙ ap blocks_model (sym c.blocks-2.ensures)) (payloads_claimed c.args.arguments.now) _
    (c.are_unsent.ensures.pass c.if-not-are_unsent.false))

pub returns-in_err-list-clause-tells : goal.returns-in_err-list-clause-tells
returns-in_err-list-clause-tells c = λ bound w rest is.
    let x = c.in_err-list.field-0.0 in
    let r = c.from_residual-in_err-list.result in
    memory_tells _ r x _ _ _ (passed_on _ r x c.from_residual-in_err-list.ensures.1) c.in_err-list.ensures.memory
    (tests_pass w.blocks (blocks_model c.blocks-2.result.now) c.args.turn.now.process (variables_model c.args.frame.now.variables)
    (is ∙ ap blocks_model (sym c.blocks-2.ensures)) (payloads_claimed c.args.arguments.now) _
    (c.are_unsent.ensures.pass c.if-not-are_unsent.false))

pub returns-clause-tells : goal.returns-clause-tells
returns-clause-tells c = λ bound w rest is.
    let f = frame_model c.args.frame.now in
    let payloads = c.args.arguments.now in
    let items = c.args.heap.now.blocks.items in
    let given : c.deref.result.now ≡ addresses f.variables (payloads_claimed payloads) =
    c.deref.ensures.value ∙ c.in_ok-given.ensures.value in
    tests_pass w.blocks (blocks_model c.blocks-2.result.now) c.args.turn.now.process f.variables
    (is ∙ ap blocks_model (sym c.blocks-2.ensures)) (payloads_claimed payloads) _ (c.are_unsent.ensures.pass c.if-not-are_unsent.false)
    ∙ ap Moved (world_with w.processes c.args.turn.now.process rest f (frame_model c.put.new.self) c.args.next
    c.args.target.variable.0 (length c.blocks-address.result.now) w.blocks (blocks_model c.add.new.self.blocks.items)
    (payloads_claimed payloads) (payloads_claimed payloads) c.deref.result.now (variables_model c.lets_payloads_go.new.variables) _
    c.type_at-ty.result refl given
    (ap length c.blocks-address.ensures ∙ (sym (seen_length items) ∙ ap length (sym is))) c.type_at-ty.ensures
    (c.lets_payloads_go.ensures.gone ∙ ap (λ (x : Frame). let_go x.variables (payloads_claimed payloads)) c.list.ensures.same)
    (c.put.ensures.put ∙ ap (λ (x : Frame). with_variables x (set (variables_model c.lets_payloads_go.new.variables)
    c.args.target.variable.0 (Some (length c.blocks-address.result.now)))) c.list.ensures.same)
    (c.in_ok-add.ensures.added ∙ ap (blocks_with c.type_at-ty.result c.args.turn.now.process c.deref.result.now) (sym is)))

pub put-requires : goal.put-requires
put-requires c = record { takes = λ a e. c.lets_payloads_go.ensures.still _ c.in_ok-list.ensures.takes }
