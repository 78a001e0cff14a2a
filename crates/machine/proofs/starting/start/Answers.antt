use Rattle.std.proofs.Common.{◌≡◌, [], Some, refl, sym, subst, ap, ◌∙◌, length, map, reverse}
use Rattle.std.proofs.lemmas.List.{get_or-map}
use Rattle.rules.specs.Programs.{model_of}
use Rattle.machine.specs.Blocks.{argument_tests, with_new_owner}
use Rattle.machine.specs.Frames.{addresses}
use Rattle.machine.specs.Views.{blocks_model, frame_model, stack_of, stack_model, variables_model, world_model}
use Rattle.machine.specs.World.{change_each, stack_at}
use Rattle.machine.specs.declared.halts.Refusal.TheVariants as refusal
use Rattle.machine.specs.declared.worlds.Owner.TheVariants.{Process}
use Rattle.machine.proofs.CallLemmas.{memory_tells, none_passes, passed_on, refused_alone}
use Rattle.machine.specs.Heaps.{AreOwned}
use Rattle.machine.proofs.PassLemmas.{pass_owned}
use Rattle.machine.proofs.StartLemmas.{start_goes, start_is, started_is, started_to}
use Rattle.machine.proofs.starting.start.Goals as goal

pub returns-in-Some-first_fault-clause-tells : goal.returns-in-Some-first_fault-clause-tells
returns-in-Some-first_fault-clause-tells c = λ bound.
    let p = model_of c.args.turn.now.program.now in
    let w = world_model c.args.world.now in
    let s = c.index.result.now in
    let f = c.in-Some.frame in
    let start = c.args.starting.now in
    let here : stack_model s ≡ stack_at (map stack_model c.args.world.now.processes.items) c.args.turn.now.process =
    ap stack_model c.index.ensures ∙ sym (get_or-map stack_model c.args.world.now.processes.items c.args.turn.now.process s [] c.requires.there) in
    let tests = argument_tests (blocks_model c.blocks-2.result.now) c.args.turn.now.process (variables_model f.variables) [] c.deref.result.now in
    refused_alone tests c.in-Some-first_fault.fault (started_to p w c.args.turn.now.process f (map frame_model (reverse s.waiting.items)) start.method start.arguments.items start.next) _ c.in-Some-first_fault.ensures
    (start_is p bound w c.args.turn.now.process start.place start.method start.arguments.items c.deref.result.now start.next _ s f (blocks_model c.blocks-2.result.now) here c.in-Some.is (ap blocks_model c.blocks-2.ensures) c.deref.ensures.value)

pub returns-in_err-owned-clause-tells : goal.returns-in_err-owned-clause-tells
returns-in_err-owned-clause-tells c = λ bound.
    let p = model_of c.args.turn.now.program.now in
    let s = c.index.result.now in
    let start = c.args.starting.now in
    let x = c.in_err-owned.field-0.0 in
    let here : stack_model s ≡ stack_at (map stack_model c.args.world.now.processes.items) c.args.turn.now.process =
    ap stack_model c.index.ensures ∙ sym (get_or-map stack_model c.args.world.now.processes.items c.args.turn.now.process s [] c.requires.there) in
    memory_tells _ c.from_residual.result x _ _ _ (passed_on _ c.from_residual.result x c.from_residual.ensures.1) c.in_err-owned.ensures.memory
    (start_goes p bound (world_model c.args.world.now) c.args.turn.now.process start.place start.method start.arguments.items c.deref.result.now start.next _ s c.in-Some.frame (blocks_model c.blocks-2.result.now)
    here c.in-Some.is (ap blocks_model c.blocks-2.ensures) c.deref.ensures.value (none_passes (argument_tests (blocks_model c.blocks-2.result.now) c.args.turn.now.process (variables_model c.in-Some.frame.variables) [] c.deref.result.now) c.first_fault.result c.in_default-first_fault.is c.first_fault.ensures))

pub returns-in_err-begun-clause-tells : goal.returns-in_err-begun-clause-tells
returns-in_err-begun-clause-tells c = λ bound.
    let p = model_of c.args.turn.now.program.now in
    let s = c.index.result.now in
    let start = c.args.starting.now in
    let x = c.in_err-begun.field-0.0 in
    let here : stack_model s ≡ stack_at (map stack_model c.args.world.now.processes.items) c.args.turn.now.process =
    ap stack_model c.index.ensures ∙ sym (get_or-map stack_model c.args.world.now.processes.items c.args.turn.now.process s [] c.requires.there) in
    memory_tells _ c.from_residual-in_err-begun.result x _ _ _ (passed_on _ c.from_residual-in_err-begun.result x c.from_residual-in_err-begun.ensures.1) c.in_err-begun.ensures.memory
    (start_goes p bound (world_model c.args.world.now) c.args.turn.now.process start.place start.method start.arguments.items c.deref.result.now start.next _ s c.in-Some.frame (blocks_model c.blocks-2.result.now)
    here c.in-Some.is (ap blocks_model c.blocks-2.ensures) c.deref.ensures.value (none_passes (argument_tests (blocks_model c.blocks-2.result.now) c.args.turn.now.process (variables_model c.in-Some.frame.variables) [] c.deref.result.now) c.first_fault.result c.in_default-first_fault.is c.first_fault.ensures))

pub returns-in_err-list-clause-tells : goal.returns-in_err-list-clause-tells
returns-in_err-list-clause-tells c = λ bound.
    let p = model_of c.args.turn.now.program.now in
    let s = c.index.result.now in
    let start = c.args.starting.now in
    let x = c.in_err-list.field-0.0 in
    let here : stack_model s ≡ stack_at (map stack_model c.args.world.now.processes.items) c.args.turn.now.process =
    ap stack_model c.index.ensures ∙ sym (get_or-map stack_model c.args.world.now.processes.items c.args.turn.now.process s [] c.requires.there) in
    memory_tells _ c.from_residual-in_err-list.result x _ _ _ (passed_on _ c.from_residual-in_err-list.result x c.from_residual-in_err-list.ensures.1) c.in_err-list.ensures.memory
    (start_goes p bound (world_model c.args.world.now) c.args.turn.now.process start.place start.method start.arguments.items c.deref.result.now start.next _ s c.in-Some.frame (blocks_model c.blocks-2.result.now)
    here c.in-Some.is (ap blocks_model c.blocks-2.ensures) c.deref.ensures.value (none_passes (argument_tests (blocks_model c.blocks-2.result.now) c.args.turn.now.process (variables_model c.in-Some.frame.variables) [] c.deref.result.now) c.first_fault.result c.in_default-first_fault.is c.first_fault.ensures))

pub returns-in_err-push-clause-tells : goal.returns-in_err-push-clause-tells
returns-in_err-push-clause-tells c = λ bound.
    let p = model_of c.args.turn.now.program.now in
    let s = c.index.result.now in
    let start = c.args.starting.now in
    let here : stack_model s ≡ stack_at (map stack_model c.args.world.now.processes.items) c.args.turn.now.process =
    ap stack_model c.index.ensures ∙ sym (get_or-map stack_model c.args.world.now.processes.items c.args.turn.now.process s [] c.requires.there) in
    memory_tells _ c.from_residual-in_err-push.result refusal.Memory _ _ _ (passed_on _ c.from_residual-in_err-push.result refusal.Memory c.from_residual-in_err-push.ensures.1) refl
    (start_goes p bound (world_model c.args.world.now) c.args.turn.now.process start.place start.method start.arguments.items c.deref.result.now start.next _ s c.in-Some.frame (blocks_model c.blocks-2.result.now)
    here c.in-Some.is (ap blocks_model c.blocks-2.ensures) c.deref.ensures.value (none_passes (argument_tests (blocks_model c.blocks-2.result.now) c.args.turn.now.process (variables_model c.in-Some.frame.variables) [] c.deref.result.now) c.first_fault.result c.in_default-first_fault.is c.first_fault.ensures))

pub returns-clause-tells : goal.returns-clause-tells
returns-clause-tells c = λ bound.
    let p = model_of c.args.turn.now.program.now in
    let w = world_model c.args.world.now in
    let ps = c.args.world.now.processes.items in
    let s = c.index.result.now in
    let f = c.in-Some.frame in
    let start = c.args.starting.now in
    let here : stack_model s ≡ stack_at (map stack_model ps) c.args.turn.now.process = ap stack_model c.index.ensures ∙ sym (get_or-map stack_model ps c.args.turn.now.process s [] c.requires.there) in
    let many : c.len-number.result ≡ length ps = c.len-number.ensures ∙ c.args.world.now.processes.ok.0 in
    start_goes p bound w c.args.turn.now.process start.place start.method start.arguments.items c.deref.result.now start.next _ s f (blocks_model c.blocks-2.result.now) here c.in-Some.is (ap blocks_model c.blocks-2.ensures) c.deref.ensures.value (none_passes (argument_tests (blocks_model c.blocks-2.result.now) c.args.turn.now.process (variables_model c.in-Some.frame.variables) [] c.deref.result.now) c.first_fault.result c.in_default-first_fault.is c.first_fault.ensures)
    ∙ started_is p ps c.args.turn.now.process s f start.method start.arguments.items c.deref-3.result.now c.deref-5.result.now start.next c.in_ok-begun.begun _ c.push.new.self.items c.index_mut.result.now c.go_on.new.stack c.len-number.result c.deref-4.result.now
    (blocks_model c.args.world.now.heap.blocks.items) (blocks_model c.hand_over.new.self.blocks.items)
    c.requires.there c.index.ensures c.in-Some.is c.deref-3.ensures.value c.in_ok-begun.ensures.entered (ap (λ ws. stack_of (Some c.in_ok-begun.begun) ws) c.new.ensures.items) c.in_ok-push.ensures.items c.index_mut.ensures.value c.deref-5.ensures.value c.go_on.ensures many
    (c.deref-4.ensures.value ∙ (c.in_ok-owned.ensures.value ∙ ap (λ l. addresses (variables_model f.variables) l) c.deref-2.ensures.value)) (c.hand_over.ensures ∙ ap (change_each (with_new_owner (Process c.len-number.result) c.deref-4.result.now)) c.list.ensures.same)

pub hand_over-requires-clause-owned : goal.hand_over-requires-clause-owned
hand_over-requires-clause-owned c =
    let variables = (variables_model c.in-Some.frame.variables) in
    let blocks = blocks_model c.blocks-2.result.now in
    let arguments = c.deref.result.now in
    let given : c.deref-4.result.now ≡ addresses variables arguments =
    c.deref-4.ensures.value ∙ (c.in_ok-owned.ensures.value ∙ ap (λ l. addresses variables l) (c.deref-2.ensures.value ∙ sym c.deref.ensures.value)) in
    let same : blocks ≡ blocks_model c.list.new.self.blocks.items = ap blocks_model c.blocks-2.ensures ∙ sym c.list.ensures.same in
    subst (λ bs. AreOwned bs c.deref-4.result.now) same
    (subst (AreOwned blocks) (sym given) (pass_owned blocks c.args.turn.now.process variables [] arguments (none_passes (argument_tests (blocks_model c.blocks-2.result.now) c.args.turn.now.process (variables_model c.in-Some.frame.variables) [] c.deref.result.now) c.first_fault.result c.in_default-first_fault.is c.first_fault.ensures)))
