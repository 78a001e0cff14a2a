use Rattle.std.proofs.Common.{◌∙◌, []}
use Rattle.rules.specs.Programs.{model_of}
use Rattle.machine.specs.Blocks.{argument_tests}
use Rattle.machine.specs.Views.{blocks_model, variables_model}
use Rattle.machine.proofs.CallLemmas.{call_is, call_tells, called_to, entered_is, memory_tells, none_passes, pass_alone, passed_on, refused_alone}
use Rattle.machine.proofs.calling.call.Goals as goal

pub returns-in-Some-first_fault-clause-tells : goal.returns-in-Some-first_fault-clause-tells
returns-in-Some-first_fault-clause-tells c = λ bound w is.
    let p = model_of c.args.turn.now.program.now in
    let f = c.in-Some.frame in
    let call = c.args.calling.now in
    let tests = argument_tests (blocks_model c.args.blocks.now) c.args.turn.now.process (variables_model f.variables) [] c.deref.result.now in
    refused_alone tests c.in-Some-first_fault.fault (called_to p w c.args.turn.now.process f c.args.stack.now.waiting.items call.method call.arguments.items) _ c.in-Some-first_fault.ensures
    (call_is p bound w c.args.turn.now.process call.place call.method call.arguments.items c.deref.result.now call.target call.next c.args.stack.now.top c.args.stack.now.waiting.items f (blocks_model c.args.blocks.now) c.in-Some.is is c.deref.ensures.value)

pub returns-in_err-begun-clause-tells : goal.returns-in_err-begun-clause-tells
returns-in_err-begun-clause-tells c = λ bound w is.
    let p = model_of c.args.turn.now.program.now in
    let f = c.in-Some.frame in
    let call = c.args.calling.now in
    let bs = blocks_model c.args.blocks.now in
    let x = c.in_err-begun.field-0.0 in
    memory_tells _ c.from_residual.result x _ _ _ (passed_on _ c.from_residual.result x c.from_residual.ensures.1) c.in_err-begun.ensures.memory
    (call_is p bound w c.args.turn.now.process call.place call.method call.arguments.items c.deref.result.now call.target call.next c.args.stack.now.top c.args.stack.now.waiting.items f bs c.in-Some.is is c.deref.ensures.value
    ∙ pass_alone (argument_tests bs c.args.turn.now.process (variables_model f.variables) [] c.deref.result.now) _ (none_passes (argument_tests bs c.args.turn.now.process (variables_model f.variables) [] c.deref.result.now) c.first_fault.result c.in_default-first_fault.is c.first_fault.ensures))

pub returns-clause-tells : goal.returns-clause-tells
returns-clause-tells c = λ bound w is.
    let p = model_of c.args.turn.now.program.now in
    let f = c.in-Some.frame in
    let call = c.args.calling.now in
    let bs = blocks_model c.args.blocks.now in
    call_tells _ c.push_frame.result _ w _ c.args.turn.now.process _ bs _ is
    (call_is p bound w c.args.turn.now.process call.place call.method call.arguments.items c.deref.result.now call.target call.next c.args.stack.now.top c.args.stack.now.waiting.items f bs c.in-Some.is is c.deref.ensures.value
    ∙ pass_alone (argument_tests bs c.args.turn.now.process (variables_model f.variables) [] c.deref.result.now) _ (none_passes (argument_tests bs c.args.turn.now.process (variables_model f.variables) [] c.deref.result.now) c.first_fault.result c.in_default-first_fault.is c.first_fault.ensures))
    c.push_frame.ensures.pushed c.push_frame.ensures.memory
    (λ stands. entered_is p w c.args.turn.now.process call.method call.arguments.items c.deref-2.result.now c.deref-3.result.now c.args.stack.now.top c.args.stack.now.waiting.items f c.in_ok-begun.begun _ c.in-Some.is c.deref-2.ensures.value c.deref-3.ensures.value c.in_ok-begun.ensures.entered stands)
