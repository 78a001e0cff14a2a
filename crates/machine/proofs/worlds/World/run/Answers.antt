use Rattle.std.proofs.Common.{◌≡◌, List, Ok, ap, ◌∙◌, map, refl, set, subst, sym}
use Rattle.std.specs.Vec.{with_item}
use Rattle.program.specs.declared.statement.Mention.{Mention}
use Rattle.flow.specs.Graphs.{Act, Branch, Forget, New, Return, Stop, Switch, cases_model, instruction_model}
use Rattle.flow.specs.declared.graph.Instr.TheVariants as made
use Rattle.rules.specs.Programs.{model_of}
use Rattle.machine.specs.Answers.{Tells, on_stack}
use Rattle.machine.specs.Views.{blocks_model, stack_model, world_model}
use Rattle.machine.specs.World.{Frame, stack_at}
use Rattle.machine.specs.declared.worlds as worlds
use Rattle.machine.proofs.StepLemmas.{frame_read, frame_same, frame_tells, same_blocks, one_choice, stack_same, stack_tells, tells_at, the_world, with_top}
use Rattle.machine.proofs.worlds.World.run.Goals as goal

pub returns-in-Act-clause-tells : goal.returns-in-Act-clause-tells
returns-in-Act-clause-tells c = λ bound are.
    let p = model_of c.args.turn.now.program.now in
    let q = c.args.turn.now.process in
    let w = world_model c.args.self.now in
    frame_tells c.act.result p bound c.args.self.now.processes.items q c.index_mut-stack.result.now c.in-Some.frame c.act.new.frame
    (instruction_model c.args.instr.now) (Act c.in-Act.action c.in-Act.next) c.args.choice w.blocks (blocks_model c.act.new.heap.blocks.items) c.requires.there c.index_mut-stack.ensures.value c.in-Some.is
    (ap instruction_model c.in-Act.is)
    (λ rest. c.act.ensures.tells bound c.args.choice w rest refl)

pub returns-in-Act-clause-same : goal.returns-in-Act-clause-same
returns-in-Act-clause-same c =
    let bs = blocks_model c.args.self.now.heap.blocks.items in
    frame_same c.act.result c.args.self.now.processes.items c.args.turn.now.process c.index_mut-stack.result.now c.in-Some.frame
    c.act.new.frame bs (blocks_model c.act.new.heap.blocks.items) c.index_mut-stack.ensures.value c.in-Some.is c.act.ensures.same (c.act.ensures.same_blocks)

pub returns-in-New-clause-tells : goal.returns-in-New-clause-tells
returns-in-New-clause-tells c = λ bound are.
    let p = model_of c.args.turn.now.program.now in
    let q = c.args.turn.now.process in
    let w = world_model c.args.self.now in
    frame_tells c.new.result p bound c.args.self.now.processes.items q c.index_mut-stack.result.now c.in-Some.frame c.new.new.frame
    (instruction_model c.args.instr.now) (New c.in-New.target c.deref.result.now c.in-New.next) c.args.choice w.blocks (blocks_model c.new.new.heap.blocks.items) c.requires.there c.index_mut-stack.ensures.value c.in-Some.is
    (ap instruction_model c.in-New.is ∙ ap (λ (l : List Mention). New c.in-New.target l c.in-New.next) (sym c.deref.ensures.value))
    (λ rest. c.new.ensures.tells bound w rest refl)

pub returns-in-New-clause-same : goal.returns-in-New-clause-same
returns-in-New-clause-same c =
    let bs = blocks_model c.args.self.now.heap.blocks.items in
    frame_same c.new.result c.args.self.now.processes.items c.args.turn.now.process c.index_mut-stack.result.now c.in-Some.frame
    c.new.new.frame bs (blocks_model c.new.new.heap.blocks.items) c.index_mut-stack.ensures.value c.in-Some.is c.new.ensures.same (c.new.ensures.same_blocks)

pub returns-in-Send-clause-tells : goal.returns-in-Send-clause-tells
returns-in-Send-clause-tells c = λ bound are.
    let p = model_of c.args.turn.now.program.now in
    let q = c.args.turn.now.process in
    let w = world_model c.args.self.now in
    frame_tells c.send.result p bound c.args.self.now.processes.items q c.index_mut-stack.result.now c.in-Some.frame c.send.new.frame
    (instruction_model c.args.instr.now) (instruction_model (made.Send c.in-Send.sending)) c.args.choice w.blocks (blocks_model c.send.new.heap.blocks.items) c.requires.there c.index_mut-stack.ensures.value c.in-Some.is
    (ap instruction_model c.in-Send.is)
    (λ rest. c.send.ensures.tells bound are w rest refl)

pub returns-in-Send-clause-same : goal.returns-in-Send-clause-same
returns-in-Send-clause-same c =
    let bs = blocks_model c.args.self.now.heap.blocks.items in
    frame_same c.send.result c.args.self.now.processes.items c.args.turn.now.process c.index_mut-stack.result.now c.in-Some.frame
    c.send.new.frame bs (blocks_model c.send.new.heap.blocks.items) c.index_mut-stack.ensures.value c.in-Some.is c.send.ensures.same (c.send.ensures.same_blocks)

pub returns-in-Switch-clause-tells : goal.returns-in-Switch-clause-tells
returns-in-Switch-clause-tells c = λ bound are.
    let p = model_of c.args.turn.now.program.now in
    let q = c.args.turn.now.process in
    let w = world_model c.args.self.now in
    frame_tells c.switch.result p bound c.args.self.now.processes.items q c.index_mut-stack.result.now c.in-Some.frame c.switch.new.frame
    (instruction_model c.args.instr.now) (Switch c.in-Switch.place (cases_model c.in-Switch.cases)) c.args.choice w.blocks (blocks_model c.switch.new.heap.blocks.items) c.requires.there c.index_mut-stack.ensures.value c.in-Some.is
    (ap instruction_model c.in-Switch.is)
    (λ rest. c.switch.ensures.tells bound c.in-Switch.place w rest refl)

pub returns-in-Switch-clause-same : goal.returns-in-Switch-clause-same
returns-in-Switch-clause-same c =
    let bs = blocks_model c.args.self.now.heap.blocks.items in
    frame_same c.switch.result c.args.self.now.processes.items c.args.turn.now.process c.index_mut-stack.result.now c.in-Some.frame
    c.switch.new.frame bs (blocks_model c.switch.new.heap.blocks.items) c.index_mut-stack.ensures.value c.in-Some.is c.switch.ensures.same (c.switch.ensures.same_blocks)

pub returns-in-Branch-clause-tells : goal.returns-in-Branch-clause-tells
returns-in-Branch-clause-tells c = λ bound are.
    let p = model_of c.args.turn.now.program.now in
    let q = c.args.turn.now.process in
    let w = world_model c.args.self.now in
    frame_tells (Ok c.branch-frame.result) p bound c.args.self.now.processes.items q c.index_mut-stack.result.now c.in-Some.frame c.branch-frame.new.frame
    (instruction_model c.args.instr.now) (Branch c.in-Branch.place c.in-Branch.branches) c.args.choice w.blocks (w.blocks) c.requires.there c.index_mut-stack.ensures.value c.in-Some.is
    (ap instruction_model c.in-Branch.is)
    (λ rest. c.branch-frame.ensures p bound w rest q c.in-Branch.place)

pub returns-in-Forget-clause-tells : goal.returns-in-Forget-clause-tells
returns-in-Forget-clause-tells c = λ bound are.
    let p = model_of c.args.turn.now.program.now in
    let q = c.args.turn.now.process in
    let w = world_model c.args.self.now in
    frame_tells (Ok c.forget_.result) p bound c.args.self.now.processes.items q c.index_mut-stack.result.now c.in-Some.frame c.forget_.new.frame
    (instruction_model c.args.instr.now) (Forget c.in-Forget.forget c.in-Forget.next) c.args.choice w.blocks (w.blocks) c.requires.there c.index_mut-stack.ensures.value c.in-Some.is
    (ap instruction_model c.in-Forget.is)
    (λ rest. c.forget_.ensures bound w rest q)

pub returns-in-Call-clause-tells : goal.returns-in-Call-clause-tells
returns-in-Call-clause-tells c = λ bound are.
    let p = model_of c.args.turn.now.program.now in
    let q = c.args.turn.now.process in
    let w = world_model c.args.self.now in
    stack_tells c.call.result p bound c.args.self.now.processes.items q c.index_mut-stack.result.now c.call.new.stack c.in-Some.frame
    (instruction_model c.args.instr.now) (instruction_model (made.Call c.in-Call.calling)) c.args.choice w.blocks w.blocks c.requires.there c.index_mut-stack.ensures.value c.in-Some.is
    (ap instruction_model c.in-Call.is)
    (tells_at c.call.result _ w q (stack_model c.call.new.stack) (blocks_model c.blocks-in-Call.result.now) w.blocks (ap blocks_model c.blocks-in-Call.ensures)
    (c.call.ensures.tells bound w (ap blocks_model (sym c.blocks-in-Call.ensures))))

pub returns-in-Call-clause-same : goal.returns-in-Call-clause-same
returns-in-Call-clause-same c =
    let bs = blocks_model c.args.self.now.heap.blocks.items in
    stack_same c.call.result c.args.self.now.processes.items c.args.turn.now.process c.index_mut-stack.result.now c.call.new.stack c.in-Some.frame bs bs
    c.index_mut-stack.ensures.value c.in-Some.is c.call.ensures.same (same_blocks c.call.result bs)

pub returns-in-Start-clause-tells : goal.returns-in-Start-clause-tells
returns-in-Start-clause-tells c = λ bound are.
    let p = model_of c.args.turn.now.program.now in
    let q = c.args.turn.now.process in
    let ps = c.args.self.now.processes.items in
    let bs = blocks_model c.args.self.now.heap.blocks.items in
    let s = c.index_mut-stack.result.now in
    let read : List (List Frame) = map stack_model (set ps q (with_top s c.in-Some.frame)) in
    let started = c.in-Start.starting-1-own.given.0.0 in
    let is : c.args.instr.now ≡ made.Start started = c.in-Start.starting-1-own.given.1 in
    let lent : worlds.World.World = record { processes = with_item c.args.self.now.processes q (with_top s c.in-Some.frame); heap = c.args.self.now.heap } in
    let chosen = subst (λ o. Tells c.start.result o (world_model c.start.new.world)) (sym (one_choice p bound (world_model lent) q
    (instruction_model c.args.instr.now) (instruction_model (made.Start started)) c.args.choice (stack_at read q) (ap instruction_model is) (λ f rest. refl)))
    (c.start.ensures.tells bound) in
    subst (λ (xs : List (List Frame)). Tells c.start.result
    (on_stack p bound (the_world xs bs) q (instruction_model c.args.instr.now) c.args.choice (stack_at xs q)) (world_model c.start.new.world))
    (frame_read ps q s c.in-Some.frame c.index_mut-stack.ensures.value c.in-Some.is) chosen

pub returns-in-Return-clause-tells : goal.returns-in-Return-clause-tells
returns-in-Return-clause-tells c = λ bound are.
    let p = model_of c.args.turn.now.program.now in
    let q = c.args.turn.now.process in
    let w = world_model c.args.self.now in
    stack_tells c.return_.result p bound c.args.self.now.processes.items q c.index_mut-stack.result.now c.return_.new.stack c.in-Some.frame
    (instruction_model c.args.instr.now) (Return c.in-Return.returning.place c.in-Return.returning.value c.in-Return.returning.scope) c.args.choice w.blocks w.blocks c.requires.there c.index_mut-stack.ensures.value c.in-Some.is
    (ap instruction_model c.in-Return.is)
    (c.return_.ensures.tells bound c.in-Return.returning.place c.in-Return.returning.scope w refl)

pub returns-in-Return-clause-same : goal.returns-in-Return-clause-same
returns-in-Return-clause-same c =
    let bs = blocks_model c.args.self.now.heap.blocks.items in
    stack_same c.return_.result c.args.self.now.processes.items c.args.turn.now.process c.index_mut-stack.result.now c.return_.new.stack c.in-Some.frame bs bs
    c.index_mut-stack.ensures.value c.in-Some.is c.return_.ensures.same (same_blocks c.return_.result bs)

pub returns-in-Stop-clause-tells : goal.returns-in-Stop-clause-tells
returns-in-Stop-clause-tells c = λ bound are.
    let p = model_of c.args.turn.now.program.now in
    let q = c.args.turn.now.process in
    let w = world_model c.args.self.now in
    stack_tells c.end.result p bound c.args.self.now.processes.items q c.index_mut-stack.result.now c.end.new.stack c.in-Some.frame
    (instruction_model c.args.instr.now) (Stop c.in-Stop.place) c.args.choice w.blocks w.blocks c.requires.there c.index_mut-stack.ensures.value c.in-Some.is
    (ap instruction_model c.in-Stop.is)
    (c.end.ensures.tells bound w refl)

pub returns-in-Stop-clause-same : goal.returns-in-Stop-clause-same
returns-in-Stop-clause-same c =
    let bs = blocks_model c.args.self.now.heap.blocks.items in
    stack_same c.end.result c.args.self.now.processes.items c.args.turn.now.process c.index_mut-stack.result.now c.end.new.stack c.in-Some.frame bs bs
    c.index_mut-stack.ensures.value c.in-Some.is c.end.ensures.same (same_blocks c.end.result bs)
