use Rattle.std.proofs.Common.{List, subst, sym}
use Rattle.program.specs.declared.statement.Action.TheVariants as does
use Rattle.flow.specs.Graphs.{Act}
use Rattle.rules.specs.Programs.{model_of}
use Rattle.machine.specs.Answers.{TellsFrame}
use Rattle.machine.specs.Views.{blocks_model, frame_model, heap_model}
use Rattle.machine.specs.declared.worlds.Block.{Block}
use Rattle.machine.proofs.acting.act.Goals as goal

pub returns-in-Use-clause-tells : goal.returns-in-Use-clause-tells
returns-in-Use-clause-tells c = λ bound choice.
    let p = model_of c.args.turn.now.program.now in
    let q = c.args.turn.now.process in
    subst (λ a. TellsFrame p bound q (Act a c.args.next) choice c.use_.result (frame_model c.args.frame.now, heap_model c.args.heap.now) (frame_model c.use_.new.frame, heap_model c.args.heap.now)) (sym c.in-Use.is)
    (subst (λ (items : List Block). TellsFrame p bound q (Act (does.Use c.in-Use.at) c.args.next) 0 c.use_.result (frame_model c.args.frame.now, blocks_model items) (frame_model c.use_.new.frame, blocks_model items))
    c.blocks-in-Use.ensures (c.use_.ensures.tells p bound))

pub returns-in-Move-clause-tells : goal.returns-in-Move-clause-tells
returns-in-Move-clause-tells c = λ bound choice.
    let p = model_of c.args.turn.now.program.now in
    let q = c.args.turn.now.process in
    subst (λ a. TellsFrame p bound q (Act a c.args.next) choice c.move_.result (frame_model c.args.frame.now, heap_model c.args.heap.now) (frame_model c.move_.new.frame, heap_model c.args.heap.now)) (sym c.in-Move.is)
    (subst (λ (items : List Block). TellsFrame p bound q (Act (does.Move c.in-Move.target c.in-Move.source) c.args.next) 0 c.move_.result (frame_model c.args.frame.now, blocks_model items) (frame_model c.move_.new.frame, blocks_model items))
    c.blocks-in-Move.ensures (c.move_.ensures.tells p bound))

pub returns-in-Delete-clause-tells : goal.returns-in-Delete-clause-tells
returns-in-Delete-clause-tells c = λ bound choice.
    let p = model_of c.args.turn.now.program.now in
    subst (λ a. TellsFrame p bound c.args.turn.now.process (Act a c.args.next) choice c.delete.result (frame_model c.args.frame.now, heap_model c.args.heap.now) (frame_model c.delete.new.frame, heap_model c.delete.new.heap)) (sym c.in-Delete.is)
    (c.delete.ensures.tells p bound)

pub returns-in-Exchange-clause-tells : goal.returns-in-Exchange-clause-tells
returns-in-Exchange-clause-tells c = λ bound choice.
    let p = model_of c.args.turn.now.program.now in
    subst (λ a. TellsFrame p bound c.args.turn.now.process (Act a c.args.next) choice c.exchange.result (frame_model c.args.frame.now, heap_model c.args.heap.now) (frame_model c.exchange.new.frame, heap_model c.exchange.new.heap)) (sym c.in-Exchange.is)
    (c.exchange.ensures.tells p bound)

pub returns-in-NewChannel-clause-tells : goal.returns-in-NewChannel-clause-tells
returns-in-NewChannel-clause-tells c = λ bound choice.
    let p = model_of c.args.turn.now.program.now in
    subst (λ a. TellsFrame p bound c.args.turn.now.process (Act a c.args.next) choice c.new_channel.result (frame_model c.args.frame.now, heap_model c.args.heap.now) (frame_model c.new_channel.new.frame, heap_model c.new_channel.new.heap)) (sym c.in-NewChannel.is)
    (c.new_channel.ensures.tells bound)
