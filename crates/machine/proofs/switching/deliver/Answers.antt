use Rattle.std.proofs.Common.{◌≡◌, [], Some, sym, ap, ◌∙◌, subst}
use Rattle.std.specs.Option.{option_map}
use Rattle.flow.specs.Cases.{case_for, entrance_model}
use Rattle.flow.specs.Graphs.{cases_model}
use Rattle.rules.specs.Programs.{model_of}
use Rattle.machine.specs.Answers.{Tells, front_of, on_top, with_variables}
use Rattle.machine.specs.Machine.{receives, receives_at}
use Rattle.machine.specs.Views.{blocks_model, frame_model}
use Rattle.machine.specs.World.{block_at}
use Rattle.machine.proofs.SwitchLemmas.{front_there, no_front, some_there}
use Rattle.machine.proofs.switching.deliver.Goals as goal

pub returns-in_default-clause-tells : goal.returns-in_default-clause-tells
returns-in_default-clause-tells c = λ bound w rest is.
    let p = model_of c.args.program.now in
    let bs = blocks_model c.args.heap.now.blocks.items in
    let at = c.args.listener.at in
    let q = (block_at bs at).queue in
    let empty : q ≡ [] = no_front q (ap (λ l. front_of (block_at (blocks_model l) at).queue) (sym c.blocks-2.ensures) ∙ (sym c.front.ensures ∙ ap (option_map (λ m. m.0)) c.in_default.is)) in
    subst (λ x. Tells c.close.result (receives p bound w c.args.process (frame_model c.args.frame.now) rest (cases_model c.args.cases.now) c.args.listener.variable.0 at x) (on_top w.processes c.args.process rest (frame_model c.close.new.frame) bs)) (sym empty)
    (subst (λ l. Tells c.close.result (receives p bound w c.args.process (frame_model c.args.frame.now) rest (cases_model c.args.cases.now) c.args.listener.variable.0 at []) (on_top w.processes c.args.process rest (frame_model c.close.new.frame) (blocks_model l))) c.blocks-in_default.ensures
    (c.close.ensures.tells p bound w c.args.process rest (is ∙ ap blocks_model (sym c.blocks-in_default.ensures))))

pub returns-clause-tells : goal.returns-clause-tells
returns-clause-tells c = λ bound w rest is.
    let p = model_of c.args.program.now in
    let bs = blocks_model c.args.heap.now.blocks.items in
    let at = c.args.listener.at in
    let q = (block_at bs at).queue in
    let cs = cases_model c.args.cases.now in
    let f = frame_model c.args.frame.now in
    let v = c.args.listener.variable.0 in
    let there = front_there q c.in-Some.message.0 (ap (λ l. front_of (block_at (blocks_model l) at).queue) (sym c.blocks-2.ensures) ∙ sym c.in-Some.ensures) in
    let m = there.0 in
    let ms = there.1 in
    ap (receives p bound w c.args.process f rest cs v at) there.2
    ∙ (ap (λ k. receives_at p bound w c.args.process f rest k at m ms) (ap (λ n. case_for cs v (Some n)) (sym there.3) ∙ sym c.in-Some-find.ensures)
    ∙ (ap (λ vs. receives_at p bound w c.args.process (with_variables f vs) rest (Some (entrance_model c.in-Some-find.case.now)) at m ms) (sym c.list_bound.ensures.same)
    ∙ c.receive_at.ensures bound w rest m ms is there.2 there.3))

pub receive_at-requires-clause-some : goal.receive_at-requires-clause-some
receive_at-requires-clause-some c =
    let at = c.args.listener.at in
    some_there (block_at (blocks_model c.args.heap.now.blocks.items) at).queue c.in-Some.message.0 (ap (λ l. front_of (block_at (blocks_model l) at).queue) (sym c.blocks-2.ensures) ∙ sym c.in-Some.ensures)
