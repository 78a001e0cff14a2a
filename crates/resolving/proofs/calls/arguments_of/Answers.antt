use Rattle.std.proofs.Common.{◌∙◌, sym, ap, ◌++◌}
use Rattle.std.specs.Iterator.Adapters.{zip_first, zip_second}
use Rattle.std.specs.Slice.Iter.{iter_rest}
use Rattle.resolving.specs.Around.{program_in}
use Rattle.resolving.specs.Plain.{argument_of}
use Rattle.resolving.proofs.CalleeLemmas.{given_first, given_to_end, given_more, given_all}
use Rattle.resolving.proofs.calls.arguments_of.Goals as goal

pub loop-parameter-init : goal.loop-parameter-init
loop-parameter-init c = λ items own f h.
    let p = program_in c.args.text.now items in
    let zip = c.zip-parameter-items in
    let is = c.into_iter-parameter-iterator.ensures.into_iter_gives in
    given_first p own f c.new-given.result.items c.into_iter-parameter-iterator.result c.args.parameters.now c.args.arguments.now c.new-given.ensures.items
    (ap (λ s. iter_rest (zip_first s)) is ∙ ap iter_rest zip.ensures.first ∙ c.iter.ensures.rest)
    (ap (λ s. iter_rest (zip_second s)) is ∙ zip.ensures.second.0)

pub loop-parameter-preserved : goal.loop-parameter-preserved
loop-parameter-preserved c = λ items own f h.
    let p = program_in c.args.text.now items in
    let before = c.loop-parameter.given.items in
    let after = c.next.new.self in
    let more = given_more p own f before c.loop-parameter.parameter-iterator after c.next.result (c.in-Some.parameter, c.in-Some.argument) c.in-Some.is c.next.ensures.steps in
    ap (λ l. given_to_end p own f l after) (c.in_ok-add_given.ensures ∙ ap (λ m. before ++ argument_of c.in-Some.parameter.now m) (c.alone-mention.ensures items own f h))
    ∙ sym more ∙ c.loop-parameter.invariant items own f h

pub returns : goal.returns
returns c = λ items own f h.
    let p = program_in c.args.text.now items in
    sym (given_all p own f c.loop-parameter.given.items c.loop-parameter.parameter-iterator c.next.new.self c.next.result c.in-None.is c.next.ensures.steps)
    ∙ c.loop-parameter.invariant items own f h
