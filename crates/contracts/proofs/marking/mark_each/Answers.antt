use Rattle.std.proofs.Common.{◌<◌, take, length, get_or, sym, subst, arith}
use Rattle.std.proofs.lemmas.List.{take_more}
use Rattle.std.proofs.lemmas.List.Elements.{All-contains}
use Rattle.contracts.specs.Marking.{AreMarkSteps}
use Rattle.contracts.proofs.MarkLemmas.{at_in, steps_length, steps_more}
use Rattle.contracts.proofs.marking.mark_each.Goals as goal

pub mark-requires : goal.mark-requires
mark-requires c =
    let vs = c.args.vertices.now in
    let i = c.loop-v.v-index in
    let long = steps_length c.args.marks.now.items c.loop-v.marks.items c.args.work.now.items c.loop-v.work.items (take i vs) c.loop-v.invariant in
    let below = All-contains (λ v. v < length c.args.marks.now.items) vs (get_or vs i 0) c.requires.below (at_in vs i c.loop-v-test.true) in
    record { v = omega (arith, long, below) }

pub loop-v-preserved : goal.loop-v-preserved
loop-v-preserved c =
    let vs = c.args.vertices.now in
    let i = c.loop-v.v-index in
    subst (AreMarkSteps c.args.marks.now.items c.mark.new.marks.items c.args.work.now.items c.mark.new.work.items) (sym (take_more vs i 0 c.loop-v-test.true))
    (steps_more c.args.marks.now.items c.loop-v.marks.items c.mark.new.marks.items c.args.work.now.items c.loop-v.work.items c.mark.new.work.items (take i vs) (get_or vs i 0) c.loop-v.invariant c.in_ok-mark.ensures.step)
