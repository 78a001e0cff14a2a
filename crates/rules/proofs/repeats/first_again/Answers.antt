use Rattle.rules.proofs.ArgumentLemmas.{looked_first, looked_again, looked_more, looked_all}
use Rattle.rules.proofs.repeats.first_again.Goals as goal

pub loop-argument-init : goal.loop-argument-init
loop-argument-init c = looked_first c.new-earlier.result c.args.arguments.now c.new-earlier.ensures.empty

pub returns-then-not-branch : goal.returns-then-not-branch
returns-then-not-branch c =
    looked_again c.loop-argument.earlier c.args.arguments.now c.loop-argument.argument-index _ _ c.loop-argument-test.true c.if-not-branch.true c.in_ok-insert.ensures.added c.loop-argument.invariant

pub loop-argument-preserved : goal.loop-argument-preserved
loop-argument-preserved c =
    looked_more c.loop-argument.earlier c.insert.new.self c.args.arguments.now c.loop-argument.argument-index _ _ c.loop-argument-test.true c.if-not-branch.false c.in_ok-insert.ensures.added c.in_ok-insert.ensures.updates c.loop-argument.invariant

pub returns : goal.returns
returns c = looked_all c.loop-argument.earlier c.args.arguments.now c.loop-argument.argument-index c.loop-argument-test.false c.loop-argument.invariant
