use Rattle.tree.specs.ExpressionTrees.{expression_tree}
use Rattle.names.proofs.PendingLemmas.{argument_less}
use Rattle.names.proofs.arguments.judge_arguments.Goals as goal

pub loop-index-preserved : goal.loop-index-preserved
loop-index-preserved c = λ p f scope frame.
    argument_less expression_tree (record { program = p; variables = f.variables }) c.args.asked.now c.args.arguments.now c.loop-index.index c.index-arguments-index.result c.type_at-ty.result
    c.loop-index-test.true c.index-arguments-index.is c.type_at-ty.ensures (c.loop-index.invariant p f scope frame) (c.in_ok-judge_argument.ensures p f scope frame)
