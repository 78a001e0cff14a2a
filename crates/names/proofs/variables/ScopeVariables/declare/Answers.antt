use Rattle.names.proofs.VariableLemmas.{declared_counted}
use Rattle.names.proofs.variables.ScopeVariables.declare.Goals as goal

pub returns : goal.returns
returns c = λ f h. let text = c.args.text.now in
    declared_counted text f c.enter-2.new.self c.args.variable.name c.args.variable.ty c.args.heap _ _ _ c.enter-2.result c.if-not-heap.false (c.in_ok-judge_heap.ensures text f h) (c.enter-2.ensures _ (c.count.ensures text f h))
