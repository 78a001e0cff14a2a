use Rattle.std.proofs.Common.{List, append-nil, map, sym, subst}
use Rattle.std.proofs.lemmas.List.{take_all}
use Rattle.tree.specs.ExpressionTrees.{expression_tree}
use Rattle.tree.specs.declared.expression.Expression.{Expression}
use Rattle.resolving.specs.Around.{program_in}
use Rattle.resolving.specs.Steps.{AddsReads}
use Rattle.resolving.specs.Plain.{argument_reads}
use Rattle.resolving.proofs.CalleeLemmas.{read_more}
use Rattle.resolving.proofs.calls.add_argument_reads.Goals as goal

pub loop-argument-init : goal.loop-argument-init
loop-argument-init c = λ items own. record { all = λ f frame. sym (append-nil c.args.found.now.items) }

pub loop-argument-preserved : goal.loop-argument-preserved
loop-argument-preserved c = λ items own.
    let text = c.args.text.now in
    read_more (program_in text items) own c.args.arguments.now c.loop-argument.argument-index c.argument-item.result c.args.locals.now c.args.found.now.items c.loop-argument.found.items c.add_reads.new.found.items c.loop-argument-test.true c.argument-item.is
    (c.loop-argument.invariant items own) c.in_ok-add_reads.ensures

pub returns : goal.returns
returns c = λ items own.
    let text = c.args.text.now in
    subst (λ (es : List Expression). AddsReads text c.args.locals.now (λ f. argument_reads (program_in text items) own f (map expression_tree es)) c.args.found.now.items c.loop-argument.found.items)
    (take_all c.loop-argument.argument-index c.args.arguments.now c.loop-argument-test.false) (c.loop-argument.invariant items own)
