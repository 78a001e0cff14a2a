use Rattle.std.proofs.Common.{List, ◌++◌, map, take, sym, ap, ◌∙◌}
use Rattle.std.proofs.lemmas.List.{take_all}
use Rattle.tree.specs.ExpressionTrees.{expression_tree}
use Rattle.tree.specs.declared.expression.Expression.{Expression}
use Rattle.resolving.specs.Around.{program_in}
use Rattle.resolving.specs.Reads.{mention_list}
use Rattle.resolving.specs.Plain.{payloads}
use Rattle.resolving.proofs.SendLemmas.{payloads_more}
use Rattle.resolving.proofs.given.payloads_of.Goals as goal

pub loop-argument-init : goal.loop-argument-init
loop-argument-init c = λ items own f frame. c.new-payloads.ensures.items

pub loop-argument-preserved : goal.loop-argument-preserved
loop-argument-preserved c = λ items own f frame.
    let p = program_in c.args.text.now items in
    let e = c.argument-item.result in
    c.in_ok-add_listed.ensures
    ∙ ap (λ l. l ++ mention_list c.alone-mention.result) (c.loop-argument.invariant items own f frame)
    ∙ ap (λ m. payloads p own f (map expression_tree (take c.loop-argument.argument-index c.args.arguments.now)) ++ mention_list m) (c.alone-mention.ensures items own f frame)
    ∙ sym (payloads_more p own f c.args.arguments.now c.loop-argument.argument-index e c.loop-argument-test.true c.argument-item.is)

pub returns : goal.returns
returns c = λ items own f frame.
    let p = program_in c.args.text.now items in
    c.loop-argument.invariant items own f frame
    ∙ ap (λ (es : List Expression). payloads p own f (map expression_tree es)) (take_all c.loop-argument.argument-index c.args.arguments.now c.loop-argument-test.false)
