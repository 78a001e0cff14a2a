use Rattle.std.proofs.Common.{List, ◌++◌, map, ap, ◌∙◌}
use Rattle.tree.specs.ExpressionTrees.{expression_tree}
use Rattle.tree.specs.declared.expression.Expression.{Expression}
use Rattle.resolving.specs.Around.{program_in}
use Rattle.resolving.specs.Plain.{argument_reads, payloads}
use Rattle.resolving.proofs.SendLemmas.{same_send}
use Rattle.resolving.proofs.sends.send_of.Goals as goal

pub returns : goal.returns
returns c = λ items own f frame.
    let p = program_in c.args.text.now items in
    let arguments = map expression_tree c.args.call.now.arguments.items in
    let reads =
    (c.in_ok-add_argument_reads.ensures items own).all f frame
    ∙ ap (λ l. l ++ argument_reads p own f (map expression_tree c.deref.result.now)) c.new-reads.ensures.items
    ∙ ap (λ (es : List Expression). argument_reads p own f (map expression_tree es)) c.deref.ensures.value in
    let given =
    c.in_ok-payloads_of.ensures items own f frame
    ∙ ap (λ (es : List Expression). payloads p own f (map expression_tree es)) c.deref-2.ensures.value in
    same_send c.args.sending.word.place c.args.sending.endpoint c.args.sending.meant.id c.add_argument_reads.new.found.items (argument_reads p own f arguments) c.in_ok-payloads_of.field-0.items (payloads p own f arguments) reads given
