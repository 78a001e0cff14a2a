use Rattle.std.proofs.Common.{List, ◌++◌, map, ap, ◌∙◌}
use Rattle.tree.specs.ExpressionTrees.{expression_tree}
use Rattle.tree.specs.declared.class.Parameter.{Parameter}
use Rattle.tree.specs.declared.expression.Expression.{Expression}
use Rattle.source.specs.declared.token.Span.{Span}
use Rattle.resolving.specs.Around.{program_in}
use Rattle.resolving.specs.Callees.{called_name}
use Rattle.resolving.specs.Plain.{argument_reads, arguments}
use Rattle.resolving.proofs.CalleeLemmas.{same_call}
use Rattle.resolving.proofs.calls.call_of.Goals as goal

pub returns : goal.returns
returns c = λ items own f h.
    let p = program_in c.args.text.now items in
    let call = c.args.call.now in
    let params = c.args.callee.method.now.params.items in
    let reads =
    (c.in_ok-add_argument_reads.ensures items own).all f h
    ∙ ap (λ l. l ++ argument_reads p own f (map expression_tree c.deref.result.now)) c.new-reads.ensures.items
    ∙ ap (λ (es : List Expression). argument_reads p own f (map expression_tree es)) c.deref.ensures.value in
    let given =
    c.in_ok-arguments.ensures items own f h
    ∙ ap (λ (xs : List Parameter). arguments p own f xs (map expression_tree c.deref-3.result.now)) c.deref-2.ensures.value
    ∙ ap (λ (es : List Expression). arguments p own f params (map expression_tree es)) c.deref-3.ensures.value in
    same_call c.args.callee.id c.args.after.target c.args.after.behind.items c.add_argument_reads.new.found.items (argument_reads p own f (map expression_tree call.arguments.items)) c.called_name.result.place (called_name call.name call.member).place
    c.in_ok-arguments.arguments.items (arguments p own f params (map expression_tree call.arguments.items)) reads (ap (λ (s : Span). s.place) c.called_name.ensures) given
