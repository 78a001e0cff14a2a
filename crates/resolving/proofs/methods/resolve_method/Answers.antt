use Rattle.std.proofs.Common.{map, refl, subst, ap, ◌∙◌}
use Rattle.tree.specs.StatementTrees.{statement_tree, statement_sequence}
use Rattle.program.specs.Statements as seen
use Rattle.program.specs.Statements.{statement_model}
use Rattle.resolving.specs.Around.{program_in}
use Rattle.resolving.specs.Frames.{IsLocalFrame}
use Rattle.resolving.specs.Methods.{no_variables, parameters_frame, takes_some}
use Rattle.resolving.specs.Steps.{IsResolvedPiece}
use Rattle.resolving.specs.Told.{statements_told}
use Rattle.resolving.specs.Staying.{stays_here}
use Rattle.resolving.proofs.BlockLemmas.{number_is}
use Rattle.resolving.proofs.TellLemmas.{method_is}
use Rattle.resolving.proofs.methods.resolve_method.Goals as goal

pub returns : goal.returns
returns c = λ items own round.
    let text = c.args.text.now in
    let p = program_in text items in
    let method = c.args.method.now in
    let before = c.declare_parameters.new.locals in
    let after = c.tell_statements.new.locals in
    let statements = seen.statement_sequence (map statement_model c.in_ok-statements.statements.items) in
    let params = subst (λ l. IsLocalFrame text (parameters_frame p l no_variables) before) c.deref.ensures.value (c.in_ok-declare_parameters.ensures items own no_variables round (c.new-locals.ensures text)) in
    let start = parameters_frame p method.params.items no_variables in
    let body = subst (λ l. IsResolvedPiece text (statements_told p own (stays_here start) (statement_sequence (map statement_tree l)) start) statements after) c.deref-2.ensures.value
    (subst (λ s. IsResolvedPiece text (statements_told p own s (statement_sequence (map statement_tree c.deref-2.result.now)) start) statements after) (c.here-stays.ensures start (number_is c.last.result start.last (c.last.ensures text start params))) (c.in_ok-statements.ensures items own start round params)) in
    method_is p own method (record { name = method.name.place; takes = c.takes_some.result; gives = c.is_some.result; result = c.result_held.result; variables = c.into_variables.result; statements = c.in_ok-statements.statements; scope = c.last-scope.result; close = method.body.close.place }) after refl (c.takes_some.ensures ∙ ap takes_some c.deref-3.ensures.value) c.is_some.ensures (c.result_held.ensures p round.directory) refl body c.into_variables.ensures c.last-scope.ensures
