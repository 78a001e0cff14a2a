use Rattle.std.proofs.Common.{Some, ◌++◌, ◌∙◌, subst, sym}
use Rattle.std.specs.Prelude.{IfOk, option_map}
use Rattle.tree.specs.ExpressionTrees.{expression_tree}
use Rattle.resolving.specs.Around.{program_in}
use Rattle.resolving.specs.Steps.{TellsStatement}
use Rattle.program.specs.Statements as seen
use Rattle.resolving.specs.Plain.{return_statement}
use Rattle.resolving.specs.Reads.{reads}
use Rattle.program.specs.declared.statement.Effect.TheVariants.{Return}
use Rattle.resolving.proofs.PlainLemmas.{returned_told}
use Rattle.resolving.proofs.plain.tell_return.Goals as goal

pub returns-in-Some : goal.returns-in-Some
returns-in-Some c = λ items own.
    let p = program_in c.args.text.now items in
    let locals = c.args.locals.now in
    subst (λ o. IfOk c.tell_read.result (TellsStatement p.text locals (λ f. return_statement p own f c.args.place (option_map (λ e. expression_tree e.value) o)))) (sym c.in-Some.is)
    (subst (λ e. IfOk c.tell_read.result (TellsStatement p.text locals (λ f. return_statement p own f c.args.place (Some (expression_tree e))))) c.deref.ensures (returned_told p own locals c.args.place (expression_tree c.deref.result.now) c.alone-value.result c.last-scope.result c.new.result.items c.tell_read.result c.new.ensures.items (c.alone-value.ensures items own) (c.last-scope.ensures p.text) (subst (λ e. IfOk c.tell_read.result (TellsStatement p.text locals (λ f. seen.Simple (c.new.result.items ++ reads p.text f.locals (expression_tree e)) (Return c.args.place c.alone-value.result c.last-scope.result)))) (c.deref-in-Some.ensures ∙ sym c.deref.ensures) c.tell_read.ensures)))
