use Rattle.std.proofs.Common.{sym, ap, ◌∙◌, ◌++◌, [], None}
use Rattle.tree.specs.Values as values
use Rattle.tree.specs.Values.{call_tree, value_tree, made_tree, new_tree}
use Rattle.tree.specs.declared.value.Value.{Value}
use Rattle.program.specs.declared.statement.Effect.TheVariants.{Nothing}
use Rattle.resolving.specs.Around.{program_in}
use Rattle.program.specs.Statements as seen
use Rattle.resolving.specs.Plain.{call_statement, made_reads, scalar_taken}
use Rattle.resolving.proofs.PlainLemmas.{told_as}
use Rattle.resolving.proofs.values.tell_scalar.Goals as goal

pub returns-in-Call : goal.returns-in-Call
returns-in-Call c = λ items own around.
    let p = program_in c.args.text.now items in
    let text = c.args.text.now in
    let locals = c.args.locals.now in
    let value = c.args.value.now in
    told_as text locals c.tell_call.result (λ f. call_statement p own f (call_tree c.deref.result.now) None c.new-before.result.items) (λ f. scalar_taken p own f (value_tree value))
    (λ f frame. ap (call_statement p own f (call_tree c.deref.result.now) None) c.new-before.ensures.items ∙ ap (λ x. call_statement p own f (call_tree x) None []) c.deref.ensures ∙ ap (λ (v : Value). scalar_taken p own f (value_tree v)) (sym c.in-Call.is))
    (c.tell_call.ensures items own around)

pub returns-in-New : goal.returns-in-New
returns-in-New c = λ items own around.
    let p = program_in c.args.text.now items in
    let text = c.args.text.now in
    let locals = c.args.locals.now in
    let value = c.args.value.now in
    let made = made_tree c.deref-in-New.result.now.made in
    told_as text locals c.tell_made.result (λ f. seen.Simple (c.new-before.result.items ++ made_reads p own f made) Nothing) (λ f. scalar_taken p own f (value_tree value))
    (λ f frame. ap (λ l. seen.Simple (l ++ made_reads p own f made) Nothing) c.new-before.ensures.items ∙ ap (λ x. scalar_taken p own f (values.New (new_tree x))) c.deref-in-New.ensures ∙ ap (λ (v : Value). scalar_taken p own f (value_tree v)) (sym c.in-New.is))
    (c.tell_made.ensures items own)
