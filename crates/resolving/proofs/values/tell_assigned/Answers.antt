use Rattle.std.proofs.Common.{Option, sym, ap}
use Rattle.tree.specs.Values.{value_tree}
use Rattle.resolving.specs.Around.{program_in}
use Rattle.resolving.specs.Plain.{take_statement, scalar_taken, assign_statement}
use Rattle.resolving.proofs.PlainLemmas.{told_as}
use Rattle.program.specs.declared.statement.Mention.{Mention}
use Rattle.resolving.proofs.values.tell_assigned.Goals as goal

pub returns-in-Some : goal.returns-in-Some
returns-in-Some c = λ items own around.
    let p = program_in c.args.text.now items in
    let text = c.args.text.now in
    let locals = c.args.locals.now in
    let value = c.args.value.now in
    told_as text locals c.tell_taken.result (λ f. take_statement p own f c.in-Some.target (value_tree value)) (λ f. assign_statement p own f c.args.target (value_tree value))
    (λ f frame. ap (λ (t : Option Mention). assign_statement p own f t (value_tree value)) (sym c.in-Some.is)) (c.tell_taken.ensures items own around)

pub returns-in-None : goal.returns-in-None
returns-in-None c = λ items own around.
    let p = program_in c.args.text.now items in
    let text = c.args.text.now in
    let locals = c.args.locals.now in
    let value = c.args.value.now in
    told_as text locals c.tell_scalar.result (λ f. scalar_taken p own f (value_tree value)) (λ f. assign_statement p own f c.args.target (value_tree value))
    (λ f frame. ap (λ (t : Option Mention). assign_statement p own f t (value_tree value)) (sym c.in-None.is)) (c.tell_scalar.ensures items own around)
