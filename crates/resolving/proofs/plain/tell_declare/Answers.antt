use Rattle.std.proofs.Common.{Option, sym, ap, ◌∙◌, option_map}
use Rattle.tree.specs.Values.{value_tree}
use Rattle.tree.specs.declared.value.Value.{Value}
use Rattle.resolving.specs.Around.{program_in}
use Rattle.resolving.specs.Types.{type_held}
use Rattle.resolving.specs.Locals.{next_number}
use Rattle.resolving.specs.Plain.{assign_statement, first_value}
use Rattle.resolving.proofs.PlainLemmas.{told_as, first_assigned}
use Rattle.resolving.proofs.plain.tell_declare.Goals as goal

pub returns-in-Some : goal.returns-in-Some
returns-in-Some c = λ items own around.
    let p = program_in c.args.text.now items in
    let d = c.args.declare.now in
    let value = value_tree c.in-Some.value in
    told_as c.args.text.now c.args.locals.now c.tell_assigned.result (λ f. assign_statement p own f c.declared_mention-target.result value) (λ f. first_value p own f d.name (next_number (type_held p d.ty) f) (option_map value_tree d.value))
    (λ f frame. ap (λ t. assign_statement p own f t value) (c.declared_mention-target.ensures items own f around frame) ∙ first_assigned p own f d.name (next_number (type_held p d.ty) f) value
    ∙ ap (λ (o : Option Value). first_value p own f d.name (next_number (type_held p d.ty) f) (option_map value_tree o)) (sym c.in-Some.is))
    (c.tell_assigned.ensures items own around)
