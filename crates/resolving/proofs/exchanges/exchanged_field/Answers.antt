use Rattle.std.proofs.Common.{ap, ◌∙◌}
use Rattle.std.specs.Prelude.{option_and_then}
use Rattle.resolving.specs.Around.{program_in}
use Rattle.resolving.specs.Fields.{field_number}
use Rattle.resolving.specs.Locals.{local_named}
use Rattle.resolving.proofs.FieldLemmas.{of_type}
use Rattle.resolving.proofs.exchanges.exchanged_field.Goals as goal

pub returns : goal.returns
returns c = λ items own f around frame.
    let p = program_in c.args.text.now items in
    let e = c.args.exchange in
    c.field_number.ensures p own around
    ∙ ap (option_and_then (λ ty. field_number p ty e.field)) (c.in_ok-ty.ensures f frame)
    ∙ of_type p e.field (local_named p.text f.locals e.holder)
