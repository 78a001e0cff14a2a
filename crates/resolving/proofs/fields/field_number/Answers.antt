use Rattle.std.proofs.Common.{Some, ap, refl, sym, ◌∙◌}
use Rattle.std.specs.Prelude.{slice_get}
use Rattle.std.proofs.lemmas.Option.{slice_get_read}
use Rattle.declarations.specs.declared.value_type.ValueType.{ValueType}
use Rattle.resolving.specs.Fields.{field_number}
use Rattle.resolving.proofs.FieldLemmas.{before_index, number_at, owning_found}
use Rattle.resolving.proofs.fields.field_number.Goals as goal

pub returns : goal.returns
returns c = λ p own h.
    let item = c.in-Pointer.item in
    let at = c.in_ok-owning.ensures.lookup in
    let owning = c.args.around.now.owning.now in
    let sequence = slice_get_read owning _ item c.in_ok-owning.owning.now refl at.3.0 at.1 in
    ap Some (c.count_before.ensures ∙ ap (before_index c.in_ok-index.index) c.deref.ensures.value)
    ∙ number_at p item c.args.field c.in_ok-index.index c.in_ok-owning.owning.now.items (slice_get p.items item) (owning_found p owning item c.in_ok-owning.owning.now h.owning sequence) (c.in_ok-index.ensures p h.directory.scope)
    ∙ ap (λ (k : ValueType). field_number p k c.args.field) (sym c.in-Pointer.is)
