use Rattle.std.proofs.Common.{refl, sym, ap, ◌∙◌}
use Rattle.std.specs.List.{flat_map}
use Rattle.tree.specs.Symbols.{by_kind}
use Rattle.syntax.proofs.pieces.Exits.{exits}
use Rattle.syntax.proofs.pieces.Beginnings.{splits_self}
use Rattle.syntax.proofs.pieces.Repeats.{many_fails, ended_leaves}
use Rattle.syntax.proofs.pieces.KindLemmas.{test_leads}
use Rattle.tree.specs.Programs.{field}
use Rattle.syntax.specs.Firsts.{opens_field}
use Rattle.syntax.proofs.definitions.StructRules.{field_piece, field_starts}
use Rattle.syntax.proofs.structs.field_list.Goals as goal

pub returns-in_err-field : goal.returns-in_err-field
returns-in_err-field c = exits (λ v. v.items) (flat_map field) (by_kind opens_field) (λ _. by_kind opens_field) _ _ _ _ _ c.from_residual.ensures.1 c.in_err-field.ensures
    (λ h. many_fails field_piece field_starts splits_self ended_leaves c.each.all.items c.each.invariant
    (test_leads opens_field _ refl (ap opens_field (sym c.peek.ensures.kind) ∙ sym c.is_field.ensures ∙ c.each-test.true)) h)
