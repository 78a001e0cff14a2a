use Rattle.std.proofs.Common.{refl}
use Rattle.source.specs.declared.kind.Kind.TheVariants as kind
use Rattle.syntax.specs.Reading.{never}
use Rattle.syntax.proofs.pieces.Exits.{exits}
use Rattle.syntax.proofs.pieces.Pieces.{fails_first, fails_here, fails_after, fails_second, via_fails}
use Rattle.syntax.proofs.pieces.CursorLemmas.{fixed_piece, named_piece}
use Rattle.tree.specs.Programs.{field}
use Rattle.syntax.proofs.definitions.TypeForms.{type_piece}
use Rattle.syntax.proofs.definitions.AccessRules.{access_piece}
use Rattle.syntax.proofs.definitions.StructRules.{named_end_piece, type_ends, field_to, field_from, field_follows}
use Rattle.syntax.proofs.structs.field.Goals as goal

pub returns-in_err-ty : goal.returns-in_err-ty
returns-in_err-ty c = exits (λ x. x) field never (λ _. never) _ _ _ _ _ c.from_residual.ensures.1 c.in_err-ty.ensures
    (λ h. via_fails field_to field_from (λ _. refl) (fails_second c.access-access.result access_piece c.access-access.ensures field_follows (fails_first h named_end_piece type_ends)))

pub returns-in_err-name : goal.returns-in_err-name
returns-in_err-name c = exits (λ x. x) field never (λ _. never) _ _ _ _ _ c.from_residual-in_err-name.ensures.1 c.in_err-name.ensures
    (λ h. via_fails field_to field_from (λ _. refl) (fails_second c.access-access.result access_piece c.access-access.ensures field_follows (fails_second c.in_ok-ty.ty type_piece c.in_ok-ty.ensures type_ends (fails_here h (fixed_piece kind.Semicolon)))))

pub returns-in_err-expect : goal.returns-in_err-expect
returns-in_err-expect c = exits (λ x. x) field never (λ _. never) _ _ _ _ _ c.from_residual-in_err-expect.ensures.1 c.in_err-expect.ensures
    (λ h. via_fails field_to field_from (λ _. refl) (fails_second c.access-access.result access_piece c.access-access.ensures field_follows (fails_second c.in_ok-ty.ty type_piece c.in_ok-ty.ensures type_ends (fails_after c.in_ok-name.name named_piece c.in_ok-name.ensures h))))
