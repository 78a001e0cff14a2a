use Rattle.std.proofs.Common.{refl}
use Rattle.source.specs.declared.kind.Kind.TheVariants as kind
use Rattle.syntax.specs.Reading.{never}
use Rattle.syntax.proofs.pieces.Exits.{exits}
use Rattle.syntax.proofs.pieces.Pieces.{fails_here, fails_after, via_fails, next}
use Rattle.syntax.proofs.pieces.CursorLemmas.{fixed_piece, named_piece}
use Rattle.tree.specs.Programs.{struct}
use Rattle.tree.specs.Trees.{struct_tree}
use Rattle.syntax.proofs.definitions.StructRules.{fields_piece, struct_to, struct_from}
use Rattle.syntax.proofs.structs.structure.Goals as goal

pub returns-in_err-expect : goal.returns-in_err-expect
returns-in_err-expect c = exits struct_tree struct never (λ _. never) _ _ _ _ _ c.from_residual.ensures.1 c.in_err-expect.ensures
    (λ h. via_fails struct_to struct_from (λ _. refl) (fails_here h (next (fixed_piece kind.Struct) (next named_piece fields_piece))))

pub returns-in_err-expect-2 : goal.returns-in_err-expect-2
returns-in_err-expect-2 c = exits struct_tree struct never (λ _. never) _ _ _ _ _ c.from_residual-in_err-expect-2.ensures.1 c.in_err-expect-2.ensures
    (λ h. via_fails struct_to struct_from (λ _. refl) (fails_after tt (fixed_piece kind.Rep) c.in_ok-expect.ensures (fails_here h (next named_piece fields_piece))))

pub returns-in_err-name : goal.returns-in_err-name
returns-in_err-name c = exits struct_tree struct never (λ _. never) _ _ _ _ _ c.from_residual-in_err-name.ensures.1 c.in_err-name.ensures
    (λ h. via_fails struct_to struct_from (λ _. refl) (fails_after tt (fixed_piece kind.Rep) c.in_ok-expect.ensures (fails_after tt (fixed_piece kind.Struct) c.in_ok-expect-2.ensures (fails_here h fields_piece))))

pub returns-in_err-fields : goal.returns-in_err-fields
returns-in_err-fields c = exits struct_tree struct never (λ _. never) _ _ _ _ _ c.from_residual-in_err-fields.ensures.1 c.in_err-fields.ensures
    (λ h. via_fails struct_to struct_from (λ _. refl) (fails_after tt (fixed_piece kind.Rep) c.in_ok-expect.ensures (fails_after tt (fixed_piece kind.Struct) c.in_ok-expect-2.ensures (fails_after c.in_ok-name.name named_piece c.in_ok-name.ensures h))))
