use Rattle.std.proofs.Common.{refl}
use Rattle.source.specs.declared.kind.Kind.TheVariants as kind
use Rattle.syntax.specs.Reading.{never}
use Rattle.syntax.proofs.pieces.Exits.{exits}
use Rattle.syntax.proofs.pieces.Pieces.{fails_here, fails_after, via_fails, next}
use Rattle.syntax.proofs.pieces.CursorLemmas.{fixed_piece, named_piece}
use Rattle.tree.specs.Trees.{class_tree}
use Rattle.tree.specs.Programs.{class}
use Rattle.syntax.proofs.definitions.ClassRules.{methods_piece, class_to, class_from}
use Rattle.syntax.proofs.classes.class.Goals as goal

pub returns-in_err-expect : goal.returns-in_err-expect
returns-in_err-expect c = exits class_tree class never (λ _. never) _ _ _ _ _ c.from_residual.ensures.1 c.in_err-expect.ensures
    (λ h. via_fails class_to class_from (λ _. refl) (fails_here h (next named_piece methods_piece)))

pub returns-in_err-name : goal.returns-in_err-name
returns-in_err-name c = exits class_tree class never (λ _. never) _ _ _ _ _ c.from_residual-in_err-name.ensures.1 c.in_err-name.ensures
    (λ h. via_fails class_to class_from (λ _. refl) (fails_after tt (fixed_piece kind.Class) c.in_ok-expect.ensures (fails_here h methods_piece)))

pub returns-in_err-methods : goal.returns-in_err-methods
returns-in_err-methods c = exits class_tree class never (λ _. never) _ _ _ _ _ c.from_residual-in_err-methods.ensures.1 c.in_err-methods.ensures
    (λ h. via_fails class_to class_from (λ _. refl) (fails_after tt (fixed_piece kind.Class) c.in_ok-expect.ensures (fails_after c.in_ok-name.name named_piece c.in_ok-name.ensures h)))
