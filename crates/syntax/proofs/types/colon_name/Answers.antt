use Rattle.std.proofs.Common.{refl}
use Rattle.source.specs.declared.kind.Kind.TheVariants as kind
use Rattle.syntax.specs.Reading.{never}
use Rattle.tree.specs.Grammar.{colon_name}
use Rattle.syntax.proofs.pieces.Exits.{exits}
use Rattle.syntax.proofs.pieces.Pieces.{fails_here, fails_after, via_fails}
use Rattle.syntax.proofs.pieces.CursorLemmas.{fixed_piece, named_piece}
use Rattle.syntax.proofs.definitions.EndpointRules.{colon_to, colon_from}
use Rattle.syntax.proofs.types.colon_name.Goals as goal

pub returns-in_err-expect : goal.returns-in_err-expect
returns-in_err-expect c = exits (λ x. x) colon_name never (λ _. never) _ _ _ _ _ c.from_residual.ensures.1 c.in_err-expect.ensures
    (λ h. via_fails colon_to colon_from (λ _. refl) (fails_here h named_piece))

pub returns-in_err-name : goal.returns-in_err-name
returns-in_err-name c = exits (λ x. x) colon_name never (λ _. never) _ _ _ _ _ c.from_residual-in_err-name.ensures.1 c.in_err-name.ensures
    (λ h. via_fails colon_to colon_from (λ _. refl) (fails_after tt (fixed_piece kind.Colon) c.in_ok-expect.ensures h))
