use Rattle.std.proofs.Common.{refl}
use Rattle.source.specs.declared.kind.Kind.TheVariants as kind
use Rattle.syntax.specs.Reading.{never}
use Rattle.syntax.proofs.pieces.Exits.{exits}
use Rattle.syntax.proofs.pieces.Pieces.{fails_here, fails_after, fails_first, fails_second, via_fails}
use Rattle.syntax.proofs.pieces.CursorLemmas.{fixed_piece, named_piece}
use Rattle.std.specs.Option.{option_map}
use Rattle.tree.specs.Values.{value_tree}
use Rattle.syntax.specs.StatementParts.{declared}
use Rattle.syntax.proofs.PlainRules.{maybe_init_piece, maybe_init_follows, maybe_init_end, declared_to, declared_from}
use Rattle.syntax.proofs.statement_ends.declared.Goals as goal

pub returns-in_err-name : goal.returns-in_err-name
returns-in_err-name c = exits (λ p. (p.0, option_map value_tree p.1)) declared never (λ _. never) _ _ _ _ _ c.from_residual.ensures.1 c.in_err-name.ensures
    (λ h. via_fails declared_to declared_from (λ _. refl) (fails_here h maybe_init_end))

pub returns-in_err-value : goal.returns-in_err-value
returns-in_err-value c = exits (λ p. (p.0, option_map value_tree p.1)) declared never (λ _. never) _ _ _ _ _ c.from_residual-in_err-value.ensures.1 c.in_err-value.ensures
    (λ h. via_fails declared_to declared_from (λ _. refl) (fails_after c.in_ok-name.name named_piece c.in_ok-name.ensures (fails_first h (fixed_piece kind.Semicolon) maybe_init_follows)))

pub returns-in_err-expect : goal.returns-in_err-expect
returns-in_err-expect c = exits (λ p. (p.0, option_map value_tree p.1)) declared never (λ _. never) _ _ _ _ _ c.from_residual-in_err-expect.ensures.1 c.in_err-expect.ensures
    (λ h. via_fails declared_to declared_from (λ _. refl) (fails_after c.in_ok-name.name named_piece c.in_ok-name.ensures (fails_second (option_map value_tree c.in_ok-value.value) maybe_init_piece c.in_ok-value.ensures maybe_init_follows h)))
