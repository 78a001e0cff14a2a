use Rattle.std.proofs.Common.{refl}
use Rattle.std.proofs.lemmas.Bool.{iff_false}
use Rattle.source.specs.declared.kind.Kind.TheVariants as kind
use Rattle.tree.specs.Trees.{body_tree}
use Rattle.tree.specs.Grammar.{body}
use Rattle.syntax.specs.States.{body_at, state_on}
use Rattle.syntax.proofs.pieces.Exits.{exits}
use Rattle.syntax.proofs.pieces.Pieces.{wide_fails}
use Rattle.syntax.proofs.pieces.Choices.{form_fails}
use Rattle.syntax.proofs.pieces.KindLemmas.{kind_leads, neither_leads}
use Rattle.syntax.proofs.definitions.BodyRules.{one_form, line_form, empty_form}
use Rattle.syntax.proofs.states.body.Goals as goal

pub returns-in_err-paths : goal.returns-in_err-paths
returns-in_err-paths c = exits body_tree body state_on body_at _ _ _ _ _ c.from_residual.ensures.1 c.in_err-paths.ensures
    (λ h. form_fails one_form (kind_leads kind.One _ (c.is_next.ensures.is.0 c.if-is_next.true)) h)

pub returns-in_err-line : goal.returns-in_err-line
returns-in_err-line c = exits body_tree body state_on body_at _ _ _ _ _ c.from_residual-in_err-line.ensures.1 c.in_err-line.ensures
    (λ h. form_fails line_form (kind_leads kind.Name _ (c.is_next-else-is_next.ensures.is.0 c.if-is_next-2.true)) (wide_fails (λ y k. refl) h))

pub returns-in_err-expect : goal.returns-in_err-expect
returns-in_err-expect c = exits body_tree body state_on body_at _ _ _ _ _ c.from_residual-in_err-expect.ensures.1 c.in_err-expect.ensures
    (λ h. form_fails empty_form (neither_leads kind.One kind.Name _ c.is_next.ensures.some (iff_false c.is_next.ensures.is c.if-is_next.false) (iff_false c.is_next-else-is_next.ensures.is c.if-is_next-2.false)) (wide_fails (λ y k. refl) h))
