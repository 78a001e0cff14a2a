use Rattle.std.proofs.Common.{refl, sym, ap, ◌∙◌}
use Rattle.std.proofs.lemmas.Bool.{iff_false}
use Rattle.source.specs.declared.kind.Kind.TheVariants as kind
use Rattle.syntax.proofs.pieces.Exits.{exits}
use Rattle.syntax.proofs.pieces.Pieces.{fails_here, fails_first, fails_second}
use Rattle.syntax.proofs.pieces.Choices.{form_fails}
use Rattle.syntax.proofs.pieces.KindLemmas.{kind_leads, test_leads}
use Rattle.syntax.specs.Firsts.{opens_side}
use Rattle.tree.specs.StatementTrees.{plain_tree}
use Rattle.tree.specs.StatementGrammar.{plain}
use Rattle.syntax.specs.Reading.{never}
use Rattle.syntax.proofs.definitions.EndpointRules.{endpoint_end_piece}
use Rattle.syntax.proofs.PlainRules.{declared_piece}
use Rattle.syntax.proofs.NameRests.{member_rest_piece, ended_form, made_form, end_follows, member_form}
use Rattle.syntax.proofs.NamedForms.{dot_lift, member_leads}
use Rattle.syntax.proofs.plain.after_dot.Goals as goal

pub returns-in_err-end : goal.returns-in_err-end
returns-in_err-end c = exits plain_tree plain never (λ _. never) _ _ _ _ _ c.from_residual.ensures.1 c.in_err-end.ensures
    (λ h. dot_lift c.args.first (form_fails ended_form (test_leads opens_side _ refl (ap opens_side (sym c.peek.ensures.kind) ∙ sym c.is_side.ensures ∙ c.if-is_side.true)) (fails_first h declared_piece end_follows)))

pub returns-in_err-name : goal.returns-in_err-name
returns-in_err-name c = exits plain_tree plain never (λ _. never) _ _ _ _ _ c.from_residual-in_err-name.ensures.1 c.in_err-name.ensures
    (λ h. dot_lift c.args.first (form_fails ended_form (test_leads opens_side _ refl (ap opens_side (sym c.peek.ensures.kind) ∙ sym c.is_side.ensures ∙ c.if-is_side.true)) (fails_second c.in_ok-end.end endpoint_end_piece c.in_ok-end.ensures end_follows h)))

pub returns-in_err-ends : goal.returns-in_err-ends
returns-in_err-ends c = exits plain_tree plain never (λ _. never) _ _ _ _ _ c.from_residual-in_err-ends.ensures.1 c.in_err-ends.ensures
    (λ h. dot_lift c.args.first (form_fails made_form (kind_leads kind.NewChannel _ (c.is_next.ensures.is.0 c.if-is_next.true)) h))

pub returns-in_err-member : goal.returns-in_err-member
returns-in_err-member c = exits plain_tree plain never (λ _. never) _ _ _ _ _ c.from_residual-in_err-member.ensures.1 c.in_err-member.ensures
    (λ h. dot_lift c.args.first (form_fails member_form (member_leads _ c.peek.ensures.some (ap opens_side (sym c.peek.ensures.kind) ∙ sym c.is_side.ensures ∙ c.if-is_side.false) (iff_false c.is_next.ensures.is c.if-is_next.false)) (fails_here h member_rest_piece)))
