use Rattle.std.proofs.Common.{sym, ap, ◌∙◌, refl}
use Rattle.tree.specs.Trees.{member_tree}
use Rattle.tree.specs.Grammar.{member}
use Rattle.syntax.specs.Firsts.{opens_message}
use Rattle.syntax.specs.States.{state_on, member_at}
use Rattle.syntax.proofs.pieces.Exits.{exits}
use Rattle.syntax.proofs.pieces.Pieces.{wide_fails}
use Rattle.syntax.proofs.pieces.Choices.{form_fails}
use Rattle.syntax.proofs.pieces.KindLemmas.{test_leads, other_leads}
use Rattle.syntax.proofs.definitions.ContractRules.{message_form, state_form}
use Rattle.syntax.proofs.contracts.member.Goals as goal

pub returns-in_err-message : goal.returns-in_err-message
returns-in_err-message c = exits member_tree member state_on member_at _ _ _ _ _ c.from_residual.ensures.1 c.in_err-message.ensures
    (λ h. form_fails message_form (test_leads opens_message _ refl (ap opens_message (sym c.peek.ensures.kind) ∙ sym c.is_message.ensures ∙ c.if-is_message.true)) (wide_fails (λ y k. refl) h))

pub returns-in_err-state : goal.returns-in_err-state
returns-in_err-state c = exits member_tree member state_on member_at _ _ _ _ _ c.from_residual-in_err-state.ensures.1 c.in_err-state.ensures
    (λ h. form_fails state_form (other_leads opens_message _ c.peek.ensures.some refl (ap opens_message (sym c.peek.ensures.kind) ∙ sym c.is_message.ensures ∙ c.if-is_message.false)) h)
