use Rattle.std.proofs.Common.{Some, ap, refl, ◌∙◌}
use Rattle.syntax.proofs.pieces.Exits.{exits}
use Rattle.syntax.proofs.pieces.Pieces.{fails_after, fails_here, fails_first, fails_second, next, via_fails}
use Rattle.syntax.proofs.pieces.Choices.{form_fails}
use Rattle.syntax.proofs.pieces.CursorLemmas.{fixed_piece, named_piece}
use Rattle.source.specs.declared.kind.Kind.TheVariants as kind
use Rattle.tree.specs.StatementTrees.{plain_tree}
use Rattle.tree.specs.StatementGrammar.{plain}
use Rattle.syntax.specs.Reading.{never}
use Rattle.syntax.specs.declared.leads.Lead.TheVariants as lead
use Rattle.syntax.specs.declared.leads.PlainLead.TheVariants as plain_lead
use Rattle.syntax.proofs.definitions.TypeRules.{scalar_type_piece}
use Rattle.syntax.proofs.PlainRules.{declared_piece}
use Rattle.syntax.proofs.NameRests.{name_rest_piece}
use Rattle.syntax.proofs.NamedForms.{named_form}
use Rattle.syntax.proofs.PlainLeads.{plain_leads}
use Rattle.syntax.proofs.PlainForms.{break_form, continue_form, delete_form, delete_from, delete_to, exchange_form, return_form, start_form, scalar_declared_form, declared_follows}
use Rattle.syntax.proofs.plain.plain.Goals as goal

pub returns-in_err-name-in-Name : goal.returns-in_err-name-in-Name
returns-in_err-name-in-Name c = exits plain_tree plain never (λ _. never) _ _ _ _ _ c.from_residual.ensures.1 c.in_err-name-in-Name.ensures
    (λ h. form_fails named_form (plain_leads plain_lead.Name _ (c.requires ∙ ap (λ s. Some (lead.Plain s)) c.in-Name.is)) (fails_here h name_rest_piece))

pub returns-in_err-scalar_type-in-Scalar : goal.returns-in_err-scalar_type-in-Scalar
returns-in_err-scalar_type-in-Scalar c = exits plain_tree plain never (λ _. never) _ _ _ _ _ c.from_residual-in_err-scalar_type-in-Scalar.ensures.1 c.in_err-scalar_type-in-Scalar.ensures
    (λ h. form_fails scalar_declared_form (plain_leads plain_lead.Scalar _ (c.requires ∙ ap (λ s. Some (lead.Plain s)) c.in-Scalar.is)) (fails_first h declared_piece declared_follows))

pub returns-in_err-name-in-Scalar : goal.returns-in_err-name-in-Scalar
returns-in_err-name-in-Scalar c = exits plain_tree plain never (λ _. never) _ _ _ _ _ c.from_residual-in_err-name-in-Scalar.ensures.1 c.in_err-name-in-Scalar.ensures
    (λ h. form_fails scalar_declared_form (plain_leads plain_lead.Scalar _ (c.requires ∙ ap (λ s. Some (lead.Plain s)) c.in-Scalar.is)) (fails_second c.in_ok-scalar_type-in-Scalar.field-0 scalar_type_piece c.in_ok-scalar_type-in-Scalar.ensures declared_follows h))

pub returns-in_err-word-in-Start : goal.returns-in_err-word-in-Start
returns-in_err-word-in-Start c = exits plain_tree plain never (λ _. never) _ _ _ _ _ c.from_residual-in_err-word-in-Start.ensures.1 c.in_err-word-in-Start.ensures
    (λ h. form_fails start_form (plain_leads plain_lead.Start _ (c.requires ∙ ap (λ s. Some (lead.Plain s)) c.in-Start.is)) h)

pub returns-in_err-expect-in-Delete : goal.returns-in_err-expect-in-Delete
returns-in_err-expect-in-Delete c = exits plain_tree plain never (λ _. never) _ _ _ _ _ c.from_residual-in_err-expect-in-Delete.ensures.1 c.in_err-expect-in-Delete.ensures
    (λ h. form_fails delete_form (plain_leads plain_lead.Delete _ (c.requires ∙ ap (λ s. Some (lead.Plain s)) c.in-Delete.is)) (via_fails delete_to delete_from (λ _. refl) (fails_here h (next named_piece (fixed_piece kind.Semicolon)))))

pub returns-in_err-name-in-Delete : goal.returns-in_err-name-in-Delete
returns-in_err-name-in-Delete c = exits plain_tree plain never (λ _. never) _ _ _ _ _ c.from_residual-in_err-name-in-Delete.ensures.1 c.in_err-name-in-Delete.ensures
    (λ h. form_fails delete_form (plain_leads plain_lead.Delete _ (c.requires ∙ ap (λ s. Some (lead.Plain s)) c.in-Delete.is)) (via_fails delete_to delete_from (λ _. refl) (fails_after tt (fixed_piece kind.Delete) c.in_ok-expect-in-Delete.ensures (fails_here h (fixed_piece kind.Semicolon)))))

pub returns-in_err-expect-in-Delete-2 : goal.returns-in_err-expect-in-Delete-2
returns-in_err-expect-in-Delete-2 c = exits plain_tree plain never (λ _. never) _ _ _ _ _ c.from_residual-in_err-expect-in-Delete-2.ensures.1 c.in_err-expect-in-Delete-2.ensures
    (λ h. form_fails delete_form (plain_leads plain_lead.Delete _ (c.requires ∙ ap (λ s. Some (lead.Plain s)) c.in-Delete.is)) (via_fails delete_to delete_from (λ _. refl) (fails_after tt (fixed_piece kind.Delete) c.in_ok-expect-in-Delete.ensures (fails_after c.in_ok-name-in-Delete.name named_piece c.in_ok-name-in-Delete.ensures h))))

pub returns-in_err-exchange-in-Exchange : goal.returns-in_err-exchange-in-Exchange
returns-in_err-exchange-in-Exchange c = exits plain_tree plain never (λ _. never) _ _ _ _ _ c.from_residual-in_err-exchange-in-Exchange.ensures.1 c.in_err-exchange-in-Exchange.ensures
    (λ h. form_fails exchange_form (plain_leads plain_lead.Exchange _ (c.requires ∙ ap (λ s. Some (lead.Plain s)) c.in-Exchange.is)) h)

pub returns-in_err-jump-in-Break : goal.returns-in_err-jump-in-Break
returns-in_err-jump-in-Break c = exits plain_tree plain never (λ _. never) _ _ _ _ _ c.from_residual-in_err-jump-in-Break.ensures.1 c.in_err-jump-in-Break.ensures
    (λ h. form_fails break_form (plain_leads plain_lead.Break _ (c.requires ∙ ap (λ s. Some (lead.Plain s)) c.in-Break.is)) h)

pub returns-in_err-jump-in-Continue : goal.returns-in_err-jump-in-Continue
returns-in_err-jump-in-Continue c = exits plain_tree plain never (λ _. never) _ _ _ _ _ c.from_residual-in_err-jump-in-Continue.ensures.1 c.in_err-jump-in-Continue.ensures
    (λ h. form_fails continue_form (plain_leads plain_lead.Continue _ (c.requires ∙ ap (λ s. Some (lead.Plain s)) c.in-Continue.is)) h)

pub returns-in_err-word-in-Return : goal.returns-in_err-word-in-Return
returns-in_err-word-in-Return c = exits plain_tree plain never (λ _. never) _ _ _ _ _ c.from_residual-in_err-word-in-Return.ensures.1 c.in_err-word-in-Return.ensures
    (λ h. form_fails return_form (plain_leads plain_lead.Return _ (c.requires ∙ ap (λ s. Some (lead.Plain s)) c.in-Return.is)) h)
