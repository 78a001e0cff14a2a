use Rattle.std.proofs.Common.{[], ◌∷◌, ◌++◌, refl, sym, ap, ◌∙◌}
use Rattle.source.specs.declared.kind.Kind.TheVariants as kind
use Rattle.tree.specs.Spelling.{comma_list}
use Rattle.syntax.proofs.pieces.Exits.{exits}
use Rattle.syntax.proofs.pieces.KindLemmas.{kind_leads, test_leads}
use Rattle.syntax.specs.Firsts.{opens_type}
use Rattle.tree.specs.StatementGrammar.{bind}
use Rattle.syntax.specs.StatementParts.{binds_on, binds_at}
use Rattle.syntax.proofs.pieces.ListedOpen.{open_first_fails, open_more_fails, list_begun, list_more}
use Rattle.syntax.proofs.CaseRules.{bind_item}
use Rattle.syntax.proofs.cases.bind_list.Goals as goal

pub returns-in_err-bind : goal.returns-in_err-bind
returns-in_err-bind c = exits (λ v. v.items) (comma_list bind) binds_on binds_at _ _ _ _ _ c.from_residual.ensures.1 c.in_err-bind.ensures
    (λ h. open_first_fails bind_item (test_leads opens_type _ refl (ap opens_type (sym c.peek.ensures.kind) ∙ sym c.is_type.ensures ∙ c.if-not-is_type.false)) h)

pub more-init : goal.more-init
more-init c = list_begun c.in_ok-bind.field-0 c.push.new.all.items _ _ (c.in_ok-push.ensures ∙ ap (λ t. t ++ c.in_ok-bind.field-0 ∷ []) c.new-all.ensures.items) c.in_ok-bind.ensures

pub more-preserved : goal.more-preserved
more-preserved c = list_more c.in_ok-comma_bind.field-0 c.more.all.items c.push-in-more.new.all.items _ _ _ c.in_ok-push-2.ensures c.more.invariant c.in_ok-comma_bind.ensures

pub returns-in_err-comma_bind : goal.returns-in_err-comma_bind
returns-in_err-comma_bind c =
    let kept = c.more.invariant in
    exits (λ v. v.items) (comma_list bind) binds_on binds_at _ _ _ _ _ c.from_residual-in_err-comma_bind.ensures.1 c.in_err-comma_bind.ensures
    (λ h. open_more_fails bind_item kept.first kept.others
    (test_leads opens_type _ refl (ap opens_type (sym c.peek.ensures.kind) ∙ sym c.is_type.ensures ∙ c.if-not-is_type.false))
    kept.read
    (kind_leads kind.Comma _ (c.more-test.ensures.is.0 refl)) h)
