use Rattle.std.proofs.Common.{◌++◌, sym, ap, ◌∙◌, refl, append_assoc}
use Rattle.std.specs.List.{flat_map}
use Rattle.source.specs.declared.kind.Kind.TheVariants as kind
use Rattle.tree.specs.Symbols.{by_kind}
use Rattle.tree.specs.Spelling.{comma, comma_list}
use Rattle.syntax.specs.Reading.{listed_on, listed_at}
use Rattle.tree.specs.Grammar.{param}
use Rattle.syntax.specs.Firsts.{opens_type}
use Rattle.syntax.proofs.pieces.Exits.{exits}
use Rattle.syntax.proofs.pieces.KindLemmas.{kind_leads, test_leads}
use Rattle.syntax.proofs.pieces.Listed.{listed_first_fails, listed_more_fails}
use Rattle.syntax.proofs.definitions.TypeForms.{param_item}
use Rattle.syntax.proofs.messages.param_list.Goals as goal

pub returns-in_err-param : goal.returns-in_err-param
returns-in_err-param c = exits (λ v. v.items) (comma_list param) (listed_on (by_kind opens_type)) (listed_at (by_kind opens_type)) _ _ _ _ _ c.from_residual.ensures.1 c.in_err-param.ensures
    (λ h. listed_first_fails param_item (test_leads opens_type _ refl (ap opens_type (sym c.peek.ensures.kind) ∙ sym c.is_type.ensures ∙ c.if-not-is_type.false)) h)

pub returns-in_err-comma_param : goal.returns-in_err-comma_param
returns-in_err-comma_param c =
    let kept = c.more.invariant in
    exits (λ v. v.items) (comma_list param) (listed_on (by_kind opens_type)) (listed_at (by_kind opens_type)) _ _ _ _ _ c.from_residual-in_err-comma_param.ensures.1 c.in_err-comma_param.ensures
    (λ h. listed_more_fails param_item kept.first kept.others
    (test_leads opens_type _ refl (ap opens_type (sym c.peek.ensures.kind) ∙ sym c.is_type.ensures ∙ c.if-not-is_type.false))
    (kept.read ∙ ap (λ ps. comma_list param ps ++ c.more.cursor) kept.some ∙ append_assoc (param kept.first) (flat_map (comma param) kept.others) c.more.cursor)
    (kind_leads kind.Comma _ (c.more-test.ensures.is.0 refl)) h)
