use Rattle.std.proofs.Common.{◌++◌, refl, sym, ap, ◌∙◌, append_assoc}
use Rattle.std.specs.List.{flat_map}
use Rattle.source.specs.declared.kind.Kind.TheVariants as kind
use Rattle.tree.specs.Symbols.{by_kind}
use Rattle.tree.specs.Spelling.{comma, comma_list}
use Rattle.syntax.specs.Reading.{listed_on, listed_at}
use Rattle.syntax.proofs.pieces.Exits.{exits}
use Rattle.syntax.proofs.pieces.Listed.{listed_first_fails, listed_more_fails}
use Rattle.syntax.proofs.pieces.KindLemmas.{kind_leads, test_leads}
use Rattle.syntax.specs.Firsts.{opens_parameter}
use Rattle.tree.specs.Programs.{parameter}
use Rattle.syntax.proofs.definitions.ClassRules.{parameter_item}
use Rattle.syntax.proofs.classes.parameter_list.Goals as goal

pub returns-in_err-parameter : goal.returns-in_err-parameter
returns-in_err-parameter c = exits (λ v. v.items) (comma_list parameter) (listed_on (by_kind opens_parameter)) (listed_at (by_kind opens_parameter)) _ _ _ _ _ c.from_residual.ensures.1 c.in_err-parameter.ensures
    (λ h. listed_first_fails parameter_item (test_leads opens_parameter c.args.cursor.now refl (ap opens_parameter (sym c.peek.ensures.kind) ∙ sym c.is_parameter.ensures ∙ c.if-not-is_parameter.false)) h)

pub returns-in_err-comma_parameter : goal.returns-in_err-comma_parameter
returns-in_err-comma_parameter c =
    let kept = c.more.invariant in
    exits (λ v. v.items) (comma_list parameter) (listed_on (by_kind opens_parameter)) (listed_at (by_kind opens_parameter)) _ _ _ _ _ c.from_residual-in_err-comma_parameter.ensures.1 c.in_err-comma_parameter.ensures
    (λ h. listed_more_fails parameter_item kept.first kept.others
    (test_leads opens_parameter c.args.cursor.now refl (ap opens_parameter (sym c.peek.ensures.kind) ∙ sym c.is_parameter.ensures ∙ c.if-not-is_parameter.false))
    (kept.read ∙ ap (λ ps. comma_list parameter ps ++ c.more.cursor) kept.some ∙ append_assoc (parameter kept.first) (flat_map (comma parameter) kept.others) c.more.cursor)
    (kind_leads kind.Comma _ (c.more-test.ensures.is.0 refl)) h)
