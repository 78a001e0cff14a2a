use Rattle.std.proofs.Common.{sym, ap, ◌∙◌, refl}
use Rattle.std.specs.List.{flat_map}
use Rattle.tree.specs.Symbols.{by_kind}
use Rattle.tree.specs.Operators.{prefix}
use Rattle.syntax.specs.OperatorReads.{opens_prefix}
use Rattle.syntax.proofs.pieces.Exits.{exits}
use Rattle.syntax.proofs.pieces.Beginnings.{splits_self}
use Rattle.syntax.proofs.pieces.Repeats.{many_fails, ended_leaves}
use Rattle.syntax.proofs.pieces.KindLemmas.{test_leads}
use Rattle.syntax.proofs.OperatorRules.{prefix_piece, prefix_starts}
use Rattle.syntax.proofs.expressions.prefixes.Goals as goal

pub returns-in_err-prefix : goal.returns-in_err-prefix
returns-in_err-prefix c = exits (λ v. v.items) (flat_map prefix) (by_kind opens_prefix) (λ _. by_kind opens_prefix) _ _ _ _ _ c.from_residual.ensures.1 c.in_err-prefix.ensures
    (λ h. many_fails prefix_piece prefix_starts splits_self ended_leaves c.each.all.items c.each.invariant
    (test_leads opens_prefix _ refl (ap opens_prefix (sym c.peek.ensures.kind) ∙ sym c.is_prefix.ensures ∙ c.each-test.true)) h)
