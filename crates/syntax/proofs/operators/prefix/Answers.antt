use Rattle.std.proofs.Common.{◌≡◌, true, refl, sym, ap, ◌∙◌}
use Rattle.tree.specs.Symbols.{is_placed}
use Rattle.tree.specs.Operators.{prefix_word}
use Rattle.syntax.specs.OperatorReads.{prefix_of}
use Rattle.tree.specs.declared.expression.PrefixOperator.{PrefixOperator}
use Rattle.tree.specs.declared.expression.PrefixOperator.TheVariants as prefixes
use Rattle.syntax.proofs.pieces.Pieces.{via_fails, stops_never}
use Rattle.syntax.proofs.pieces.Words.{marks_fails, marks_taken}
use Rattle.syntax.proofs.OperatorRules.{prefix_marks, prefix_to, prefix_from}
use Rattle.syntax.proofs.operators.prefix.Goals as goal

pub returns-in_default : goal.returns-in_default
returns-in_default c = via_fails prefix_to prefix_from (λ _. refl) (marks_fails prefix_marks _ c.peek.ensures.some (ap prefix_of (sym c.peek.ensures.kind) ∙ sym c.prefix_of.ensures ∙ c.in_default.is))

pub returns : goal.returns
returns c = (marks_taken prefix_marks c.in-Some.operator c.skip-span.result _ _ (ap prefix_of (sym c.peek.ensures.kind) ∙ sym c.prefix_of.ensures ∙ c.in-Some.is) (high c.in-Some.operator) c.skip-span.ensures.placed, stops_never _)
  where
    high : (o : PrefixOperator) → is_placed (prefix_word o) ≡ true
    high prefixes.Not = refl
    high prefixes.Negate = refl
