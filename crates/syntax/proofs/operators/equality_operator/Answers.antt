use Rattle.std.proofs.Common.{◌≡◌, false, refl, sym, ap, ◌∙◌}
use Rattle.tree.specs.Symbols.{is_placed}
use Rattle.tree.specs.Operators.{equality_word}
use Rattle.syntax.specs.OperatorReads.{equality_of}
use Rattle.tree.specs.declared.expression.EqualityOperator.{EqualityOperator}
use Rattle.tree.specs.declared.expression.EqualityOperator.TheVariants as equality
use Rattle.syntax.proofs.pieces.Pieces.{stops_never}
use Rattle.syntax.proofs.pieces.Words.{words_fails, words_taken}
use Rattle.syntax.proofs.OperatorRules.{equalities}
use Rattle.syntax.proofs.operators.equality_operator.Goals as goal

pub returns-in_default : goal.returns-in_default
returns-in_default c = words_fails equalities _ c.peek.ensures.some (ap equality_of (sym c.peek.ensures.kind) ∙ sym c.equality_of.ensures ∙ c.in_default.is)

pub returns : goal.returns
returns c = (words_taken equalities c.in-Some.operator _ _ (ap equality_of (sym c.peek.ensures.kind) ∙ sym c.equality_of.ensures ∙ c.in-Some.is) (plain c.in-Some.operator) c.skip.ensures.fixed, stops_never _)
  where
    plain : (o : EqualityOperator) → is_placed (equality_word o) ≡ false
    plain equality.Equal = refl
    plain equality.NotEqual = refl
