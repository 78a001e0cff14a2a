use Rattle.std.proofs.Common.{◌≡◌, false, refl, sym, ap, ◌∙◌}
use Rattle.tree.specs.Symbols.{is_placed}
use Rattle.tree.specs.Operators.{relation_word}
use Rattle.syntax.specs.OperatorReads.{relation_of}
use Rattle.tree.specs.declared.expression.RelationOperator.{RelationOperator}
use Rattle.tree.specs.declared.expression.RelationOperator.TheVariants as relation
use Rattle.syntax.proofs.pieces.Pieces.{stops_never}
use Rattle.syntax.proofs.pieces.Words.{words_fails, words_taken}
use Rattle.syntax.proofs.OperatorRules.{relations}
use Rattle.syntax.proofs.operators.relation_operator.Goals as goal

pub returns-in_default : goal.returns-in_default
returns-in_default c = words_fails relations _ c.peek.ensures.some (ap relation_of (sym c.peek.ensures.kind) ∙ sym c.relation_of.ensures ∙ c.in_default.is)

pub returns : goal.returns
returns c = (words_taken relations c.in-Some.operator _ _ (ap relation_of (sym c.peek.ensures.kind) ∙ sym c.relation_of.ensures ∙ c.in-Some.is) (plain c.in-Some.operator) c.skip.ensures.fixed, stops_never _)
  where
    plain : (o : RelationOperator) → is_placed (relation_word o) ≡ false
    plain relation.Less = refl
    plain relation.LessEqual = refl
    plain relation.Greater = refl
    plain relation.GreaterEqual = refl
