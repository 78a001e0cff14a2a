-- Values and calls as parts of the grammar.
use Rattle.std.proofs.Common.{◌≡◌, false, List, [], ◌∷◌, refl, ap}
use Rattle.std.specs.Prelude.{◌||◌}
use Rattle.source.specs.declared.kind.Kind.TheVariants as kind
use Rattle.tree.specs.Symbols.{Fixed, is_kind}
use Rattle.tree.specs.Spelling.{comma_list}
use Rattle.syntax.specs.Reading.{never}
use Rattle.tree.specs.Expressions.{ExpressionTree, expression}
use Rattle.syntax.specs.ExpressionReads.{expression_on, expression_at, opens_expression}
use Rattle.tree.specs.Values.{arguments}
use Rattle.syntax.specs.ValueReads.{expressions_on, expressions_at}
use Rattle.syntax.proofs.pieces.Pieces.{Piece}
use Rattle.syntax.proofs.pieces.Enclosed.{InParens, parens_piece}
use Rattle.syntax.proofs.pieces.KindLemmas.{apart_kinds}
use Rattle.syntax.proofs.pieces.ListedOpen.{OpenItem, listed_open_piece}
use Rattle.syntax.proofs.ExpressionFails.{expression_piece, expression_starts, expression_apart}
use Rattle.syntax.specs.OperatorReads.{after_expression}

-- arguments = "(" [ expression { "," expression } ] ")" .

pub expression_item : OpenItem expression expression_on expression_at opens_expression
expression_item = record {
  piece = expression_piece;
  begin = expression_starts;
  free = apart_kinds after_expression kind.Comma refl;
  leaves = record { apart = λ x y h. expression_apart x y (apart_kinds after_expression kind.Comma refl y h) };
}

pub expression_list_piece : Piece (comma_list expression) expressions_on expressions_at
expression_list_piece = listed_open_piece expression_item

pub arguments_inside : InParens (comma_list expression) expressions_on expressions_at
arguments_inside = record { on = refl; here = ends }
  where
    last : (x : ExpressionTree) (xs : List ExpressionTree) → expressions_at (x ∷ xs) (Fixed kind.CloseParen) ≡ false
    last x [] = ap (λ b. b || is_kind kind.Comma (Fixed kind.CloseParen)) (expression_apart x (Fixed kind.CloseParen) refl)
    last x (y ∷ ys) = last y ys

    ends : (xs : List ExpressionTree) → expressions_at xs (Fixed kind.CloseParen) ≡ false
    ends [] = refl
    ends (x ∷ xs) = last x xs

pub arguments_piece : Piece arguments never (λ _. never)
arguments_piece = parens_piece arguments_inside expression_list_piece
