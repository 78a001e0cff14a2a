-- Operators as parts of the grammar.
use Rattle.std.proofs.Common.{◌≡◌, Bool, true, [], Some, refl, ap}
use Rattle.std.specs.Prelude.{not}
use Rattle.source.specs.declared.kind.Kind.{Kind}
use Rattle.source.specs.declared.kind.Kind.TheVariants as kind
use Rattle.source.specs.declared.token.Span.{Span}
use Rattle.tree.specs.Symbols.{Symbol, Fixed, Placed, is_kind, by_kind}
use Rattle.tree.specs.Spelling.{token_at}
use Rattle.syntax.specs.Reading.{never}
use Rattle.tree.specs.Operators.{Operators, Or, And, Equal, Compare, Add, Multiply, operator, equality_word, relation_word, prefix_word, prefix, sum_operator}
use Rattle.tree.specs.Factors.{factor_operator}
use Rattle.syntax.specs.OperatorReads.{equality_of, relation_of, prefix_of, opens_prefix, joins, joins_factors}
use Rattle.tree.specs.declared.expression as tree
use Rattle.tree.specs.declared.expression.EqualityOperator.TheVariants as equality
use Rattle.tree.specs.declared.expression.RelationOperator.TheVariants as relation
use Rattle.tree.specs.declared.expression.SumOperator.TheVariants as sum
use Rattle.tree.specs.declared.expression.PrefixOperator.TheVariants as prefixes
use Rattle.tree.specs.declared.expression.FactorOperator.TheVariants as factors
use Rattle.syntax.proofs.pieces.Pieces.{Piece, ReadsOneWay, via_piece}
use Rattle.syntax.proofs.pieces.Beginnings.{Begins, Starts}
use Rattle.syntax.proofs.pieces.Choices.{Form, Same, Other, form_way}
use Rattle.syntax.proofs.pieces.Words.{Words, words_piece, words_starts, marks_piece, one_some, none_some}
use Rattle.syntax.proofs.pieces.KindLemmas.{fixed_starts}
use Rattle.syntax.proofs.pieces.CursorLemmas.{fixed, fixed_piece, placed_piece}

-- "==" | "!="

pub equalities : Words equality_word equality_of
equalities = record { some = equality.Equal; known = known; blank = refl; only = only; plain = plain }
  where
    known : (o : tree.EqualityOperator.EqualityOperator) → equality_of (Some (equality_word o)) ≡ Some o
    known equality.Equal = refl
    known equality.NotEqual = refl

    only : (k : Kind) (o : tree.EqualityOperator.EqualityOperator) → equality_of (Some k) ≡ Some o → k ≡ equality_word o
    only kind.EqualEqual o e = ap equality_word (one_some e)
    only kind.NotEqual o e = ap equality_word (one_some e)
    only k o e = absurd (none_some e)

    plain : (o : tree.EqualityOperator.EqualityOperator) → equality_word o ≡ kind.Name → ⊥
    plain equality.Equal e = cc
    plain equality.NotEqual e = cc

-- "<" | "<=" | ">" | ">="

pub relations : Words relation_word relation_of
relations = record { some = relation.Less; known = known; blank = refl; only = only; plain = plain }
  where
    known : (o : tree.RelationOperator.RelationOperator) → relation_of (Some (relation_word o)) ≡ Some o
    known relation.Less = refl
    known relation.LessEqual = refl
    known relation.Greater = refl
    known relation.GreaterEqual = refl

    only : (k : Kind) (o : tree.RelationOperator.RelationOperator) → relation_of (Some k) ≡ Some o → k ≡ relation_word o
    only kind.Less o e = ap relation_word (one_some e)
    only kind.LessEqual o e = ap relation_word (one_some e)
    only kind.Greater o e = ap relation_word (one_some e)
    only kind.GreaterEqual o e = ap relation_word (one_some e)
    only k o e = absurd (none_some e)

    plain : (o : tree.RelationOperator.RelationOperator) → relation_word o ≡ kind.Name → ⊥
    plain relation.Less e = cc
    plain relation.LessEqual e = cc
    plain relation.Greater e = cc
    plain relation.GreaterEqual e = cc

-- "!" | "-"

pub prefix_marks : Words prefix_word prefix_of
prefix_marks = record { some = prefixes.Not; known = known; blank = refl; only = only; plain = plain }
  where
    known : (o : tree.PrefixOperator.PrefixOperator) → prefix_of (Some (prefix_word o)) ≡ Some o
    known prefixes.Not = refl
    known prefixes.Negate = refl

    only : (k : Kind) (o : tree.PrefixOperator.PrefixOperator) → prefix_of (Some k) ≡ Some o → k ≡ prefix_word o
    only kind.Bang o e = ap prefix_word (one_some e)
    only kind.Minus o e = ap prefix_word (one_some e)
    only k o e = absurd (none_some e)

    plain : (o : tree.PrefixOperator.PrefixOperator) → prefix_word o ≡ kind.Name → ⊥
    plain prefixes.Not e = cc
    plain prefixes.Negate e = cc

abbrev pub prefix_to : tree.Prefix.Prefix → tree.PrefixOperator.PrefixOperator × Span
prefix_to p = (p.operator, p.span)

abbrev pub prefix_from : tree.PrefixOperator.PrefixOperator × Span → tree.Prefix.Prefix
prefix_from p = record { operator = p.0; span = p.1 }

pub prefix_piece : Piece prefix never (λ _. never)
prefix_piece = via_piece prefix_to prefix_from (λ _. refl) (marks_piece prefix_marks)

pub prefix_starts : Starts prefix (by_kind opens_prefix)
prefix_starts = record { each = λ p. record { head = Placed (prefix_word p.operator) p.span; tail = []; is = refl; first = opens p.operator } }
  where
    opens : (o : tree.PrefixOperator.PrefixOperator) → opens_prefix (Some (prefix_word o)) ≡ true
    opens prefixes.Not = refl
    opens prefixes.Negate = refl

-- "+" | "-"

abbrev pub of_plus : Unit {0} → tree.SumOperator.SumOperator
of_plus u = sum.Plus

pub minus_form : Form sum_operator (token_at kind.Minus) sum.Minus (is_kind kind.Minus)
minus_form = record {
  first = record { each = λ span. record { head = Placed kind.Minus span; tail = []; is = refl; first = refl } };
  same = λ span. refl;
  each = elim [ sum.Plus ↦ Other (record { head = Fixed kind.Plus; tail = []; is = refl; first = refl }) | sum.Minus span ↦ Same span refl ];
}

pub plus_form : Form sum_operator (fixed kind.Plus) of_plus (λ y. not (is_kind kind.Minus y))
plus_form = record {
  first = record { each = λ u. record { head = Fixed kind.Plus; tail = []; is = refl; first = refl } };
  same = λ u. refl;
  each = elim [ sum.Plus ↦ Same tt refl | sum.Minus span ↦ Other (record { head = Placed kind.Minus span; tail = []; is = refl; first = refl }) ];
}

sum_piece : Piece sum_operator never (λ _. never)
sum_piece = record { some = sum.Plus; each = way }
  where
    way : (o : tree.SumOperator.SumOperator) → ReadsOneWay sum_operator never (λ _. never) o
    way sum.Plus = form_way plus_form (λ _ r h. h) ((fixed_piece kind.Plus).each tt)
    way (sum.Minus span) = form_way minus_form (λ _ r h. h) ((placed_piece kind.Minus).each span)

sum_starts : Starts sum_operator (by_kind (joins Add))
sum_starts = record { each = elim [ sum.Plus ↦ record { head = Fixed kind.Plus; tail = []; is = refl; first = refl } | sum.Minus span ↦ record { head = Placed kind.Minus span; tail = []; is = refl; first = refl } ] }

-- the operators of a level

pub operator_piece : (l : Operators) → Piece (operator l) never (λ _. never)
operator_piece Or = fixed_piece kind.OrOr
operator_piece And = fixed_piece kind.AndAnd
operator_piece Equal = words_piece equalities
operator_piece Compare = words_piece relations
operator_piece Add = sum_piece
operator_piece Multiply = fixed_piece kind.Star

pub operator_starts : (l : Operators) → Starts (operator l) (by_kind (joins l))
operator_starts Or = fixed_starts kind.OrOr
operator_starts And = fixed_starts kind.AndAnd
operator_starts Equal = words_starts equalities
operator_starts Compare = words_starts relations
operator_starts Add = sum_starts
operator_starts Multiply = fixed_starts kind.Star

-- "*" | "+" | "-"

abbrev pub of_times : Unit {0} → tree.FactorOperator.FactorOperator
of_times u = factors.Times

sum_begins : (o : tree.SumOperator.SumOperator) (starts : Symbol → Bool) → starts (Fixed kind.Plus) ≡ true → ((span : Span) → starts (Placed kind.Minus span) ≡ true) → Begins factor_operator starts (factors.Sum o)
sum_begins sum.Plus starts plus minus = record { head = Fixed kind.Plus; tail = []; is = refl; first = plus }
sum_begins (sum.Minus span) starts plus minus = record { head = Placed kind.Minus span; tail = []; is = refl; first = minus span }

times_form : Form factor_operator (fixed kind.Star) of_times (is_kind kind.Star)
times_form = record {
  first = record { each = λ u. record { head = Fixed kind.Star; tail = []; is = refl; first = refl } };
  same = λ u. refl;
  each = elim [ factors.Times ↦ Same tt refl | factors.Sum o ↦ Other (sum_begins o (λ y. not (is_kind kind.Star y)) refl (λ span. refl)) ];
}

pub terms_form : Form factor_operator sum_operator factors.Sum (λ y. not (is_kind kind.Star y))
terms_form = record {
  first = record { each = elim [ sum.Plus ↦ record { head = Fixed kind.Plus; tail = []; is = refl; first = refl } | sum.Minus span ↦ record { head = Placed kind.Minus span; tail = []; is = refl; first = refl } ] };
  same = λ o. refl;
  each = elim [ factors.Times ↦ Other (record { head = Fixed kind.Star; tail = []; is = refl; first = refl }) | factors.Sum o ↦ Same o refl ];
}

pub factor_operator_piece : Piece factor_operator never (λ _. never)
factor_operator_piece = record { some = factors.Times; each = way }
  where
    way : (o : tree.FactorOperator.FactorOperator) → ReadsOneWay factor_operator never (λ _. never) o
    way factors.Times = form_way times_form (λ _ r h. h) ((fixed_piece kind.Star).each tt)
    way (factors.Sum o) = form_way terms_form (λ _ r h. h) (sum_piece.each o)

pub factor_operator_starts : Starts factor_operator (by_kind joins_factors)
factor_operator_starts = record { each = elim [ factors.Times ↦ record { head = Fixed kind.Star; tail = []; is = refl; first = refl } | factors.Sum o ↦ sum_begins o (by_kind joins_factors) refl (λ span. refl) ] }
