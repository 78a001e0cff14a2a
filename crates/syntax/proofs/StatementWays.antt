-- Each statement is read in one way.
use Rattle.std.proofs.Common.{[], refl, subst}
use Rattle.std.specs.List.{flat_map}
use Rattle.source.specs.declared.kind.Kind.{Kind}
use Rattle.source.specs.declared.kind.Kind.TheVariants as kind
use Rattle.syntax.specs.Reading.{never}
use Rattle.tree.specs.StatementTrees.{StatementTree, Block, Plain, If, While, Switch, StatementTrees, NoStatement, MoreStatements, BlockTree, Braces, TestTree, Test, OtherTrees, NoOther, Else, ElseIf, CaseTree, Case, CaseTrees, NoCase, MoreCases}
use Rattle.tree.specs.StatementGrammar.{statement, block, test, others, case}
use Rattle.syntax.specs.StatementFirsts.{statement_on, others_at, statement_at, statements_on, statements_at, statement_list, case_at, cases_on, cases_at, case_list}
use Rattle.syntax.proofs.pieces.Pieces.{Piece, ReadsOneWay, both, both_way, both_piece, via_way, same_way, wide_way, ends, meets, stops_never}
use Rattle.syntax.proofs.pieces.Repeats.{nil_open_way, cons_open_way, many_open_piece}
use Rattle.syntax.proofs.pieces.Options.{open_none_way, open_some_way}
use Rattle.syntax.proofs.pieces.Choices.{form_way}
use Rattle.syntax.proofs.pieces.Enclosed.{braced_way}
use Rattle.syntax.proofs.pieces.CursorLemmas.{fixed_piece, placed_piece, named_piece}
use Rattle.syntax.proofs.StatementSequences.{case_list_sequence}
use Rattle.syntax.proofs.StatementLeads.{statement_starts}
use Rattle.syntax.proofs.PlainForms.{plain_piece}
use Rattle.syntax.proofs.CaseRules.{case_front_piece}
use Rattle.syntax.proofs.StatementForms.{block_form, plain_form, if_form, while_form, switch_form}
use Rattle.syntax.proofs.StatementCycle.{block_to, block_from, block_back, block_spelled, test_to, test_from, test_back, test_spelled, Last, Further, others_to, others_from, others_back, others_spelled, others_stops, else_starts, else_opens, last_form, further_form, else_way, case_to, case_from, case_back, case_spelled, case_stops, case_starts, statement_splits, statement_leaves, case_splits, case_leaves, block_inside, cases_end, cases_follow, cases_meet, case_follows, case_meets, if_to, if_from, switch_to, switch_from}
use Rattle.syntax.proofs.ExpressionFails.{parens_expression_piece}

mutual
  statement_way : (x : StatementTree) → ReadsOneWay statement statement_on statement_at x
  statement_way (Block b) = form_way block_form (λ _ r _. stops_never r) (wide_way (λ y h. refl) (block_way b))
  statement_way (Plain x) = form_way plain_form (λ _ r _. stops_never r) (wide_way (λ y h. refl) (plain_piece.each x))
  statement_way (If t more) = form_way if_form {x = record { first = t; others = more }} (λ _ r h. h) (via_way if_to if_from (λ _. refl) (both_way (test_way kind.If t) (others_way more) ends meets))
  statement_way (While t) = form_way while_form (λ _ r _. stops_never r) (wide_way (λ y h. refl) (test_way kind.While t))
  statement_way (Switch span first more close) =
      subst (λ m. ReadsOneWay statement statement_on statement_at (Switch span first m close)) (case_list_sequence more)
      (form_way switch_form {x = record { word = span; first = first; others = case_list more; close = close }} (λ _ r _. stops_never r) (wide_way (λ y h. refl) (via_way switch_to switch_from (λ _. refl)
      (both_way ((placed_piece kind.Switch).each span) (both_way ((fixed_piece kind.Receive).each tt) (both_way ((fixed_piece kind.OpenBrace).each tt)
      (both_way (case_way first) (both_way (cases_way more) ((placed_piece kind.CloseBrace).each close) cases_follow cases_meet) case_follows case_meets) ends meets) ends meets) ends meets))))

  statements_way : (xs : StatementTrees) → ReadsOneWay (flat_map statement) statements_on statements_at (statement_list xs)
  statements_way NoStatement = nil_open_way statement_starts statement_splits statement_leaves
  statements_way (MoreStatements x xs) = cons_open_way statement_starts statement_splits statement_leaves (statement_way x) (statements_way xs)

  block_way : (b : BlockTree) → ReadsOneWay block never (λ _. never) b
  block_way (Braces inner close) = same_way block_spelled (λ _ r h. h) (via_way block_to block_from {z = Braces inner close} block_back (braced_way block_inside (statements_way inner)))

  test_way : (opening : Kind) (t : TestTree) → ReadsOneWay (test opening) never (λ _. never) t
  test_way opening (Test span left e b) = same_way (test_spelled opening) (λ _ r h. h) (via_way test_to test_from {z = Test span left e b} test_back (both_way ((placed_piece opening).each span) (both_way (parens_expression_piece.each (left, e)) (block_way b) ends meets) ends meets))

  others_way : (x : OtherTrees) → ReadsOneWay others statement_on others_at x
  others_way NoOther = same_way others_spelled others_stops (via_way others_to others_from {z = NoOther} others_back (open_none_way else_starts else_opens))
  others_way (Else b) = same_way others_spelled others_stops (via_way others_to others_from {z = Else b} others_back (open_some_way else_starts else_opens (else_way (Last b) (form_way last_form (λ _ r h. h) (wide_way (λ y h. refl) (block_way b))))))
  others_way (ElseIf t more) = same_way others_spelled others_stops (via_way others_to others_from {z = ElseIf t more} others_back (open_some_way else_starts else_opens (else_way (Further t more) (form_way further_form {x = (t, more)} (λ _ r h. h) (both_way (test_way kind.If t) (others_way more) ends meets)))))

  case_way : (c : CaseTree) → ReadsOneWay case statements_on case_at c
  case_way (Case span endpoint message left binds inner) =
      same_way case_spelled case_stops (via_way case_to case_from {z = Case span endpoint message left binds inner} case_back
      (both_way (case_front_piece.each (record { word = span; endpoint = endpoint; message = message; open_paren = left; binds = binds })) (statements_way inner) ends meets))

  cases_way : (xs : CaseTrees) → ReadsOneWay (flat_map case) cases_on cases_at (case_list xs)
  cases_way NoCase = nil_open_way case_starts case_splits case_leaves
  cases_way (MoreCases x xs) = cons_open_way case_starts case_splits case_leaves (case_way x) (cases_way xs)

-- statements and what they consist of, as parts of the grammar

pub statement_piece : Piece statement statement_on statement_at
statement_piece = record { some = Block (Braces NoStatement named_piece.some); each = statement_way }

pub statements_piece : Piece (flat_map statement) statements_on statements_at
statements_piece = many_open_piece statement_piece statement_starts statement_splits statement_leaves

pub block_piece : Piece block never (λ _. never)
block_piece = record { some = Braces NoStatement named_piece.some; each = block_way }

pub test_piece : (opening : Kind) → Piece (test opening) never (λ _. never)
test_piece opening = record { some = test_from (named_piece.some, (parens_expression_piece.some, block_piece.some)); each = test_way opening }

pub others_piece : Piece others statement_on others_at
others_piece = record { some = NoOther; each = others_way }

pub case_piece : Piece case statements_on case_at
case_piece = record { some = case_from (case_front_piece.some, []); each = case_way }

pub cases_piece : Piece (flat_map case) cases_on cases_at
cases_piece = many_open_piece case_piece case_starts case_splits case_leaves

pub cases_end_piece : Piece cases_end never (λ _. never)
cases_end_piece = both_piece cases_piece (placed_piece kind.CloseBrace) cases_follow cases_meet

pub switch_end_piece : Piece (both case cases_end) never (λ _. never)
switch_end_piece = both_piece case_piece cases_end_piece case_follows case_meets
