use Rattle.std.proofs.Common.{◌≡◌, ◌∷◌, ◌++◌, Some, None, map, refl, sym, ap, ◌∙◌, subst}
use Rattle.std.specs.List.{flat_map}
use Rattle.std.proofs.lemmas.Bool.{iff_false}
use Rattle.source.specs.declared.kind.Kind.TheVariants as kind
use Rattle.syntax.specs.Reading.{never, Stops}
use Rattle.syntax.proofs.pieces.Exits.{exits}
use Rattle.syntax.proofs.pieces.Pieces.{fails_here, fails_after, fails_first, fails_second, via_fails, wide_fails, next, stops_never}
use Rattle.syntax.proofs.pieces.Repeats.{many_fails}
use Rattle.syntax.proofs.pieces.Choices.{form_fails, form_reads}
use Rattle.syntax.proofs.pieces.Enclosed.{braced_open_fails, braced_fails, braced_close_fails}
use Rattle.syntax.proofs.pieces.KindLemmas.{kind_leads, not_leads, test_leads}
use Rattle.syntax.proofs.pieces.CursorLemmas.{fixed_piece, placed_piece}
use Rattle.tree.specs.ExpressionTrees.{expression_tree}
use Rattle.tree.specs.StatementTrees.{statement_tree, block_tree, case_tree, if_tree, switch_tree, test_tree}
use Rattle.tree.specs.StatementGrammar.{statement, block, test, case}
use Rattle.syntax.specs.StatementParts.{if_parts, if_at, switch_parts, case_front_tree}
use Rattle.syntax.specs.StatementFirsts.{lead_of, opens_statement, statement_on, statement_at, statements_on, statements_at, case_at, cases_on, cases_at}
use Rattle.syntax.specs.declared.leads.Lead.TheVariants as lead
use Rattle.syntax.proofs.CaseRules.{case_front_piece}
use Rattle.syntax.proofs.StatementLeads.{lead_leads, statement_starts}
use Rattle.syntax.proofs.StatementForms.{block_form, plain_form, if_form, while_form, switch_form}
use Rattle.std.specs.Prelude.{is_some}
use Rattle.tree.specs.Symbols.{Fixed}
use Rattle.syntax.proofs.pieces.Beginnings.{begun_shorter}
use Rattle.tree.proofs.StatementTwins.{of_switch}
use Rattle.syntax.proofs.StatementFolds.{rolled_block, rolled_case, rolled_if, rolled_else, rolled_switch, rolled_test}
use Rattle.syntax.proofs.StatementCycle.{block_fails, block_inside, case_fails, case_starts, case_splits, case_leaves, statement_splits, statement_leaves, if_to, if_from, last_form, further_form, switch_to, switch_from, case_follows, cases_follow, test_fails}
use Rattle.syntax.proofs.StatementWays.{statement_piece, statements_piece, block_piece, others_piece, case_piece, cases_piece, cases_end_piece, switch_end_piece}
use Rattle.syntax.proofs.StatementReads.{block_read, case_read, if_fails, if_read, sequence_read, sequence_ended, shorter_more, switch_read, test_read}
use Rattle.syntax.proofs.ExpressionFails.{parens_expression_piece}
use Rattle.syntax.proofs.statements.+statement.Goals as goal

pub block-returns-in_err-expect : goal.block-returns-in_err-expect
block-returns-in_err-expect t c = exits block_tree block never (λ _. never) _ _ _ _ _ c.from_residual.ensures.1 c.in_err-expect.ensures
    (λ h. block_fails (braced_open_fails block_inside statements_piece h))

pub block-returns-in_err-statements : goal.block-returns-in_err-statements
block-returns-in_err-statements t c = exits block_tree block never (λ _. never) _ _ _ _ _ c.from_residual-in_err-statements.ensures.1 c.in_err-statements.ensures
    (λ h. block_fails (braced_fails block_inside c.in_ok-expect.ensures h))

pub block-returns-in_err-close : goal.block-returns-in_err-close
block-returns-in_err-close t c = exits block_tree block never (λ _. never) _ _ _ _ _ c.from_residual-in_err-close.ensures.1 c.in_err-close.ensures
    (λ h. block_fails (braced_close_fails block_inside (map statement_tree c.in_ok-statements.statements.items) statements_piece c.in_ok-expect.ensures c.in_ok-statements.ensures h))

pub block-returns : goal.block-returns
block-returns t c = (
  block_read (map statement_tree c.in_ok-statements.statements.items) c.in_ok-close.close _ (rolled_block (record { statements = c.in_ok-statements.statements; close = c.in_ok-close.close })) c.in_ok-expect.ensures c.in_ok-statements.ensures c.in_ok-close.ensures,
  stops_never _,
)

pub case-returns-in_err-front : goal.case-returns-in_err-front
case-returns-in_err-front t c = exits case_tree case statements_on case_at _ _ _ _ _ c.from_residual.ensures.1 c.in_err-front.ensures
    (λ h. case_fails (fails_here h statements_piece))

pub case-returns-in_err-statements : goal.case-returns-in_err-statements
case-returns-in_err-statements t c = exits case_tree case statements_on case_at _ _ _ _ _ c.from_residual-in_err-statements.ensures.1 c.in_err-statements.ensures
    (λ h. case_fails (fails_after (case_front_tree c.in_ok-front.front) case_front_piece c.in_ok-front.ensures h))

pub case-returns : goal.case-returns
case-returns t c =
    case_read _ _ _ (case_front_tree c.in_ok-front.front) (map statement_tree c.in_ok-statements.statements.items) _
    (rolled_case (record { word = c.in_ok-front.front.word; endpoint = c.in_ok-front.front.endpoint; message = c.in_ok-front.front.message; «open» = c.in_ok-front.front.«open»; binds = c.in_ok-front.front.binds; statements = c.in_ok-statements.statements }))
    c.in_ok-front.ensures c.in_ok-statements.ensures

pub cases-returns-in_err-case : goal.cases-returns-in_err-case
cases-returns-in_err-case t c = exits (λ v. map case_tree v.items) (flat_map case) cases_on cases_at _ _ _ _ _ c.from_residual.ensures.1 c.in_err-case.ensures
    (λ h. many_fails case_piece case_starts case_splits case_leaves (map case_tree c.each.all.items) c.each.invariant.read (kind_leads kind.Case _ (c.each-test.ensures.is.0 refl)) h)

pub cases-each-preserved : goal.cases-each-preserved
cases-each-preserved t c = record {
  read = sequence_read case_tree case c.in_ok-case.field-0 c.each.all.items c.push.new.all.items _ _ _ c.in_ok-push.ensures c.each.invariant.read c.in_ok-case.ensures.0;
  ended = sequence_ended case_tree case_at c.in_ok-case.field-0 c.each.all.items c.push.new.all.items _ c.in_ok-push.ensures c.in_ok-case.ensures.1;
  shorter = shorter_more _ _ _ (begun_shorter (case_tree c.in_ok-case.field-0) _ _ case_starts c.in_ok-case.ensures.0) c.each.invariant.shorter;
}

pub if_statement-returns-in_err-first : goal.if_statement-returns-in_err-first
if_statement-returns-in_err-first t c = exits if_tree if_parts statement_on if_at _ _ _ _ _ c.from_residual.ensures.1 c.in_err-first.ensures
    (λ h. via_fails if_to if_from (λ _. refl) (fails_here h others_piece))

pub if_statement-returns-in_err-block : goal.if_statement-returns-in_err-block
if_statement-returns-in_err-block t c = exits if_tree if_parts statement_on if_at _ _ _ _ _ c.from_residual-in_err-block.ensures.1 c.in_err-block.ensures
    (λ h. if_fails (test_tree c.in_ok-first.first) (map test_tree c.more.others.items) c.more.invariant.read c.more-test.ensures.0 (form_fails last_form (not_leads kind.If _ c.is_next.ensures.some (iff_false c.is_next.ensures.is c.if-not-is_next.true)) (wide_fails (λ y k. refl) h)))

pub if_statement-returns-then-not-is_next : goal.if_statement-returns-then-not-is_next
if_statement-returns-then-not-is_next t c =
    if_read _ _ _ (test_tree c.in_ok-first.first) (map test_tree c.more.others.items) (Some (block_tree c.in_ok-block.field-0)) _ (rolled_else c.in_ok-first.first c.more.others c.in_ok-block.field-0)
    c.more.invariant.read (c.more-test.ensures.0 ∙ ap (λ l. Fixed kind.Else ∷ l) c.in_ok-block.ensures.0) (stops_never _)

pub if_statement-returns-in_err-test : goal.if_statement-returns-in_err-test
if_statement-returns-in_err-test t c = exits if_tree if_parts statement_on if_at _ _ _ _ _ c.from_residual-in_err-test.ensures.1 c.in_err-test.ensures
    (λ h. if_fails (test_tree c.in_ok-first.first) (map test_tree c.more.others.items) c.more.invariant.read c.more-test.ensures.0 (form_fails further_form (kind_leads kind.If _ (c.is_next.ensures.is.0 c.if-not-is_next.false)) (fails_here h others_piece)))

pub if_statement-returns : goal.if_statement-returns
if_statement-returns t c =
    if_read _ _ _ (test_tree c.in_ok-first.first) (map test_tree c.more.others.items) None _ (rolled_if c.in_ok-first.first c.more.others)
    c.more.invariant.read c.more-test.ensures.0 c.more-test.ensures.1

pub statement-returns-in_err-block-in-Block : goal.statement-returns-in_err-block-in-Block
statement-returns-in_err-block-in-Block t c = exits statement_tree statement statement_on statement_at _ _ _ _ _ c.from_residual.ensures.1 c.in_err-block-in-Block.ensures
    (λ h. form_fails block_form (lead_leads lead.Block _ (c.requires ∙ ap (λ l. Some l) c.in-Block.is)) (wide_fails (λ y k. refl) h))

pub statement-returns-in_err-plain-in-Plain : goal.statement-returns-in_err-plain-in-Plain
statement-returns-in_err-plain-in-Plain t c = exits statement_tree statement statement_on statement_at _ _ _ _ _ c.from_residual-in_err-plain-in-Plain.ensures.1 c.in_err-plain-in-Plain.ensures
    (λ h. form_fails plain_form (lead_leads (lead.Plain c.in-Plain.lead) _ (c.requires ∙ ap (λ l. Some l) c.in-Plain.is)) (wide_fails (λ y k. refl) h))

pub statement-returns-in_err-if_statement-in-If : goal.statement-returns-in_err-if_statement-in-If
statement-returns-in_err-if_statement-in-If t c = exits statement_tree statement statement_on statement_at _ _ _ _ _ c.from_residual-in_err-if_statement-in-If.ensures.1 c.in_err-if_statement-in-If.ensures
    (λ h. form_fails if_form (lead_leads lead.If _ (c.requires ∙ ap (λ l. Some l) c.in-If.is)) h)

pub statement-returns-in_err-test-in-While : goal.statement-returns-in_err-test-in-While
statement-returns-in_err-test-in-While t c = exits statement_tree statement statement_on statement_at _ _ _ _ _ c.from_residual-in_err-test-in-While.ensures.1 c.in_err-test-in-While.ensures
    (λ h. form_fails while_form (lead_leads lead.While _ (c.requires ∙ ap (λ l. Some l) c.in-While.is)) (wide_fails (λ y k. refl) h))

pub statement-returns-in_err-switch-in-Switch : goal.statement-returns-in_err-switch-in-Switch
statement-returns-in_err-switch-in-Switch t c = exits statement_tree statement statement_on statement_at _ _ _ _ _ c.from_residual-in_err-switch-in-Switch.ensures.1 c.in_err-switch-in-Switch.ensures
    (λ h. form_fails switch_form (lead_leads lead.Switch _ (c.requires ∙ ap (λ l. Some l) c.in-Switch.is)) (wide_fails (λ y k. refl) h))

pub statement-returns-in_ok-new-in-Switch : goal.statement-returns-in_ok-new-in-Switch
statement-returns-in_ok-new-in-Switch t c =
    let s = c.in_ok-new-in-Switch.field-0 in
    let ended = subst (λ x. c.args.cursor.now ≡ switch_parts (switch_tree x) ++ c.switch.new.cursor) (sym c.in_ok-new-in-Switch.ensures.ok) c.in_ok-switch-in-Switch.ensures.0 in
    (form_reads switch_form (switch_tree s.value) _ _ _ (of_switch s) ended, subst (λ z. Stops (statement_at z) c.switch.new.cursor) (sym (of_switch s)) (stops_never _))

pub statements-returns-in_err-statement : goal.statements-returns-in_err-statement
statements-returns-in_err-statement t c = exits (λ v. map statement_tree v.items) (flat_map statement) statements_on statements_at _ _ _ _ _ c.from_residual.ensures.1 c.in_err-statement.ensures
    (λ h. many_fails statement_piece statement_starts statement_splits statement_leaves (map statement_tree c.each.all.items) c.each.invariant.read
    (test_leads opens_statement c.each.cursor refl (ap is_some (ap lead_of (sym c.peek.ensures.kind) ∙ sym c.lead_of.ensures ∙ c.in-Some.is))) h)

pub statements-each-smaller : goal.statements-each-smaller
statements-each-smaller t c = begun_shorter (statement_tree c.in_ok-statement.field-0) _ _ statement_starts c.in_ok-statement.ensures.0

pub statements-each-preserved : goal.statements-each-preserved
statements-each-preserved t c = record {
  read = sequence_read statement_tree statement c.in_ok-statement.field-0 c.each.all.items c.push.new.all.items _ _ _ c.in_ok-push.ensures c.each.invariant.read c.in_ok-statement.ensures.0;
  ended = sequence_ended statement_tree statement_at c.in_ok-statement.field-0 c.each.all.items c.push.new.all.items _ c.in_ok-push.ensures c.in_ok-statement.ensures.1;
  shorter = shorter_more _ _ _ (begun_shorter (statement_tree c.in_ok-statement.field-0) _ _ statement_starts c.in_ok-statement.ensures.0) c.each.invariant.shorter;
}

pub switch-returns-in_err-word : goal.switch-returns-in_err-word
switch-returns-in_err-word t c = exits switch_tree switch_parts never (λ _. never) _ _ _ _ _ c.from_residual.ensures.1 c.in_err-word.ensures
    (λ h. via_fails switch_to switch_from (λ _. refl) (fails_here h (next (fixed_piece kind.Receive) (next (fixed_piece kind.OpenBrace) switch_end_piece))))

pub switch-returns-in_err-expect : goal.switch-returns-in_err-expect
switch-returns-in_err-expect t c = exits switch_tree switch_parts never (λ _. never) _ _ _ _ _ c.from_residual-in_err-expect.ensures.1 c.in_err-expect.ensures
    (λ h. via_fails switch_to switch_from (λ _. refl) (fails_after c.in_ok-word.word (placed_piece kind.Switch) c.in_ok-word.ensures (fails_here h (next (fixed_piece kind.OpenBrace) switch_end_piece))))

pub switch-returns-in_err-expect-2 : goal.switch-returns-in_err-expect-2
switch-returns-in_err-expect-2 t c = exits switch_tree switch_parts never (λ _. never) _ _ _ _ _ c.from_residual-in_err-expect-2.ensures.1 c.in_err-expect-2.ensures
    (λ h. via_fails switch_to switch_from (λ _. refl) (fails_after c.in_ok-word.word (placed_piece kind.Switch) c.in_ok-word.ensures (fails_after tt (fixed_piece kind.Receive) c.in_ok-expect.ensures (fails_here h switch_end_piece))))

pub switch-returns-in_err-first : goal.switch-returns-in_err-first
switch-returns-in_err-first t c = exits switch_tree switch_parts never (λ _. never) _ _ _ _ _ c.from_residual-in_err-first.ensures.1 c.in_err-first.ensures
    (λ h. via_fails switch_to switch_from (λ _. refl) (fails_after c.in_ok-word.word (placed_piece kind.Switch) c.in_ok-word.ensures (fails_after tt (fixed_piece kind.Receive) c.in_ok-expect.ensures (fails_after tt (fixed_piece kind.OpenBrace) c.in_ok-expect-2.ensures (fails_first h cases_end_piece case_follows)))))

pub switch-returns-in_err-others : goal.switch-returns-in_err-others
switch-returns-in_err-others t c = exits switch_tree switch_parts never (λ _. never) _ _ _ _ _ c.from_residual-in_err-others.ensures.1 c.in_err-others.ensures
    (λ h. via_fails switch_to switch_from (λ _. refl) (fails_after c.in_ok-word.word (placed_piece kind.Switch) c.in_ok-word.ensures (fails_after tt (fixed_piece kind.Receive) c.in_ok-expect.ensures (fails_after tt (fixed_piece kind.OpenBrace) c.in_ok-expect-2.ensures (fails_second (case_tree c.in_ok-first.first) case_piece c.in_ok-first.ensures case_follows (fails_first h (placed_piece kind.CloseBrace) cases_follow))))))

pub switch-returns-in_err-close : goal.switch-returns-in_err-close
switch-returns-in_err-close t c = exits switch_tree switch_parts never (λ _. never) _ _ _ _ _ c.from_residual-in_err-close.ensures.1 c.in_err-close.ensures
    (λ h. via_fails switch_to switch_from (λ _. refl) (fails_after c.in_ok-word.word (placed_piece kind.Switch) c.in_ok-word.ensures (fails_after tt (fixed_piece kind.Receive) c.in_ok-expect.ensures (fails_after tt (fixed_piece kind.OpenBrace) c.in_ok-expect-2.ensures (fails_second (case_tree c.in_ok-first.first) case_piece c.in_ok-first.ensures case_follows (fails_second (map case_tree c.in_ok-others.others.items) cases_piece c.in_ok-others.ensures cases_follow h))))))

pub switch-returns : goal.switch-returns
switch-returns t c = (
  switch_read _ _ _ _ _ _ _ c.in_ok-word.word c.in_ok-close.close (case_tree c.in_ok-first.first) (map case_tree c.in_ok-others.others.items) _
      (rolled_switch (record { word = c.in_ok-word.word; first = c.in_ok-first.first; others = c.in_ok-others.others; close = c.in_ok-close.close }))
      c.in_ok-word.ensures.0 c.in_ok-expect.ensures.0 c.in_ok-expect-2.ensures.0 c.in_ok-first.ensures.0 c.in_ok-others.ensures.0 c.in_ok-close.ensures.0,
  stops_never _,
)

pub test-returns-in_err-word : goal.test-returns-in_err-word
test-returns-in_err-word t c = exits test_tree (test c.args.kind) never (λ _. never) _ _ _ _ _ c.from_residual.ensures.1 c.in_err-word.ensures
    (λ h. test_fails c.args.kind (fails_here h (next parens_expression_piece block_piece)))

pub test-returns-in_err-open : goal.test-returns-in_err-open
test-returns-in_err-open t c = exits test_tree (test c.args.kind) never (λ _. never) _ _ _ _ _ c.from_residual-in_err-open.ensures.1 c.in_err-open.ensures
    (λ h. test_fails c.args.kind (fails_after c.in_ok-word.word (placed_piece c.args.kind) c.in_ok-word.ensures (fails_here h block_piece)))

pub test-returns-in_err-body : goal.test-returns-in_err-body
test-returns-in_err-body t c = exits test_tree (test c.args.kind) never (λ _. never) _ _ _ _ _ c.from_residual-in_err-body.ensures.1 c.in_err-body.ensures
    (λ h. test_fails c.args.kind (fails_after c.in_ok-word.word (placed_piece c.args.kind) c.in_ok-word.ensures (fails_after (c.in_ok-open.open, expression_tree c.in_ok-open.test) parens_expression_piece c.in_ok-open.ensures h)))

pub test-returns : goal.test-returns
test-returns t c = (
  test_read _ _ _ _ c.args.kind c.in_ok-word.word (c.in_ok-open.«open», expression_tree c.in_ok-open.test) (block_tree c.in_ok-body.body) _
      (rolled_test (record { word = c.in_ok-word.word; «open» = c.in_ok-open.«open»; test = c.in_ok-open.test; body = c.in_ok-body.body }))
      c.in_ok-word.ensures.0 c.in_ok-open.ensures.0 c.in_ok-body.ensures.0,
  stops_never _,
)
