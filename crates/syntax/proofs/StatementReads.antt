-- What functions that read statements have read, and where they fail.
use Rattle.std.proofs.Common.{◌≡◌, Bool, true, List, [], ◌∷◌, ◌++◌, Option, refl, sym, ap, ◌∙◌, subst, append_assoc, map, ℕ, ◌<◌, ◌≤◌, arith}
use Rattle.std.specs.List.{flat_map}
use Rattle.source.specs.declared.kind.Kind.{Kind}
use Rattle.source.specs.declared.kind.Kind.TheVariants as kind
use Rattle.source.specs.declared.token.Span.{Span}
use Rattle.tree.specs.Symbols.{Symbol, Fixed, is_kind}
use Rattle.tree.specs.Spelling.{word, token_at, in_braces, parens}
use Rattle.syntax.specs.Reading.{never, Stops, leads, Fails, last_at}
use Rattle.tree.specs.Expressions.{ExpressionTree, expression}
use Rattle.tree.specs.StatementTrees.{StatementTree, BlockTree, TestTree, Test, CaseTree, IfTree, SwitchTree, last_other, other_sequence}
use Rattle.tree.specs.StatementGrammar.{statement, block, test, others, case}
use Rattle.syntax.specs.StatementParts.{if_parts, if_at, switch_parts, CaseFrontTree, case_front}
use Rattle.syntax.specs.StatementFirsts.{statement_on, others_at, statements_at, case_at}
use Rattle.syntax.proofs.pieces.Pieces.{Piece, ReadsOneWay, both_way, via_fails, same_fails, wide_way, fails_after, ends, meets, stops_never}
use Rattle.syntax.proofs.pieces.Options.{open_opt_fails}
use Rattle.syntax.proofs.pieces.Choices.{form_way, form_fails}
use Rattle.syntax.proofs.pieces.CursorLemmas.{fixed_piece}
use Rattle.syntax.proofs.StatementSequences.{sequence_list}
use Rattle.std.proofs.lemmas.List.{flat_map_more, map-append}
use Rattle.syntax.proofs.pieces.Repeats.{last_more}
use Rattle.syntax.proofs.StatementCycle.{block_from, block_spelled, block_there, case_from, case_spelled, case_there, case_parts, OtherTree, Last, Further, behind_else, else_part, else_to, else_from, else_if, other_at, others_to, others_from, others_there, others_spelled, else_starts, else_opens, last_form, further_form, else_way, if_to, if_from}
use Rattle.syntax.proofs.StatementWays.{block_piece, test_piece, others_piece}

-- a block and a case are read if their parts are

pub block_read : {old mid last new : List Symbol} (xs : List StatementTree) (close : Span) (b : BlockTree) → b ≡ block_from (xs, close) → (old ≡ Fixed kind.OpenBrace ∷ mid) × Stops never mid → (mid ≡ flat_map statement xs ++ last) × Stops (statements_at xs) last → (last ≡ token_at kind.CloseBrace close ++ new) × Stops never new → old ≡ block b ++ new
block_read {old} {mid} {last} {new} xs close b is left inner right =
    let spelled : block b ≡ in_braces (flat_map statement) (xs, close) = ap block is ∙ sym (block_spelled (block_from (xs, close))) ∙ ap (in_braces (flat_map statement)) (block_there (xs, close)) in
    left.0 ∙ ap (λ t. Fixed kind.OpenBrace ∷ t) (inner.0 ∙ ap (λ t. flat_map statement xs ++ t) right.0 ∙ sym (append_assoc (flat_map statement xs) (token_at kind.CloseBrace close) new)) ∙ ap (λ t. t ++ new) (sym spelled)

pub case_read : (old mid new : List Symbol) (f : CaseFrontTree) (xs : List StatementTree) (c : CaseTree) → c ≡ case_from (f, xs) → (old ≡ case_front f ++ mid) × Stops never mid → (mid ≡ flat_map statement xs ++ new) × Stops (statements_at xs) new → (old ≡ case c ++ new) × Stops (case_at c) new
case_read old mid new f xs c is front inner =
    let spelled : case c ≡ case_parts (f, xs) = ap case is ∙ sym (case_spelled (case_from (f, xs))) ∙ ap case_parts (case_there (f, xs)) in (
      front.0 ∙ ap (λ t. case_front f ++ t) inner.0 ∙ sym (append_assoc (case_front f) (flat_map statement xs) new) ∙ ap (λ t. t ++ new) (sym spelled),
      subst (λ c. Stops (case_at c) new) (sym is) (subst (λ l. Stops (statements_at l) new) (sym (sequence_list xs)) inner.1),
    )

-- after the first test of an `if`

else_piece : Piece else_part statement_on other_at
else_piece = record { some = Last block_piece.some; each = λ x. else_way x (way x) }
  where
    way : (x : OtherTree) → ReadsOneWay behind_else statement_on other_at x
    way (Last b) = form_way last_form (λ _ r h. h) (wide_way (λ y h. refl) (block_piece.each b))
    way (Further t more) = form_way further_form {x = (t, more)} (λ _ r h. h) (both_way ((test_piece kind.If).each t) (others_piece.each more) ends meets)

else_fails : {old mid new : List Symbol} → old ≡ Fixed kind.Else ∷ mid → Fails behind_else statement_on mid new → Fails others statement_on old new
else_fails {old} {mid} {new} read h =
    same_fails others_spelled (via_fails others_to others_from others_there (open_opt_fails else_piece else_starts else_opens (ap (leads statement_on) read)
    (via_fails else_to else_from (λ _. refl) (fails_after tt (fixed_piece kind.Else) (read, stops_never mid) h))))

test_next : (t : TestTree) (r : List Symbol) → leads (is_kind kind.If) (test kind.If t ++ r) ≡ true
test_next (Test span left e b) r = refl

pub others_fail : {old mid last new : List Symbol} (ts : List TestTree) → old ≡ flat_map else_if ts ++ mid → mid ≡ Fixed kind.Else ∷ last → Fails behind_else statement_on last new → Fails others statement_on old new
others_fail {old} {mid} {last} {new} [] read more h = else_fails (read ∙ more) h
others_fail {old} {mid} {last} {new} (t ∷ ts) read more h =
    let rest : List Symbol = flat_map else_if ts ++ mid in
    else_fails (read ∙ ap (λ l. Fixed kind.Else ∷ l) (append_assoc (test kind.If t) (flat_map else_if ts) mid))
    (form_fails further_form (test_next t rest) (fails_after t (test_piece kind.If) (refl, stops_never rest) (others_fail ts refl more h)))

pub if_fails : {old mid last new : List Symbol} (t : TestTree) (ts : List TestTree) → old ≡ test kind.If t ++ (flat_map else_if ts ++ mid) → mid ≡ Fixed kind.Else ∷ last → Fails behind_else statement_on last new → Fails if_parts statement_on old new
if_fails {old} {mid} {last} {new} t ts read more h = via_fails if_to if_from (λ _. refl) (fails_after t (test_piece kind.If) (read, stops_never (flat_map else_if ts ++ mid)) (others_fail ts refl more h))

sequence_spelled : (ts : List TestTree) (o : Option BlockTree) → others (other_sequence ts o) ≡ flat_map else_if ts ++ others (last_other o)
sequence_spelled [] o = refl
sequence_spelled (t ∷ ts) o = ap (λ l. word kind.Else ++ (test kind.If t ++ l)) (sequence_spelled ts o) ∙ ap (λ l. word kind.Else ++ l) (sym (append_assoc (test kind.If t) (flat_map else_if ts) (others (last_other o))))

sequence_at : (ts : List TestTree) (o : Option BlockTree) → others_at (other_sequence ts o) ≡ others_at (last_other o)
sequence_at [] o = refl
sequence_at (t ∷ ts) o = sequence_at ts o

pub if_read : (old mid new : List Symbol) (t : TestTree) (ts : List TestTree) (o : Option BlockTree) (i : IfTree) → i ≡ record { first = t; others = other_sequence ts o } → old ≡ test kind.If t ++ (flat_map else_if ts ++ mid) → mid ≡ others (last_other o) ++ new → Stops (others_at (last_other o)) new → (old ≡ if_parts i ++ new) × Stops (if_at i) new
if_read old mid new t ts o i is read more ended =
    let tests : List Symbol = flat_map else_if ts in (
      read ∙ ap (λ l. test kind.If t ++ (tests ++ l)) more
          ∙ ap (λ l. test kind.If t ++ l) (sym (append_assoc tests (others (last_other o)) new) ∙ ap (λ l. l ++ new) (sym (sequence_spelled ts o)))
          ∙ sym (append_assoc (test kind.If t) (others (other_sequence ts o)) new) ∙ ap (λ i. if_parts i ++ new) (sym is),
      subst (λ i. Stops (if_at i) new) (sym is) (subst (λ at. Stops at new) (sym (sequence_at ts o)) ended),
    )

-- one more at the end of a sequence

pub sequence_read : {X Y : Type 0} (view : X → Y) (a : Y → List Symbol) (x : X) (xs all : List X) (old mid new : List Symbol) → all ≡ xs ++ x ∷ [] → old ≡ flat_map a (map view xs) ++ mid → mid ≡ a (view x) ++ new → old ≡ flat_map a (map view all) ++ new
sequence_read {X} {Y} view a x xs all old mid new pushed read more =
    let sequence : List Symbol = flat_map a (map view xs) in
    read ∙ ap (λ t. sequence ++ t) more ∙ sym (append_assoc sequence (a (view x)) new)
    ∙ ap (λ t. t ++ new) (flat_map_more a [] (map view xs) (view x) ∙ ap (flat_map a) (sym (map-append view xs (x ∷ []))))
    ∙ ap (λ l. flat_map a (map view l) ++ new) (sym pushed)

pub sequence_ended : {X Y : Type 0} (view : X → Y) (at : Y → Symbol → Bool) (x : X) (xs all : List X) (r : List Symbol) → all ≡ xs ++ x ∷ [] → Stops (at (view x)) r → Stops (last_at at (map view all)) r
sequence_ended {X} {Y} view at x xs all r pushed h =
    let last : last_at at (map view all) ≡ at (view x) =
    ap (λ l. last_at at (map view l)) pushed ∙ ap (last_at at) (map-append view xs (x ∷ [])) ∙ last_more at (map view xs) (view x) in
    subst (λ f. Stops f r) (sym last) h

pub shorter_more : (a b c : ℕ) → a < b → b ≤ c → a ≤ c
shorter_more a b c less le = omega arith

-- a switch is read if its parts are
pub switch_read : (old a b d e f new : List Symbol) (span close : Span) (x : CaseTree) (xs : List CaseTree) (s : SwitchTree) → s ≡ record { word = span; first = x; others = xs; close = close } → old ≡ token_at kind.Switch span ++ a → a ≡ Fixed kind.Receive ∷ b → b ≡ Fixed kind.OpenBrace ∷ d → d ≡ case x ++ e → e ≡ flat_map case xs ++ f → f ≡ token_at kind.CloseBrace close ++ new → old ≡ switch_parts s ++ new
switch_read old a b d e f new span close x xs s is word_is receive_is left first more right =
    let sequence : List Symbol = flat_map case xs in
    let ended : d ≡ (case x ++ (sequence ++ token_at kind.CloseBrace close)) ++ new =
    first ∙ ap (λ t. case x ++ t) (more ∙ ap (λ t. sequence ++ t) right ∙ sym (append_assoc sequence (token_at kind.CloseBrace close) new)) ∙ sym (append_assoc (case x) (sequence ++ token_at kind.CloseBrace close) new) in
    word_is ∙ ap (λ t. token_at kind.Switch span ++ t) (receive_is ∙ ap (λ t. Fixed kind.Receive ∷ t) (left ∙ ap (λ t. Fixed kind.OpenBrace ∷ t) ended))
    ∙ ap (λ s. switch_parts s ++ new) (sym is)

-- a test is read if its parts are
pub test_read : (old mid last new : List Symbol) (opening : Kind) (span : Span) (p : Span × ExpressionTree) (b : BlockTree) (t : TestTree) → t ≡ Test span p.0 p.1 b → old ≡ token_at opening span ++ mid → mid ≡ parens expression p ++ last → last ≡ block b ++ new → old ≡ test opening t ++ new
test_read old mid last new opening span p b t is word_is inner body =
    word_is ∙ ap (λ l. token_at opening span ++ l) (inner ∙ ap (λ l. parens expression p ++ l) body ∙ sym (append_assoc (parens expression p) (block b) new))
    ∙ ap (λ t. test opening t ++ new) (sym is)
