-- Parts of the statements that hold others, each in the form in which it is read.
use Rattle.std.proofs.Common.{◌≡◌, Bool, true, false, List, [], ◌∷◌, ◌++◌, Option, Some, None, refl, sym, ap, ◌∙◌, subst, append_assoc}
use Rattle.std.specs.Prelude.{not, ◌||◌}
use Rattle.std.specs.List.{flat_map}
use Rattle.source.specs.declared.kind.Kind.{Kind}
use Rattle.source.specs.declared.kind.Kind.TheVariants as kind
use Rattle.source.specs.declared.token.Span.{Span}
use Rattle.tree.specs.Symbols.{Symbol, Fixed, Placed, is_kind, by_kind, kind_is}
use Rattle.tree.specs.Spelling.{word, token_at, name, optional, in_braces, comma_list, parens}
use Rattle.syntax.specs.Reading.{never, Stops, Fails, optional_at}
use Rattle.tree.specs.Expressions.{ExpressionTree, expression}
use Rattle.tree.specs.StatementTrees.{StatementTree, If, BlockTree, Braces, TestTree, Test, OtherTrees, NoOther, Else, ElseIf, CaseTree, Case, IfTree, SwitchTree, statement_sequence}
use Rattle.tree.specs.StatementGrammar.{awaited, bind, statement, block, test, others, case}
use Rattle.syntax.specs.StatementParts.{CaseFrontTree, case_front}
use Rattle.syntax.specs.StatementFirsts.{opens_statement, statement_on, others_at, statement_at, statements_on, statements_at, statement_list, case_at, cases_on, cases_at}
use Rattle.syntax.proofs.pieces.Pieces.{Follows, Meets, ReadsOneWay, both, both_way, via_way, via_fails, same_fails, or_right, ends, meets}
use Rattle.syntax.proofs.pieces.Beginnings.{Begins, Starts, Splits, Leaves}
use Rattle.syntax.proofs.pieces.Repeats.{many_stops, sequence_stops}
use Rattle.syntax.proofs.pieces.Options.{Opens}
use Rattle.syntax.proofs.pieces.Choices.{Form, FormOf, Same, Other}
use Rattle.syntax.proofs.pieces.Enclosed.{InBraces}
use Rattle.syntax.proofs.pieces.KindLemmas.{kinds_apart, apart_kinds}
use Rattle.syntax.proofs.pieces.CursorLemmas.{fixed_piece}
use Rattle.syntax.proofs.StatementSequences.{list_sequence, sequence_list, list_spelled}
use Rattle.lemmas.proofs.Bools.{or_left}

-- block = "{" { statement } "}" .

abbrev pub block_to : BlockTree → List StatementTree × Span
block_to (Braces inner close) = (statement_list inner, close)

abbrev pub block_from : List StatementTree × Span → BlockTree
block_from p = Braces (statement_sequence p.0) p.1

pub block_back : (b : BlockTree) → block_from (block_to b) ≡ b
block_back (Braces inner close) = ap (λ t. Braces t close) (list_sequence inner)

pub block_there : (p : List StatementTree × Span) → block_to (block_from p) ≡ p
block_there p = λ i. (sequence_list p.0 i, p.1)

pub block_spelled : (b : BlockTree) → in_braces (flat_map statement) (block_to b) ≡ block b
block_spelled (Braces inner close) = ap (λ t. word kind.OpenBrace ++ (t ++ token_at kind.CloseBrace close)) (list_spelled inner)

pub block_fails : {old new : List Symbol} → Fails (in_braces (flat_map statement)) never old new → Fails block never old new
block_fails {old} {new} h = same_fails block_spelled (via_fails block_to block_from block_there h)

-- test = word "(" expression ")" block .

abbrev pub test_parts : Kind → Span × ((Span × ExpressionTree) × BlockTree) → List Symbol
test_parts opening = both (token_at opening) (both (parens expression) block)

abbrev pub test_to : TestTree → Span × ((Span × ExpressionTree) × BlockTree)
test_to (Test span left e b) = (span, ((left, e), b))

abbrev pub test_from : Span × ((Span × ExpressionTree) × BlockTree) → TestTree
test_from p = Test p.0 p.1.0.0 p.1.0.1 p.1.1

pub test_back : (t : TestTree) → test_from (test_to t) ≡ t
test_back (Test span left e b) = refl

pub test_spelled : (opening : Kind) (t : TestTree) → test_parts opening (test_to t) ≡ test opening t
test_spelled opening (Test span left e b) = refl

pub test_fails : {old new : List Symbol} (opening : Kind) → Fails (test_parts opening) never old new → Fails (test opening) never old new
test_fails {old} {new} opening h = same_fails (test_spelled opening) (via_fails test_to test_from (λ _. refl) h)

-- others = [ "else" ( block | "if" test others ) ] .

pub data OtherTree : Type 0 where
  Last : BlockTree → OtherTree
  Further : TestTree → OtherTrees → OtherTree

abbrev pub behind_else : OtherTree → List Symbol
behind_else (Last b) = block b
behind_else (Further t more) = test kind.If t ++ others more

abbrev pub else_part : OtherTree → List Symbol
else_part x = word kind.Else ++ behind_else x

abbrev pub other_at : OtherTree → Symbol → Bool
other_at (Last b) = never
other_at (Further t more) = others_at more

abbrev pub others_to : OtherTrees → Option OtherTree
others_to NoOther = None
others_to (Else b) = Some (Last b)
others_to (ElseIf t more) = Some (Further t more)

abbrev pub others_from : Option OtherTree → OtherTrees
others_from None = NoOther
others_from (Some (Last b)) = Else b
others_from (Some (Further t more)) = ElseIf t more

pub others_back : (x : OtherTrees) → others_from (others_to x) ≡ x
others_back NoOther = refl
others_back (Else b) = refl
others_back (ElseIf t more) = refl

pub others_there : (o : Option OtherTree) → others_to (others_from o) ≡ o
others_there None = refl
others_there (Some (Last b)) = refl
others_there (Some (Further t more)) = refl

pub others_spelled : (x : OtherTrees) → optional else_part (others_to x) ≡ others x
others_spelled NoOther = refl
others_spelled (Else b) = refl
others_spelled (ElseIf t more) = refl

pub others_stops : (x : OtherTrees) (r : List Symbol) → Stops (others_at x) r → Stops (optional_at statement_on other_at (others_to x)) r
others_stops NoOther r h = h
others_stops (Else b) r h = h
others_stops (ElseIf t more) r h = h

-- "else" "if" test
abbrev pub else_if : TestTree → List Symbol
else_if t = word kind.Else ++ test kind.If t

pub else_starts : Starts else_part statement_on
else_starts = record { each = λ x. record { head = Fixed kind.Else; tail = behind_else x; is = refl; first = refl } }

pub else_opens : Opens statement_on statement_on statement_on
else_opens = record { none = λ y h. h; last = λ y h. h }

pub last_form : Form behind_else block Last (λ y. not (is_kind kind.If y))
last_form = record { first = record { each = first }; same = λ b. refl; each = each }
  where
    first : (b : BlockTree) → Begins block (λ y. not (is_kind kind.If y)) b
    first (Braces inner close) = record { head = Fixed kind.OpenBrace; tail = _; is = refl; first = refl }

    each : (x : OtherTree) → FormOf behind_else Last (λ y. not (is_kind kind.If y)) x
    each (Last b) = Same b refl
    each (Further (Test span left e b) more) = Other (record { head = Placed kind.If span; tail = _; is = refl; first = refl })

abbrev pub of_further : TestTree × OtherTrees → OtherTree
of_further p = Further p.0 p.1

pub further_form : Form behind_else (both (test kind.If) others) of_further (is_kind kind.If)
further_form = record { first = record { each = λ p. first p.0 p.1 }; same = λ p. refl; each = each }
  where
    first : (t : TestTree) (more : OtherTrees) → Begins (both (test kind.If) others) (is_kind kind.If) (t, more)
    first (Test span left e b) more = record { head = Placed kind.If span; tail = _; is = refl; first = refl }

    each : (x : OtherTree) → FormOf behind_else of_further (is_kind kind.If) x
    each (Last (Braces inner close)) = Other (record { head = Fixed kind.OpenBrace; tail = _; is = refl; first = refl })
    each (Further t more) = Same (t, more) refl

abbrev pub else_to : OtherTree → Unit {0} × OtherTree
else_to x = (tt, x)

abbrev pub else_from : Unit {0} × OtherTree → OtherTree
else_from p = p.1

pub else_way : (x : OtherTree) → ReadsOneWay behind_else statement_on other_at x → ReadsOneWay else_part statement_on other_at x
else_way x way = via_way else_to else_from (λ _. refl) (both_way ((fixed_piece kind.Else).each tt) way ends meets)

-- case = case_front { statement } .

abbrev pub case_parts : CaseFrontTree × List StatementTree → List Symbol
case_parts = both case_front (flat_map statement)

abbrev pub case_to : CaseTree → CaseFrontTree × List StatementTree
case_to (Case span endpoint message left binds inner) = (record { word = span; endpoint = endpoint; message = message; open_paren = left; binds = binds }, statement_list inner)

abbrev pub case_from : CaseFrontTree × List StatementTree → CaseTree
case_from p = Case p.0.word p.0.endpoint p.0.message p.0.open_paren p.0.binds (statement_sequence p.1)

pub case_back : (c : CaseTree) → case_from (case_to c) ≡ c
case_back (Case span endpoint message left binds inner) = ap (λ t. Case span endpoint message left binds t) (list_sequence inner)

pub case_there : (p : CaseFrontTree × List StatementTree) → case_to (case_from p) ≡ p
case_there p = λ i. (p.0, sequence_list p.1 i)

pub case_spelled : (c : CaseTree) → case_parts (case_to c) ≡ case c
case_spelled (Case span endpoint message left binds inner) =
    let ended : List Symbol = parens (comma_list bind) (left, binds) in
    ap (λ t. token_at kind.Case span ++ (name endpoint ++ (word kind.Dot ++ t)))
    (append_assoc (awaited message) (ended ++ word kind.Colon) (flat_map statement (statement_list inner))
    ∙ ap (λ t. awaited message ++ t) (append_assoc ended (word kind.Colon) (flat_map statement (statement_list inner)) ∙ ap (λ t. ended ++ (word kind.Colon ++ t)) (list_spelled inner)))

pub case_stops : (c : CaseTree) (r : List Symbol) → Stops (case_at c) r → Stops (statements_at (case_to c).1) r
case_stops (Case span endpoint message left binds inner) r h = h

pub case_fails : {old new : List Symbol} → Fails case_parts statements_on old new → Fails case statements_on old new
case_fails {old} {new} h = same_fails case_spelled (via_fails case_to case_from case_there h)

pub case_starts : Starts case (is_kind kind.Case)
case_starts = record { each = begins }
  where
    begins : (c : CaseTree) → Begins case (is_kind kind.Case) c
    begins (Case span endpoint message left binds inner) = record { head = Placed kind.Case span; tail = _; is = refl; first = refl }

-- the symbols with which sequences of statements and of cases continue

others_apart : (x : OtherTrees) (y : Symbol) → statement_on y ≡ false → others_at x y ≡ false
others_apart NoOther y h = h
others_apart (Else b) y h = refl
others_apart (ElseIf t more) y h = others_apart more y h

statement_apart : (x : StatementTree) (y : Symbol) → statement_on y ≡ false → statement_at x y ≡ false
statement_apart (If t more) y h = others_apart more y h
statement_apart x y h = refl

pub statements_apart : (xs : List StatementTree) (y : Symbol) → statements_on y ≡ false → statements_at xs y ≡ false
statements_apart xs y h = sequence_stops (by_kind opens_statement) statement_at y (or_right (statement_on y) (by_kind opens_statement y) h) (λ x. statement_apart x y (or_left (statement_on y) (by_kind opens_statement y) h)) xs

pub case_apart : (c : CaseTree) (y : Symbol) → statements_on y ≡ false → case_at c y ≡ false
case_apart (Case span endpoint message left binds inner) y h = statements_apart (statement_list inner) y h

pub statement_splits : Splits (by_kind opens_statement) statement_on statements_on
statement_splits = record { none = λ y h. or_right (statement_on y) (by_kind opens_statement y) h; last = λ y h. or_left (statement_on y) (by_kind opens_statement y) h; apart = kinds_apart opens_statement kind.Else refl }

pub statement_leaves : Leaves statement_at (by_kind opens_statement)
statement_leaves = record { apart = λ x y h. statement_apart x y (kinds_apart opens_statement kind.Else refl y h) }

case_free : (y : Symbol) → is_kind kind.Case y ≡ true → statements_on y ≡ false
case_free y h = ap (λ b. b || by_kind opens_statement y) (apart_kinds (kind_is kind.Else) kind.Case refl y h) ∙ apart_kinds opens_statement kind.Case refl y h

pub case_splits : Splits (is_kind kind.Case) statements_on cases_on
case_splits = record { none = λ y h. or_right (statements_on y) (is_kind kind.Case y) h; last = λ y h. or_left (statements_on y) (is_kind kind.Case y) h; apart = case_free }

pub case_leaves : Leaves case_at (is_kind kind.Case)
case_leaves = record { apart = λ c y h. case_apart c y (case_free y h) }

pub block_inside : InBraces (flat_map statement) statements_on statements_at
block_inside = record { on = λ _. refl; here = λ xs span. statements_apart xs (Placed kind.CloseBrace span) refl }

-- { case } "}"

abbrev pub cases_end : List CaseTree × Span → List Symbol
cases_end = both (flat_map case) (token_at kind.CloseBrace)

pub cases_follow : Follows cases_on (token_at kind.CloseBrace) never
cases_follow = record { each = λ span r h. refl }

pub cases_meet : Meets cases_at (token_at kind.CloseBrace) (λ _. never)
cases_meet = record { here = λ cs span r h. sequence_stops (is_kind kind.Case) case_at (Placed kind.CloseBrace span) refl (λ c. case_apart c (Placed kind.CloseBrace span) refl) cs }

cases_stop : (p : List CaseTree × Span) (r : List Symbol) → Stops statements_on (cases_end p ++ r)
cases_stop p r = subst (Stops statements_on) (sym (append_assoc (flat_map case p.0) (token_at kind.CloseBrace p.1) r)) (many_stops case_starts case_splits case_leaves p.0 (token_at kind.CloseBrace p.1 ++ r) refl)

pub case_follows : Follows statements_on cases_end never
case_follows = record { each = λ p r h. cases_stop p r }

stops_case : (c : CaseTree) (ys : List Symbol) → Stops statements_on ys → Stops (case_at c) ys
stops_case c [] h = tt
stops_case c (y ∷ ys) h = case_apart c y h

pub case_meets : Meets case_at cases_end (λ _. never)
case_meets = record { here = λ c p r h. stops_case c (cases_end p ++ r) (cases_stop p r) }

-- if = "if" test others .

abbrev pub if_to : IfTree → TestTree × OtherTrees
if_to i = (i.first, i.others)

abbrev pub if_from : TestTree × OtherTrees → IfTree
if_from p = record { first = p.0; others = p.1 }

-- switch = "switch" "receive" "{" case { case } "}" .

abbrev pub switch_to : SwitchTree → Span × (Unit {0} × (Unit {0} × (CaseTree × (List CaseTree × Span))))
switch_to s = (s.word, (tt, (tt, (s.first, (s.others, s.close)))))

abbrev pub switch_from : Span × (Unit {0} × (Unit {0} × (CaseTree × (List CaseTree × Span)))) → SwitchTree
switch_from p = record { word = p.0; first = p.1.1.1.0; others = p.1.1.1.1.0; close = p.1.1.1.1.1 }
