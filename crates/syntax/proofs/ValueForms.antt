-- Values as parts of the grammar: a call and an expression may begin alike.
use Rattle.std.proofs.Common.{◌≡◌, Bool, true, List, [], ◌∷◌, ◌++◌, Option, Some, None, sym, refl, ap, ◌∙◌, subst, append_assoc}
use Rattle.std.specs.Prelude.{◌||◌, ◌&&◌, not}
use Rattle.std.proofs.lemmas.Bool.{true≢false}
use Rattle.source.specs.declared.kind.Kind.{Kind}
use Rattle.source.specs.declared.kind.Kind.TheVariants as kind
use Rattle.source.specs.declared.token.Span.{Span}
use Rattle.tree.specs.Symbols.{Symbol, Fixed, Placed, Named, is_kind, by_kind, kind_is}
use Rattle.tree.specs.Spelling.{name, optional}
use Rattle.syntax.specs.Reading.{never, Stops, leads, Fails, optional_at}
use Rattle.tree.specs.Operators.{Or, And, Equal, Compare, Add, Multiply}
use Rattle.syntax.specs.OperatorReads.{after_expression}
use Rattle.tree.specs.Expressions.{AtomTree, Unary, Chain, Done, Target, Variable, Field, ExpressionTree, atom, expression, dot_name}
use Rattle.syntax.specs.ExpressionReads.{expression_on, expression_at, opens_expression}
use Rattle.tree.specs.Values.{CallTree, NewTree, ValueTree, Expression, Call, New, arguments, call, new_spelling, value_spelling}
use Rattle.syntax.specs.ValueReads.{value_on, value_at, is_callee}
use Rattle.syntax.proofs.pieces.Pieces.{Piece, next, via_piece, via_fails, fails_after, fails_second, stops_with, stops_never, or_right, both_piece, Follows, Meets}
use Rattle.syntax.proofs.pieces.Beginnings.{Starts, splits_self, stops_leads}
use Rattle.syntax.proofs.pieces.Options.{opt_piece}
use Rattle.syntax.proofs.pieces.KindLemmas.{apart_kinds}
use Rattle.syntax.proofs.pieces.CursorLemmas.{named_piece}
use Rattle.syntax.proofs.pieces.SharedFronts.{append_nil, heads, tails}
use Rattle.syntax.proofs.AtomRules.{dot_piece}
use Rattle.syntax.proofs.ExpressionRules.{level_way}
use Rattle.syntax.proofs.ExpressionFails.{expression_piece, expression_starts, expression_apart}
use Rattle.syntax.proofs.ValueRules.{arguments_piece}
use Rattle.lemmas.proofs.Bools.{or_left}

-- call = ID [ "." ID ] arguments .

abbrev pub call_to : CallTree → Span × (Option Span × (Span × List ExpressionTree))
call_to c = (c.name, (c.member, (c.open_paren, c.arguments)))

abbrev pub call_from : Span × (Option Span × (Span × List ExpressionTree)) → CallTree
call_from p = record { name = p.0; member = p.1.0; open_paren = p.1.1.0; arguments = p.1.1.1 }

pub dot_starts : Starts dot_name (is_kind kind.Dot)
dot_starts = record { each = λ span. record { head = Fixed kind.Dot; tail = name span; is = refl; first = refl } }

pub maybe_dot_piece : Piece (optional dot_name) (is_kind kind.Dot) (optional_at (is_kind kind.Dot) (λ _. never))
maybe_dot_piece = opt_piece dot_piece dot_starts splits_self

pub dot_follows : Follows (is_kind kind.Dot) arguments never
dot_follows = record { each = λ p r h. refl }

pub dot_meets : Meets {X = Option Span} (optional_at (is_kind kind.Dot) (λ _. never)) arguments (λ _. never)
dot_meets = record { here = elim [ None ↦ λ p r h. refl | Some span ↦ λ p r h. refl ] }

pub call_piece : Piece call never (λ _. never)
call_piece = via_piece call_to call_from (λ _. refl) (next named_piece (both_piece maybe_dot_piece arguments_piece dot_follows dot_meets))

-- an atom as an expression

abbrev pub lifted : AtomTree → ExpressionTree
lifted a = Chain Or (Chain And (Chain Equal (Chain Compare (Chain Add (Chain Multiply (Unary [] a) (Done Multiply)) (Done Add)) (Done Compare)) (Done Equal)) (Done And)) (Done Or)

pub lifted_spelled : (a : AtomTree) → expression (lifted a) ≡ atom a
lifted_spelled a =
    append_nil (((((atom a ++ []) ++ []) ++ []) ++ []) ++ []) ∙ append_nil ((((atom a ++ []) ++ []) ++ []) ++ []) ∙ append_nil (((atom a ++ []) ++ []) ++ [])
    ∙ append_nil ((atom a ++ []) ++ []) ∙ append_nil (atom a ++ []) ∙ append_nil (atom a)

-- the names of a call, as an expression
abbrev callee : Span → Option Span → AtomTree
callee span None = Target (Variable span)
callee span (Some member) = Target (Field span member)

callee_spelled : (span : Span) (o : Option Span) → atom (callee span o) ≡ name span ++ optional dot_name o
callee_spelled span None = refl
callee_spelled span (Some member) = refl

callee_is : (span : Span) (o : Option Span) → is_callee (lifted (callee span o)) ≡ true
callee_is span None = refl
callee_is span (Some member) = refl

-- no other expression has this spelling, if neither continues
alone : (a : AtomTree) (e : ExpressionTree) (r t : List Symbol) → Stops expression_on t → Stops (expression_at e) r → expression e ++ r ≡ atom a ++ t → (lifted a ≡ e) × (t ≡ r)
alone a e r t ht hr is = (level_way (lifted a)).only e t r ht hr (ap (λ s. s ++ t) (lifted_spelled a) ∙ sym is)

paren_stops : (t : List Symbol) → leads (is_kind kind.OpenParen) t ≡ true → Stops expression_on t
paren_stops [] h = tt
paren_stops (y ∷ t) h = apart_kinds after_expression kind.OpenParen refl y h

value_stops : (r : List Symbol) → Stops value_on r → Stops expression_on r
value_stops = stops_with value_on expression_on (λ y h. or_left (expression_on y) (is_kind kind.OpenParen y) h)

no_paren : (r : List Symbol) → Stops value_on r → leads (is_kind kind.OpenParen) r ≡ true → ⊥
no_paren r hr h = stops_leads (is_kind kind.OpenParen) r h (stops_with value_on (is_kind kind.OpenParen) (λ y h. or_right (expression_on y) (is_kind kind.OpenParen y) h) r hr)

ends_expression : (e : ExpressionTree) (r : List Symbol) → Stops expression_on r → Stops (expression_at e) r
ends_expression e = stops_with expression_on (expression_at e) (λ y h. expression_apart e y h)

-- after the names of a call, "(" begins its arguments

pub no_expression : (span : Span) (o : Option Span) (e : ExpressionTree) (r t : List Symbol) → Stops value_on r → expression e ++ r ≡ (name span ++ optional dot_name o) ++ t → leads (is_kind kind.OpenParen) t ≡ true → ⊥
no_expression span o e r t hr is here =
    let one = alone (callee span o) e r t (paren_stops t here) (ends_expression e r (value_stops r hr)) (is ∙ ap (λ s. s ++ t) (sym (callee_spelled span o))) in
    no_paren r hr (subst (λ s. leads (is_kind kind.OpenParen) s ≡ true) one.1 here)

-- whether a token after a name shows that the name is a call's, or may be
abbrev pub opens_call : Option Kind → Bool
opens_call k = kind_is kind.OpenParen k || kind_is kind.Dot k

call_split : (c : CallTree) (r : List Symbol) → call c ++ r ≡ Named c.name ∷ (optional dot_name c.member ++ (arguments (c.open_paren, c.arguments) ++ r))
call_split c r = ap (λ t. Named c.name ∷ t) (append_assoc (optional dot_name c.member) (arguments (c.open_paren, c.arguments)) r)

pub no_call : (span : Span) (c : CallTree) (r t : List Symbol) → call c ++ r ≡ name span ++ t → leads (λ y. not (by_kind opens_call y)) t ≡ true → ⊥
no_call span c r t is here = none c.member (tails (sym (call_split c r) ∙ is))
  where
    none : (o : Option Span) → optional dot_name o ++ (arguments (c.open_paren, c.arguments) ++ r) ≡ t → ⊥
    none None e = true≢false (sym here ∙ ap (leads (λ y. not (by_kind opens_call y))) (sym e))
    none (Some member) e = true≢false (sym here ∙ ap (leads (λ y. not (by_kind opens_call y))) (sym e))

pub no_member_call : (span member : Span) (c : CallTree) (r t : List Symbol) → call c ++ r ≡ (name span ++ dot_name member) ++ t → leads (λ y. not (is_kind kind.OpenParen y)) t ≡ true → ⊥
no_member_call span member c r t is here = none c.member (tails (sym (call_split c r) ∙ is))
  where
    kinds : Fixed kind.Dot ≡ Placed kind.OpenParen c.open_paren → ⊥
    kinds e = cc

    none : (o : Option Span) → optional dot_name o ++ (arguments (c.open_paren, c.arguments) ++ r) ≡ Fixed kind.Dot ∷ (Named member ∷ t) → ⊥
    none None e = kinds (sym (heads e))
    none (Some other) e = true≢false (sym here ∙ ap (leads (λ y. not (is_kind kind.OpenParen y))) (sym (tails (tails e))))

-- each value is read in one way

not_new : (e : ExpressionTree) (n : NewTree) (r s : List Symbol) → expression e ++ r ≡ new_spelling n ++ s → ⊥
not_new e n r s is =
    let b = expression_starts.each e in
    let front : b.head ∷ (b.tail ++ r) ≡ new_spelling n ++ s = ap (λ t. t ++ r) (sym b.is) ∙ is in
    true≢false (sym b.first ∙ ap (by_kind opens_expression) (heads front))

not_call_new : (c : CallTree) (n : NewTree) (r s : List Symbol) → call c ++ r ≡ new_spelling n ++ s → ⊥
not_call_new c n r s is = kinds (heads is)
  where
    kinds : Named c.name ≡ Placed kind.New n.word → ⊥
    kinds e = cc

names_of : (c : CallTree) (r : List Symbol) → call c ++ r ≡ atom (callee c.name c.member) ++ (arguments (c.open_paren, c.arguments) ++ r)
names_of c r = call_split c r ∙ sym (append_assoc (name c.name) (optional dot_name c.member) (arguments (c.open_paren, c.arguments) ++ r)) ∙ ap (λ t. t ++ (arguments (c.open_paren, c.arguments) ++ r)) (sym (callee_spelled c.name c.member))

call_alone : (c : CallTree) (e : ExpressionTree) (r s : List Symbol) → Stops (expression_at e) r → expression e ++ r ≡ call c ++ s → (lifted (callee c.name c.member) ≡ e) × (arguments (c.open_paren, c.arguments) ++ s ≡ r)
call_alone c e r s hr is = alone (callee c.name c.member) e r (arguments (c.open_paren, c.arguments) ++ s) refl hr (is ∙ names_of c s)

value_expression_ends : (e : ExpressionTree) (r : List Symbol) → Stops (value_at (Expression e)) r → Stops (expression_at e) r
value_expression_ends e = stops_with (value_at (Expression e)) (expression_at e) (λ y h. or_left (expression_at e y) (is_callee e && is_kind kind.OpenParen y) h)

callee_ends : (e : ExpressionTree) (r : List Symbol) → is_callee e ≡ true → leads (is_kind kind.OpenParen) r ≡ true → Stops (value_at (Expression e)) r → ⊥
callee_ends e [] is here h = true≢false (sym here)
callee_ends e (y ∷ r) is here h = true≢false (sym (ap (λ b. b && is_kind kind.OpenParen y) is ∙ here) ∙ or_right (expression_at e y) (is_callee e && is_kind kind.OpenParen y) h)

pub value_only : (new_piece : Piece new_spelling never (λ _. never)) (x y : ValueTree) (r s : List Symbol) → Stops value_on r → Stops (value_at y) s → value_spelling x ++ r ≡ value_spelling y ++ s → (x ≡ y) × (r ≡ s)
value_only new_piece (Expression e) (Expression f) r s hr hs is =
    let u = (expression_piece.each e).only f r s (value_stops r hr) (value_expression_ends f s hs) is in
    (ap (λ e. Expression e) u.0, u.1)
value_only new_piece (Expression e) (Call c) r s hr hs is =
    let u = call_alone c e r s (ends_expression e r (value_stops r hr)) is in
    absurd (no_paren r hr (ap (leads (is_kind kind.OpenParen)) (sym u.1)))
value_only new_piece (Expression e) (New n) r s hr hs is = absurd (not_new e n r s is)
value_only new_piece (Call c) (Expression e) r s hr hs is =
    let u = call_alone c e s r (value_expression_ends e s hs) (sym is) in
    absurd (callee_ends e s (ap is_callee (sym u.0) ∙ callee_is c.name c.member) (ap (leads (is_kind kind.OpenParen)) (sym u.1)) hs)
value_only new_piece (Call c) (Call d) r s hr hs is =
    let u = (call_piece.each c).only d r s (stops_never r) (stops_never s) is in
    (ap (λ c. Call c) u.0, u.1)
value_only new_piece (Call c) (New n) r s hr hs is = absurd (not_call_new c n r s is)
value_only new_piece (New n) (Expression e) r s hr hs is = absurd (not_new e n s r (sym is))
value_only new_piece (New n) (Call c) r s hr hs is = absurd (not_call_new c n s r (sym is))
value_only new_piece (New n) (New m) r s hr hs is =
    let u = (new_piece.each n).only m r s (stops_never r) (stops_never s) is in
    (ap (λ n. New n) u.0, u.1)

-- a call fails if its arguments do

dot_taken : (o : Option Span) (mid : List Symbol) → leads (is_kind kind.OpenParen) mid ≡ true → Stops (optional_at (is_kind kind.Dot) (λ _. never) o) mid
dot_taken None [] h = tt
dot_taken None (y ∷ mid) h = apart_kinds (kind_is kind.Dot) kind.OpenParen refl y h
dot_taken (Some span) mid h = stops_never mid

pub arguments_fail : {mid new : List Symbol} (span : Span) (o : Option Span) → leads (is_kind kind.OpenParen) mid ≡ true → Fails arguments never mid new → Fails call never (name span ++ (optional dot_name o ++ mid)) new
arguments_fail {mid} {new} span o here h = via_fails call_to call_from (λ _. refl) (fails_after span named_piece (refl, stops_never (optional dot_name o ++ mid)) (fails_second o maybe_dot_piece (refl, dot_taken o mid here) dot_follows h))
