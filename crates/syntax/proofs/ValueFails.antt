-- Where a value fails, by the form of it that fails.
use Rattle.std.proofs.Common.{◌≡◌, Bool, true, false, List, [], ◌∷◌, ◌++◌, Option, Some, sym, refl, ap, ◌∙◌, append_assoc, inl, inr}
use Rattle.std.specs.Prelude.{◌||◌, ◌&&◌, not, ◌⊎◌}
use Rattle.std.proofs.lemmas.Bool.{true≢false}
use Rattle.source.specs.declared.kind.Kind.TheVariants as kind
use Rattle.source.specs.declared.token.Span.{Span}
use Rattle.tree.specs.Symbols.{Symbol, Fixed, Placed, Named, is_kind, by_kind, kind_is, kind_at}
use Rattle.tree.specs.Spelling.{name, optional}
use Rattle.syntax.specs.Reading.{never, Stops, leads, Fails}
use Rattle.tree.specs.Grammar.{scalar_word}
use Rattle.tree.specs.Operators.{Joined, Or}
use Rattle.tree.specs.Expressions.{Target, Variable, Field, ExpressionTree, expression, dot_name}
use Rattle.syntax.specs.ExpressionReads.{expression_on, opens_expression}
use Rattle.tree.specs.Values.{CallTree, MadeTree, NewTree, ValueTree, Struct, Array, Expression, Call, New, arguments, call, made_struct, made_array, made_spelling, new_spelling, value_spelling}
use Rattle.syntax.specs.ValueReads.{value_on, value_at, is_callee, opens_value}
use Rattle.program.specs.declared.types.Scalar.{Scalar}
use Rattle.program.specs.declared.types.Scalar.TheVariants as scalar
use Rattle.syntax.proofs.pieces.Pieces.{Piece, ReadsOneWay, next, via_piece, via_fails, fails_first, fails_after, stops_never, or_right}
use Rattle.syntax.proofs.pieces.Beginnings.{Begins, Starts, splits_self}
use Rattle.syntax.proofs.pieces.Options.{opt_fails}
use Rattle.syntax.proofs.pieces.Choices.{Form, Same, Other, form_way, form_fails}
use Rattle.syntax.proofs.pieces.Words.{words_piece}
use Rattle.syntax.proofs.pieces.KindLemmas.{kinds_apart, kind_leads}
use Rattle.syntax.proofs.pieces.CursorLemmas.{fixed_piece, placed_piece, named_piece}
use Rattle.syntax.proofs.definitions.TypeRules.{scalars}
use Rattle.syntax.proofs.pieces.SharedFronts.{heads, front_fails, both_fail}
use Rattle.syntax.proofs.AtomRules.{target_form, dot_piece}
use Rattle.syntax.proofs.ExpressionFails.{index_piece, expression_piece, expression_starts, expression_apart, unary_fails, atom_fails, dotted_fails}
use Rattle.syntax.proofs.ValueRules.{arguments_piece}
use Rattle.syntax.proofs.ValueForms.{call_piece, call_to, call_from, dot_starts, dot_follows, lifted, lifted_spelled, no_expression, opens_call, no_call, no_member_call, value_only}
use Rattle.lemmas.proofs.Bools.{or_left}

-- made_struct = ID arguments .

abbrev pub struct_to : Span × Span × List ExpressionTree → Span × (Span × List ExpressionTree)
struct_to p = (p.0, (p.1, p.2))

abbrev pub struct_from : Span × (Span × List ExpressionTree) → Span × Span × List ExpressionTree
struct_from p = (p.0, p.1.0, p.1.1)

pub struct_piece : Piece made_struct never (λ _. never)
struct_piece = via_piece struct_to struct_from (λ _. refl) (next named_piece arguments_piece)

-- made_array = scalar "[" expression "]" .

abbrev pub array_to : Scalar × ExpressionTree → Scalar × ExpressionTree
array_to p = (p.0, p.1)

pub array_piece : Piece made_array never (λ _. never)
array_piece = via_piece array_to array_to (λ _. refl) (next (words_piece scalars) index_piece)

-- made = made_struct | made_array .

abbrev of_struct : Span × Span × List ExpressionTree → MadeTree
of_struct p = Struct p.0 p.1 p.2

abbrev of_array : Scalar × ExpressionTree → MadeTree
of_array p = Array p.0 p.1

scalar_not_name : (s : Scalar) → not (kind_is kind.Name (Some (scalar_word s))) ≡ true
scalar_not_name scalar.Int = refl
scalar_not_name scalar.Bool = refl
scalar_not_name scalar.Byte = refl

pub struct_form : Form made_spelling made_struct of_struct (is_kind kind.Name)
struct_form = record {
  first = record { each = λ p. record { head = Named p.0; tail = _; is = refl; first = refl } };
  same = λ p. refl;
  each = elim [ Struct span left given ↦ Same (span, left, given) refl | Array s e ↦ Other (record { head = Fixed (scalar_word s); tail = _; is = refl; first = scalar_not_name s }) ];
}

pub array_form : Form made_spelling made_array of_array (λ y. not (is_kind kind.Name y))
array_form = record {
  first = record { each = λ p. record { head = Fixed (scalar_word p.0); tail = _; is = refl; first = scalar_not_name p.0 } };
  same = λ p. refl;
  each = elim [ Struct span left given ↦ Other (record { head = Named span; tail = _; is = refl; first = refl }) | Array s e ↦ Same (s, e) refl ];
}

pub made_piece : Piece made_spelling never (λ _. never)
made_piece = record { some = of_struct struct_piece.some; each = way }
  where
    way : (m : MadeTree) → ReadsOneWay made_spelling never (λ _. never) m
    way (Struct span left given) = form_way struct_form (λ _ r h. h) (struct_piece.each (span, left, given))
    way (Array s e) = form_way array_form (λ _ r h. h) (array_piece.each (s, e))

-- new = "new" "[" "ExHeap" "]" made .

abbrev pub new_to : NewTree → Span × (Unit {0} × (Unit {0} × (Unit {0} × MadeTree)))
new_to n = (n.word, (tt, (tt, (tt, n.made))))

abbrev pub new_from : Span × (Unit {0} × (Unit {0} × (Unit {0} × MadeTree))) → NewTree
new_from p = record { word = p.0; made = p.1.1.1.1 }

pub new_piece : Piece new_spelling never (λ _. never)
new_piece = via_piece new_to new_from (λ _. refl) (next (placed_piece kind.New) (next (fixed_piece kind.OpenBracket) (next (fixed_piece kind.ExHeap) (next (fixed_piece kind.CloseBracket) made_piece))))

-- value = expression | call | new .

pub value_piece : Piece value_spelling value_on value_at
value_piece = record { some = Call call_piece.some; each = λ x. record { only = value_only new_piece x } }

pub value_starts : Starts value_spelling (by_kind opens_value)
value_starts = record { each = starts }
  where
    starts : (v : ValueTree) → Begins value_spelling (by_kind opens_value) v
    starts (Expression e) =
        let b = expression_starts.each e in
        record { head = b.head; tail = b.tail; is = b.is; first = ap (λ c. c || is_kind kind.New b.head) b.first }
    starts (Call c) = record { head = Named c.name; tail = _; is = refl; first = refl }
    starts (New n) = record { head = Placed kind.New n.word; tail = _; is = refl; first = refl }

pub value_apart : (v : ValueTree) (y : Symbol) → value_on y ≡ false → value_at v y ≡ false
value_apart (Expression e) y h =
    ap (λ b. b || (is_callee e && is_kind kind.OpenParen y)) (expression_apart e y (or_left (expression_on y) (is_kind kind.OpenParen y) h))
    ∙ ap (λ b. is_callee e && b) (or_right (expression_on y) (is_kind kind.OpenParen y) h) ∙ none (is_callee e)
  where
    none : (b : Bool) → (b && false) ≡ false
    none true = refl
    none false = refl
value_apart (Call c) y h = refl
value_apart (New n) y h = refl

-- the first symbol cannot both begin such a part and not begin one
misled : (p : Symbol → Bool) (y : Symbol) (ys t : List Symbol) → y ∷ ys ≡ t → leads p t ≡ true → p y ≡ false → ⊥
misled p y ys t is here none = true≢false (sym here ∙ ap (leads p) (sym is) ∙ none)

-- "new" is next
pub new_fails : {mid new : List Symbol} → leads (is_kind kind.New) mid ≡ true → Fails new_spelling never mid new → Fails value_spelling value_on mid new
new_fails {mid} {new} here h = front_fails New (λ _. refl) (λ y h. refl) [] mid new (is_kind kind.New) new_piece.some (new_spelling new_piece.some) refl here only h
  where
    only : (z : ValueTree) (r t : List Symbol) → Stops value_on r → value_spelling z ++ r ≡ [] ++ t → leads (is_kind kind.New) t ≡ true → (n : NewTree) × (z ≡ New n)
    only (Expression e) r t hr is led =
        let b = expression_starts.each e in
        absurd (misled (is_kind kind.New) b.head (b.tail ++ r) t (ap (λ q. q ++ r) (sym b.is) ∙ is) led (kinds_apart opens_expression kind.New refl b.head b.first))
    only (Call c) r t hr is led = absurd (misled (is_kind kind.New) (Named c.name) _ t is led refl)
    only (New n) r t hr is led = (n, refl)

-- neither "new" nor a name is next
pub plain_fails : {mid new : List Symbol} → leads (λ y. not (by_kind (λ k. kind_is kind.New k || kind_is kind.Name k) y)) mid ≡ true → Fails expression expression_on mid new → Fails value_spelling value_on mid new
plain_fails {mid} {new} here h = front_fails Expression (λ _. refl) (λ y h. or_left (expression_on y) (is_kind kind.OpenParen y) h) [] mid new (λ y. not (by_kind (λ k. kind_is kind.New k || kind_is kind.Name k) y)) expression_piece.some (expression expression_piece.some) refl here only h
  where
    only : (z : ValueTree) (r t : List Symbol) → Stops value_on r → value_spelling z ++ r ≡ [] ++ t → leads (λ y. not (by_kind (λ k. kind_is kind.New k || kind_is kind.Name k) y)) t ≡ true → (e : ExpressionTree) × (z ≡ Expression e)
    only (Expression e) r t hr is led = (e, refl)
    only (Call c) r t hr is led = absurd (misled (λ y. not (by_kind (λ k. kind_is kind.New k || kind_is kind.Name k) y)) (Named c.name) _ t is led refl)
    only (New n) r t hr is led = absurd (misled (λ y. not (by_kind (λ k. kind_is kind.New k || kind_is kind.Name k) y)) (Placed kind.New n.word) _ t is led refl)

new_is_no_name : (n : NewTree) (span : Span) (r t : List Symbol) → new_spelling n ++ r ≡ Named span ∷ t → ⊥
new_is_no_name n span r t is = kinds (heads is)
  where
    kinds : Placed kind.New n.word ≡ Named span → ⊥
    kinds e = cc

-- a call fails after its names
pub call_fails : (mid : List Symbol) {new : List Symbol} (span : Span) (o : Option Span) → leads (is_kind kind.OpenParen) mid ≡ true → Fails call never ((name span ++ optional dot_name o) ++ mid) new → Fails value_spelling value_on ((name span ++ optional dot_name o) ++ mid) new
call_fails mid {new} span o here h = front_fails Call (λ _. refl) (λ y h. refl) (name span ++ optional dot_name o) mid new (is_kind kind.OpenParen) some (arguments (span, [])) (sym (append_assoc (name span) (optional dot_name o) (arguments (span, [])))) here only h
  where
    some : CallTree
    some = record { name = span; member = o; open_paren = span; arguments = [] }

    only : (z : ValueTree) (r t : List Symbol) → Stops value_on r → value_spelling z ++ r ≡ (name span ++ optional dot_name o) ++ t → leads (is_kind kind.OpenParen) t ≡ true → (c : CallTree) × (z ≡ Call c)
    only (Expression e) r t hr is led = absurd (no_expression span o e r t hr is led)
    only (Call c) r t hr is led = (c, refl)
    only (New n) r t hr is led = absurd (new_is_no_name n span r (optional dot_name o ++ t) is)

-- an expression fails after a name
pub named_fails : {mid new : List Symbol} (span : Span) → leads (λ y. not (by_kind opens_call y)) mid ≡ true → Fails expression expression_on (name span ++ mid) new → Fails value_spelling value_on (name span ++ mid) new
named_fails {mid} {new} span here h = front_fails Expression (λ _. refl) (λ y h. or_left (expression_on y) (is_kind kind.OpenParen y) h) (name span) mid new (λ y. not (by_kind opens_call y)) (lifted (Target (Variable span))) [] (lifted_spelled (Target (Variable span))) here only h
  where
    only : (z : ValueTree) (r t : List Symbol) → Stops value_on r → value_spelling z ++ r ≡ name span ++ t → leads (λ y. not (by_kind opens_call y)) t ≡ true → (e : ExpressionTree) × (z ≡ Expression e)
    only (Expression e) r t hr is led = (e, refl)
    only (Call c) r t hr is led = absurd (no_call span c r t is led)
    only (New n) r t hr is led = absurd (new_is_no_name n span r t is)

-- an expression fails after two names
pub member_fails : {mid new : List Symbol} (span member : Span) → leads (λ y. not (is_kind kind.OpenParen y)) mid ≡ true → Fails expression expression_on (name span ++ (dot_name member ++ mid)) new → Fails value_spelling value_on (name span ++ (dot_name member ++ mid)) new
member_fails {mid} {new} span member here h = front_fails Expression (λ _. refl) (λ y h. or_left (expression_on y) (is_kind kind.OpenParen y) h) (name span ++ dot_name member) mid new (λ y. not (is_kind kind.OpenParen y)) (lifted (Target (Field span member))) [] (lifted_spelled (Target (Field span member))) here only h
  where
    only : (z : ValueTree) (r t : List Symbol) → Stops value_on r → value_spelling z ++ r ≡ (name span ++ dot_name member) ++ t → leads (λ y. not (is_kind kind.OpenParen y)) t ≡ true → (e : ExpressionTree) × (z ≡ Expression e)
    only (Expression e) r t hr is led = (e, refl)
    only (Call c) r t hr is led = absurd (no_member_call span member c r t is led)
    only (New n) r t hr is led = absurd (new_is_no_name n span r (dot_name member ++ t) is)

-- no name follows a name and a dot
pub dot_fails : {mid new : List Symbol} (span : Span) → kind_at mid ≡ Some kind.Dot → Fails dot_name never mid new → Fails value_spelling value_on (name span ++ mid) new
dot_fails {mid} {new} span is h = both_fail Expression (λ _. refl) (λ y h. or_left (expression_on y) (is_kind kind.OpenParen y) h) (λ y h. refl) (is_kind kind.Name) refl each in_expression in_call
  where
    in_expression : Fails expression expression_on (name span ++ mid) new
    in_expression = unary_fails (Joined Or) (atom_fails [] (refl, refl) (form_fails target_form refl (dotted_fails span is h)))

    in_call : Fails call never (name span ++ mid) new
    in_call = via_fails call_to call_from (λ _. refl) (fails_after span named_piece (refl, stops_never mid) (fails_first (opt_fails dot_piece dot_starts splits_self (kind_leads kind.Dot mid is) h) arguments_piece dot_follows))

    each : (z : ValueTree) (r t : List Symbol) → value_spelling z ++ r ≡ t → leads (is_kind kind.Name) t ≡ true → ((e : ExpressionTree) × (value_spelling z ≡ expression e)) ⊎ ((c : CallTree) × (value_spelling z ≡ call c))
    each (Expression e) r t e_is led = inl (e, refl)
    each (Call c) r t c_is led = inr (c, refl)
    each (New n) r t n_is led = absurd (misled (is_kind kind.Name) (Placed kind.New n.word) _ t n_is led refl)
