-- Targets, atoms and prefixes by their forms.
use Rattle.std.proofs.Common.{◌≡◌, Bool, true, List, [], ◌++◌, Option, Some, None, refl, ap, ◌∙◌}
use Rattle.std.specs.Prelude.{◌||◌, not}
use Rattle.std.specs.List.{flat_map}
use Rattle.source.specs.declared.kind.Kind.{Kind}
use Rattle.source.specs.declared.kind.Kind.TheVariants as kind
use Rattle.source.specs.declared.token.Span.{Span}
use Rattle.tree.specs.Symbols.{Symbol, Fixed, Placed, Named, is_kind, by_kind, kind_at, kind_is}
use Rattle.tree.specs.Spelling.{word, token_at, name, within, parens, optional}
use Rattle.syntax.specs.Reading.{never, Stops, leads, optional_at}
use Rattle.tree.specs.Operators.{Or, Single, Joined, prefix}
use Rattle.syntax.specs.OperatorReads.{opens_prefix, opens_rest}
use Rattle.tree.specs.Expressions.{LevelTree, AtomTree, TargetTree, Unary, Number, True, False, Target, Parens, Variable, Field, Element, ExpressionTree, level, atom, target, expression, dot_name}
use Rattle.syntax.specs.ExpressionReads.{level_on, level_at, target_at, atom_at}
use Rattle.tree.specs.declared.expression.Prefix.{Prefix}
use Rattle.syntax.proofs.pieces.Pieces.{Piece, Follows, Meets, via_piece, next, stops_with}
use Rattle.syntax.proofs.pieces.Beginnings.{Begins, Starts, splits_self}
use Rattle.syntax.proofs.pieces.Repeats.{many_piece}
use Rattle.syntax.proofs.pieces.Choices.{Form, Same, Other}
use Rattle.syntax.proofs.pieces.Enclosed.{InParens, InBrackets}
use Rattle.syntax.proofs.pieces.KindLemmas.{kind_other, other_leads}
use Rattle.syntax.proofs.pieces.CursorLemmas.{fixed_piece, named_piece}
use Rattle.syntax.proofs.OperatorRules.{prefix_piece, prefix_starts}
use Rattle.syntax.proofs.LevelRules.{level_wide}

-- an expression in brackets

pub in_parens : InParens expression (level_on (Joined Or)) level_at
in_parens = record { on = refl; here = λ x. level_wide x (Fixed kind.CloseParen) refl }

pub in_brackets : InBrackets expression (level_on (Joined Or)) level_at
in_brackets = record { on = refl; here = λ x. level_wide x (Fixed kind.CloseBracket) refl }

-- dot_name = "." ID .

abbrev pub dot_to : Span → Unit {0} × Span
dot_to span = (tt, span)

abbrev pub dot_from : Unit {0} × Span → Span
dot_from p = p.1

pub dot_piece : Piece dot_name never (λ _. never)
dot_piece = via_piece dot_to dot_from (λ _. refl) (next (fixed_piece kind.Dot) named_piece)

-- after the name of a target: "." ID or "[" expression "]"

pub data Rest : Type 0 where
  Dotted : Span → Rest
  Indexed : ExpressionTree → Rest

abbrev pub index : ExpressionTree → List Symbol
index = within kind.OpenBracket expression kind.CloseBracket

abbrev pub rest : Rest → List Symbol
rest (Dotted span) = dot_name span
rest (Indexed e) = index e

pub dotted_form : Form rest dot_name Dotted (is_kind kind.Dot)
dotted_form = record {
  first = record { each = λ span. record { head = Fixed kind.Dot; tail = name span; is = refl; first = refl } };
  same = λ span. refl;
  each = elim [ Dotted span ↦ Same span refl | Indexed e ↦ Other (record { head = Fixed kind.OpenBracket; tail = expression e ++ word kind.CloseBracket; is = refl; first = refl }) ];
}

pub indexed_form : Form rest index Indexed (is_kind kind.OpenBracket)
indexed_form = record {
  first = record { each = λ e. record { head = Fixed kind.OpenBracket; tail = expression e ++ word kind.CloseBracket; is = refl; first = refl } };
  same = λ e. refl;
  each = elim [ Dotted span ↦ Other (record { head = Fixed kind.Dot; tail = name span; is = refl; first = refl }) | Indexed e ↦ Same e refl ];
}

pub rest_starts : Starts rest (by_kind opens_rest)
rest_starts = record {
  each = elim [
    | Dotted span ↦ record { head = Fixed kind.Dot; tail = name span; is = refl; first = refl }
    | Indexed e ↦ record { head = Fixed kind.OpenBracket; tail = expression e ++ word kind.CloseBracket; is = refl; first = refl }
  ];
}

abbrev pub target_to : TargetTree → Span × Option Rest
target_to (Variable variable) = (variable, None)
target_to (Field variable field) = (variable, Some (Dotted field))
target_to (Element variable e) = (variable, Some (Indexed e))

abbrev pub target_made : Span → Option Rest → TargetTree
target_made variable None = Variable variable
target_made variable (Some (Dotted field)) = Field variable field
target_made variable (Some (Indexed e)) = Element variable e

abbrev pub target_from : Span × Option Rest → TargetTree
target_from p = target_made p.0 p.1

abbrev pub named_rest : Span × Option Rest → List Symbol
named_rest p = name p.0 ++ optional rest p.1

abbrev pub rest_at : Option Rest → Symbol → Bool
rest_at = optional_at (by_kind opens_rest) (λ _. never)

pub target_back : (t : TargetTree) → target_from (target_to t) ≡ t
target_back (Variable variable) = refl
target_back (Field variable field) = refl
target_back (Element variable e) = refl

pub target_there : (p : Span × Option Rest) → target_to (target_from p) ≡ p
target_there p = there p.0 p.1
  where
    there : (variable : Span) (o : Option Rest) → target_to (target_made variable o) ≡ (variable, o)
    there variable None = refl
    there variable (Some (Dotted field)) = refl
    there variable (Some (Indexed e)) = refl

pub target_spelled : (t : TargetTree) → named_rest (target_to t) ≡ target t
target_spelled (Variable variable) = refl
target_spelled (Field variable field) = refl
target_spelled (Element variable e) = refl

pub target_stops : (t : TargetTree) (r : List Symbol) → Stops (target_at t) r → Stops (rest_at (target_to t).1) r
target_stops (Variable variable) r h = h
target_stops (Field variable field) r h = h
target_stops (Element variable e) r h = h

-- the forms of an atom, each known by its first token

target_begins : (t : TargetTree) (starts : Symbol → Bool) → ((span : Span) → starts (Named span) ≡ true) → Begins target starts t
target_begins (Variable variable) starts h = record { head = Named variable; tail = []; is = refl; first = h variable }
target_begins (Field variable field) starts h = record { head = Named variable; tail = dot_name field; is = refl; first = h variable }
target_begins (Element variable e) starts h = record { head = Named variable; tail = index e; is = refl; first = h variable }

named_atom : (t : TargetTree) (starts : Symbol → Bool) → ((span : Span) → starts (Named span) ≡ true) → Begins atom starts (Target t)
named_atom t starts h =
    let b = target_begins t starts h in
    record { head = b.head; tail = b.tail; is = b.is; first = b.first }

abbrev pub of_parens : Span × ExpressionTree → AtomTree
of_parens p = Parens p.0 p.1

-- whether an atom other than a number begins with this token
abbrev pub opens_other_atom : Option Kind → Bool
opens_other_atom k = ((kind_is kind.Name k || kind_is kind.OpenParen k) || kind_is kind.True k) || kind_is kind.False k

pub number_form : Form atom (token_at kind.Number) Number (λ y. not (by_kind opens_other_atom y))
number_form = record {
  first = record { each = λ span. record { head = Placed kind.Number span; tail = []; is = refl; first = refl } };
  same = λ span. refl;
  each = elim [
    | Number span ↦ Same span refl
    | True span ↦ Other (record { head = Placed kind.True span; tail = []; is = refl; first = refl })
    | False span ↦ Other (record { head = Placed kind.False span; tail = []; is = refl; first = refl })
    | Target t ↦ Other (named_atom t (λ y. not (not (by_kind opens_other_atom y))) (λ span. refl))
    | Parens left inner ↦ Other (record { head = Placed kind.OpenParen left; tail = expression inner ++ word kind.CloseParen; is = refl; first = refl })
  ];
}

pub true_form : Form atom (token_at kind.True) True (is_kind kind.True)
true_form = record {
  first = record { each = λ span. record { head = Placed kind.True span; tail = []; is = refl; first = refl } };
  same = λ span. refl;
  each = elim [
    | Number span ↦ Other (record { head = Placed kind.Number span; tail = []; is = refl; first = refl })
    | True span ↦ Same span refl
    | False span ↦ Other (record { head = Placed kind.False span; tail = []; is = refl; first = refl })
    | Target t ↦ Other (named_atom t (λ y. not (is_kind kind.True y)) (λ span. refl))
    | Parens left inner ↦ Other (record { head = Placed kind.OpenParen left; tail = expression inner ++ word kind.CloseParen; is = refl; first = refl })
  ];
}

pub false_form : Form atom (token_at kind.False) False (is_kind kind.False)
false_form = record {
  first = record { each = λ span. record { head = Placed kind.False span; tail = []; is = refl; first = refl } };
  same = λ span. refl;
  each = elim [
    | Number span ↦ Other (record { head = Placed kind.Number span; tail = []; is = refl; first = refl })
    | True span ↦ Other (record { head = Placed kind.True span; tail = []; is = refl; first = refl })
    | False span ↦ Same span refl
    | Target t ↦ Other (named_atom t (λ y. not (is_kind kind.False y)) (λ span. refl))
    | Parens left inner ↦ Other (record { head = Placed kind.OpenParen left; tail = expression inner ++ word kind.CloseParen; is = refl; first = refl })
  ];
}

pub target_form : Form atom target Target (is_kind kind.Name)
target_form = record {
  first = record { each = λ t. target_begins t (is_kind kind.Name) (λ span. refl) };
  same = λ t. refl;
  each = elim [
    | Number span ↦ Other (record { head = Placed kind.Number span; tail = []; is = refl; first = refl })
    | True span ↦ Other (record { head = Placed kind.True span; tail = []; is = refl; first = refl })
    | False span ↦ Other (record { head = Placed kind.False span; tail = []; is = refl; first = refl })
    | Target t ↦ Same t refl
    | Parens left inner ↦ Other (record { head = Placed kind.OpenParen left; tail = expression inner ++ word kind.CloseParen; is = refl; first = refl })
  ];
}

pub parens_form : Form atom (parens expression) of_parens (is_kind kind.OpenParen)
parens_form = record {
  first = record { each = λ p. record { head = Placed kind.OpenParen p.0; tail = expression p.1 ++ word kind.CloseParen; is = refl; first = refl } };
  same = λ p. refl;
  each = elim [
    | Number span ↦ Other (record { head = Placed kind.Number span; tail = []; is = refl; first = refl })
    | True span ↦ Other (record { head = Placed kind.True span; tail = []; is = refl; first = refl })
    | False span ↦ Other (record { head = Placed kind.False span; tail = []; is = refl; first = refl })
    | Target t ↦ Other (named_atom t (λ y. not (is_kind kind.OpenParen y)) (λ span. refl))
    | Parens left inner ↦ Same (left, inner) refl
  ];
}

-- unary = { "!" | "-" } atom .

pub prefixes_piece : Piece (flat_map prefix) (by_kind opens_prefix) (λ _. by_kind opens_prefix)
prefixes_piece = many_piece prefix_starts splits_self prefix_piece

abbrev pub unary_to : LevelTree Single → List Prefix × AtomTree
unary_to (Unary prefixes a) = (prefixes, a)

abbrev pub unary_from : List Prefix × AtomTree → LevelTree Single
unary_from p = Unary p.0 p.1

abbrev pub prefixed : List Prefix × AtomTree → List Symbol
prefixed p = flat_map prefix p.0 ++ atom p.1

pub unary_back : (x : LevelTree Single) → unary_from (unary_to x) ≡ x
unary_back (Unary prefixes a) = refl

pub unary_spelled : (x : LevelTree Single) → prefixed (unary_to x) ≡ level x
unary_spelled (Unary prefixes a) = refl

pub unary_stops : (x : LevelTree Single) (r : List Symbol) → Stops (level_at x) r → Stops (atom_at (unary_to x).1) r
unary_stops (Unary prefixes a) r h = stops_with (level_at (Unary prefixes a)) (atom_at a) (λ y e. e) r h

-- an atom does not begin with a prefix
no_prefix : (a : AtomTree) (r : List Symbol) → Stops (by_kind opens_prefix) (atom a ++ r)
no_prefix (Number span) r = refl
no_prefix (True span) r = refl
no_prefix (False span) r = refl
no_prefix (Target (Variable variable)) r = refl
no_prefix (Target (Field variable field)) r = refl
no_prefix (Target (Element variable e)) r = refl
no_prefix (Parens left inner) r = refl

pub prefixes_follow : Follows (by_kind opens_prefix) atom (level_on Single)
prefixes_follow = record { each = λ a r h. no_prefix a r }

pub prefixes_meet : Meets {X = List Prefix} (λ _. by_kind opens_prefix) atom atom_at
prefixes_meet = record { here = λ ps a r h. no_prefix a r }

-- the next token begins no atom other than a number
pub number_leads : (ys : List Symbol) → (ys ≡ [] → ⊥) → (kind_at ys ≡ Some kind.Name → ⊥) → (kind_at ys ≡ Some kind.OpenParen → ⊥) → (kind_at ys ≡ Some kind.True → ⊥) → (kind_at ys ≡ Some kind.False → ⊥) → leads (λ y. not (by_kind opens_other_atom y)) ys ≡ true
number_leads ys some f g h k =
    other_leads opens_other_atom ys some refl
    (ap (λ b. ((b || kind_is kind.OpenParen (kind_at ys)) || kind_is kind.True (kind_at ys)) || kind_is kind.False (kind_at ys)) (kind_other kind.Name (kind_at ys) f)
    ∙ ap (λ b. (b || kind_is kind.True (kind_at ys)) || kind_is kind.False (kind_at ys)) (kind_other kind.OpenParen (kind_at ys) g)
    ∙ ap (λ b. b || kind_is kind.False (kind_at ys)) (kind_other kind.True (kind_at ys) h)
    ∙ kind_other kind.False (kind_at ys) k)
