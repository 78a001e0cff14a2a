-- States as parts of the grammar.
use Rattle.std.proofs.Common.{Bool, List, [], refl}
use Rattle.std.specs.Prelude.{Option, not, ◌||◌}
use Rattle.std.specs.List.{flat_map}
use Rattle.source.specs.declared.kind.Kind.{Kind}
use Rattle.source.specs.declared.kind.Kind.TheVariants as kind
use Rattle.source.specs.declared.token.Span.{Span}
use Rattle.tree.specs.Symbols.{Fixed, Named, is_kind, by_kind, kind_is}
use Rattle.tree.specs.Spelling.{word, when}
use Rattle.syntax.specs.Reading.{never, when_at}
use Rattle.tree.specs.Trees.{PathTree, BodyTree, Empty, Path, One, StateTree}
use Rattle.tree.specs.Grammar.{line, body, state}
use Rattle.syntax.specs.Firsts.{opens_sign}
use Rattle.syntax.specs.States.{lines, one, one_at, state_on, body_at, state_at}
use Rattle.syntax.proofs.pieces.Pieces.{Piece, Follows, Meets, ReadsOneWay, both_piece, next, via_piece, wide_way}
use Rattle.syntax.proofs.pieces.Beginnings.{Begins, Starts, splits_self}
use Rattle.syntax.proofs.pieces.Repeats.{many_piece}
use Rattle.syntax.proofs.pieces.Options.{when_piece}
use Rattle.syntax.proofs.pieces.Choices.{Form, Same, Other, form_way}
use Rattle.syntax.proofs.pieces.Enclosed.{InBraces, braced_piece}
use Rattle.syntax.proofs.pieces.KindLemmas.{fixed_starts}
use Rattle.syntax.proofs.pieces.CursorLemmas.{fixed, fixed_piece, named_piece}
use Rattle.syntax.proofs.definitions.StateRules.{path_piece}

-- line = path ";" .

abbrev pub line_to : PathTree → PathTree × Unit {0}
line_to p = (p, tt)

abbrev pub line_from : PathTree × Unit {0} → PathTree
line_from p = p.0

pub path_follows : Follows (by_kind opens_sign) (fixed kind.Semicolon) never
path_follows = record { each = λ u r h. refl }

path_meets : Meets {X = PathTree} (λ _. by_kind opens_sign) (fixed kind.Semicolon) (λ _. never)
path_meets = record { here = λ p u r h. refl }

pub line_piece : Piece line never (λ _. never)
line_piece = via_piece line_to line_from (λ _. refl) (both_piece path_piece (fixed_piece kind.Semicolon) path_follows path_meets)

line_begins : (p : PathTree) → Begins line (is_kind kind.Name) p
line_begins p = record { head = Named p.first.message; tail = _; is = refl; first = refl }

pub line_starts : Starts line (is_kind kind.Name)
line_starts = record { each = line_begins }

-- lines = "{" { line } "}" .

pub lines_inside : InBraces {X = List PathTree} (flat_map line) (is_kind kind.Name) (λ _. is_kind kind.Name)
lines_inside = record { on = λ _. refl; here = λ _ _. refl }

pub line_sequence_piece : Piece (flat_map line) (is_kind kind.Name) (λ _. is_kind kind.Name)
line_sequence_piece = many_piece line_starts splits_self line_piece

pub lines_piece : Piece lines never (λ _. never)
lines_piece = braced_piece lines_inside line_sequence_piece

-- one = "one" lines [ ";" ] .

abbrev pub one_to : (List PathTree × Span) × Bool → Unit {0} × ((List PathTree × Span) × Bool)
one_to p = (tt, (p.0, p.1))

abbrev pub one_from : Unit {0} × ((List PathTree × Span) × Bool) → (List PathTree × Span) × Bool
one_from p = (p.1.0, p.1.1)

pub semicolon_piece : Piece (when (word kind.Semicolon)) state_on (when_at state_on)
semicolon_piece = when_piece (word kind.Semicolon) (fixed_piece kind.Semicolon) (fixed_starts kind.Semicolon) splits_self

pub one_piece : Piece one state_on one_at
one_piece = via_piece one_to one_from (λ _. refl) (next (fixed_piece kind.One) (next lines_piece semicolon_piece))

-- body = one | line | ";" .

abbrev pub of_one : (List PathTree × Span) × Bool → BodyTree
of_one p = One p.0.0 p.0.1 p.1

abbrev pub of_empty : Unit {0} → BodyTree
of_empty u = Empty

-- whether a body with something in it begins with this token
abbrev pub opens_full : Option Kind → Bool
opens_full k = kind_is kind.One k || kind_is kind.Name k

pub one_form : Form body one of_one (is_kind kind.One)
one_form = record {
  first = record { each = λ p. record { head = Fixed kind.One; tail = _; is = refl; first = refl } };
  same = λ p. refl;
  each = elim [
    | Empty ↦ Other (record { head = Fixed kind.Semicolon; tail = []; is = refl; first = refl })
    | Path p ↦ Other (record { head = Named p.first.message; tail = _; is = refl; first = refl })
    | One paths close semicolon ↦ Same ((paths, close), semicolon) refl
  ];
}

pub line_form : Form body line Path (is_kind kind.Name)
line_form = record {
  first = line_starts;
  same = λ p. refl;
  each = elim [
    | Empty ↦ Other (record { head = Fixed kind.Semicolon; tail = []; is = refl; first = refl })
    | Path p ↦ Same p refl
    | One paths close semicolon ↦ Other (record { head = Fixed kind.One; tail = _; is = refl; first = refl })
  ];
}

pub empty_form : Form body (fixed kind.Semicolon) of_empty (λ y. not (by_kind opens_full y))
empty_form = record {
  first = record { each = λ u. record { head = Fixed kind.Semicolon; tail = []; is = refl; first = refl } };
  same = λ u. refl;
  each = elim [
    | Empty ↦ Same tt refl
    | Path p ↦ Other (record { head = Named p.first.message; tail = _; is = refl; first = refl })
    | One paths close semicolon ↦ Other (record { head = Fixed kind.One; tail = _; is = refl; first = refl })
  ];
}

pub body_piece : Piece body state_on body_at
body_piece = record { some = Empty; each = way }
  where
    way : (b : BodyTree) → ReadsOneWay body state_on body_at b
    way Empty = form_way empty_form (λ _ r h. h) (wide_way (λ y h. refl) ((fixed_piece kind.Semicolon).each tt))
    way (Path p) = form_way line_form (λ _ r h. h) (wide_way (λ y h. refl) (line_piece.each p))
    way (One paths close semicolon) = form_way one_form (λ _ r h. h) (one_piece.each ((paths, close), semicolon))

-- state = "state" ID ":" body .

abbrev pub state_to : StateTree → Unit {0} × (Span × (Unit {0} × BodyTree))
state_to s = (tt, (s.name, (tt, s.body)))

abbrev pub state_from : Unit {0} × (Span × (Unit {0} × BodyTree)) → StateTree
state_from p = record { name = p.1.0; body = p.1.1.1 }

pub state_piece : Piece state state_on state_at
state_piece = via_piece state_to state_from (λ _. refl) (next (fixed_piece kind.State) (next named_piece (next (fixed_piece kind.Colon) body_piece)))

pub state_starts : Starts state (is_kind kind.State)
state_starts = record { each = λ s. record { head = Fixed kind.State; tail = _; is = refl; first = refl } }
