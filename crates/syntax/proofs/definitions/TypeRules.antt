-- Types as parts of the grammar.
use Rattle.std.proofs.Common.{◌≡◌, ◌∷◌, Option, Some, None, refl, ap}
use Rattle.source.specs.declared.kind.Kind.{Kind}
use Rattle.source.specs.declared.kind.Kind.TheVariants as kind
use Rattle.source.specs.declared.token.Span.{Span}
use Rattle.tree.specs.Symbols.{Fixed, is_kind}
use Rattle.tree.specs.Spelling.{word, optional}
use Rattle.syntax.specs.Reading.{never, optional_at}
use Rattle.tree.specs.Grammar.{scalar_word, side_word, bang_word, in_heap_words}
use Rattle.syntax.specs.Firsts.{scalar_of, side_of}
use Rattle.syntax.specs.Types.{bang_in_heap, array_tail, scalar_type, scalar_at, pointer_tail}
use Rattle.program.specs.declared.types as tree
use Rattle.program.specs.declared.types.Scalar.TheVariants as scalar
use Rattle.program.specs.declared.types.Side.TheVariants as side
use Rattle.syntax.specs.declared.fronts as parts
use Rattle.syntax.proofs.pieces.Pieces.{Piece, Follows, Meets, both_piece, next, via_piece}
use Rattle.syntax.proofs.pieces.Beginnings.{Starts, splits_self}
use Rattle.syntax.proofs.pieces.Options.{opt_piece}
use Rattle.syntax.proofs.pieces.Words.{Words, words_piece, one_some, none_some}
use Rattle.syntax.proofs.pieces.KindLemmas.{placed_starts}
use Rattle.syntax.proofs.pieces.CursorLemmas.{fixed_piece, placed_piece}

-- "int" | "bool" | "byte"

pub scalars : Words scalar_word scalar_of
scalars = record { some = scalar.Int; known = known; blank = refl; only = only; plain = plain }
  where
    known : (s : tree.Scalar.Scalar) → scalar_of (Some (scalar_word s)) ≡ Some s
    known scalar.Int = refl
    known scalar.Bool = refl
    known scalar.Byte = refl

    only : (k : Kind) (s : tree.Scalar.Scalar) → scalar_of (Some k) ≡ Some s → k ≡ scalar_word s
    only kind.Int s e = ap scalar_word (one_some e)
    only kind.Bool s e = ap scalar_word (one_some e)
    only kind.Byte s e = ap scalar_word (one_some e)
    only k s e = absurd (none_some e)

    plain : (s : tree.Scalar.Scalar) → scalar_word s ≡ kind.Name → ⊥
    plain scalar.Int e = cc
    plain scalar.Bool e = cc
    plain scalar.Byte e = cc

-- "Imp" | "Exp"

pub sides : Words side_word side_of
sides = record { some = side.Imp; known = known; blank = refl; only = only; plain = plain }
  where
    known : (s : tree.Side.Side) → side_of (Some (side_word s)) ≡ Some s
    known side.Imp = refl
    known side.Exp = refl

    only : (k : Kind) (s : tree.Side.Side) → side_of (Some k) ≡ Some s → k ≡ side_word s
    only kind.Imp s e = ap side_word (one_some e)
    only kind.Exp s e = ap side_word (one_some e)
    only k s e = absurd (none_some e)

    plain : (s : tree.Side.Side) → side_word s ≡ kind.Name → ⊥
    plain side.Imp e = cc
    plain side.Exp e = cc

-- in_heap = "in" "ExHeap" .

abbrev pub in_heap_to : Unit {0} → Unit {0} × Unit {0}
in_heap_to u = (tt, tt)

abbrev pub in_heap_from : Unit {0} × Unit {0} → Unit {0}
in_heap_from p = tt

pub in_heap_piece : Piece {X = Unit {0}} (λ _. in_heap_words) never (λ _. never)
in_heap_piece = via_piece in_heap_to in_heap_from (λ _. refl) (next (fixed_piece kind.In) (fixed_piece kind.ExHeap))

pub in_heap_starts : Starts {X = Unit {0}} (λ _. in_heap_words) (is_kind kind.In)
in_heap_starts = record { each = λ u. record { head = Fixed kind.In; tail = word kind.ExHeap; is = refl; first = refl } }

-- bang_in_heap = [ "!" ] in_heap .

abbrev pub bang_to : Option Span → Option Span × Unit {0}
bang_to b = (b, tt)

abbrev pub bang_from : Option Span × Unit {0} → Option Span
bang_from p = p.0

pub bang_piece : Piece (optional bang_word) (is_kind kind.Bang) (optional_at (is_kind kind.Bang) (λ _. never))
bang_piece = opt_piece (placed_piece kind.Bang) (placed_starts kind.Bang) splits_self

pub bang_follows : Follows {Y = Unit {0}} (is_kind kind.Bang) (λ _. in_heap_words) never
bang_follows = record { each = λ u r h. refl }

bang_meets : Meets {X = Option Span} {Y = Unit {0}} (optional_at (is_kind kind.Bang) (λ _. never)) (λ _. in_heap_words) (λ _. never)
bang_meets = record { here = elim [ Some span ↦ λ u r h. refl | None ↦ λ u r h. refl ] }

pub bang_in_heap_piece : Piece bang_in_heap never (λ _. never)
bang_in_heap_piece = via_piece bang_to bang_from (λ _. refl) (both_piece bang_piece in_heap_piece bang_follows bang_meets)

-- array_tail = "[" "]" bang_in_heap .

abbrev pub array_to : Option Span → Unit {0} × (Unit {0} × Option Span)
array_to b = (tt, (tt, b))

abbrev pub array_from : Unit {0} × (Unit {0} × Option Span) → Option Span
array_from p = p.1.1

pub array_piece : Piece array_tail never (λ _. never)
array_piece = via_piece array_to array_from (λ _. refl) (next (fixed_piece kind.OpenBracket) (next (fixed_piece kind.CloseBracket) bang_in_heap_piece))

pub array_starts : Starts array_tail (is_kind kind.OpenBracket)
array_starts = record { each = λ b. record { head = Fixed kind.OpenBracket; tail = Fixed kind.CloseBracket ∷ bang_in_heap b; is = refl; first = refl } }

pub maybe_array_piece : Piece (optional array_tail) (is_kind kind.OpenBracket) (optional_at (is_kind kind.OpenBracket) (λ _. never))
maybe_array_piece = opt_piece array_piece array_starts splits_self

-- scalar_type = scalar [ array_tail ] .

abbrev pub scalar_to : parts.ScalarType.ScalarType → tree.Scalar.Scalar × Option (Option Span)
scalar_to s = (s.scalar, s.array)

abbrev pub scalar_from : tree.Scalar.Scalar × Option (Option Span) → parts.ScalarType.ScalarType
scalar_from p = record { scalar = p.0; array = p.1 }

pub scalar_type_piece : Piece scalar_type (is_kind kind.OpenBracket) scalar_at
scalar_type_piece = via_piece scalar_to scalar_from (λ _. refl) (next (words_piece scalars) maybe_array_piece)

-- pointer_tail = "*" bang_in_heap .

abbrev pub pointer_to : Option Span → Unit {0} × Option Span
pointer_to b = (tt, b)

abbrev pub pointer_from : Unit {0} × Option Span → Option Span
pointer_from p = p.1

pub pointer_piece : Piece pointer_tail never (λ _. never)
pointer_piece = via_piece pointer_to pointer_from (λ _. refl) (next (fixed_piece kind.Star) bang_in_heap_piece)
