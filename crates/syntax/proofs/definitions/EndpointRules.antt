-- The type of an endpoint: options at an open end.
use Rattle.std.proofs.Common.{◌≡◌, Bool, true, false, List, [], ◌++◌, Option, Some, None, sym, refl, ap, ◌∙◌, subst, append_assoc}
use Rattle.std.specs.Prelude.{◌||◌, is_some}
use Rattle.source.specs.declared.kind.Kind.TheVariants as kind
use Rattle.source.specs.declared.token.Span.{Span}
use Rattle.tree.specs.Symbols.{Symbol, Fixed, is_kind, kind_is}
use Rattle.tree.specs.Spelling.{word, name, optional, when}
use Rattle.syntax.specs.Reading.{never, Stops, Fails, Takes, optional_at, when_at, open_at}
use Rattle.tree.specs.Grammar.{side_word, bang_word, in_heap_words, colon_name}
use Rattle.syntax.specs.Types.{endpoint_end, endpoint_tail, endpoint_on, endpoint_at}
use Rattle.program.specs.declared.types as tree
use Rattle.syntax.specs.declared.fronts as parts
use Rattle.syntax.proofs.pieces.Pieces.{Piece, Follows, both, next, fails_here, fails_after, fails_first, fails_second, via_piece, via_fails, same_piece, same_fails, or_right, stops_left, stops_both, stops_never}
use Rattle.syntax.proofs.pieces.Beginnings.{Starts, Splits, Leaves, splits_self}
use Rattle.syntax.proofs.pieces.Options.{opt_piece, opt_meets, when_piece, when_meets, open_piece}
use Rattle.syntax.proofs.pieces.Words.{words_piece}
use Rattle.syntax.proofs.pieces.KindLemmas.{placed_starts, kinds_apart}
use Rattle.syntax.proofs.pieces.CursorLemmas.{fixed_piece, placed_piece, named_piece}
use Rattle.syntax.proofs.definitions.TypeRules.{sides, in_heap_piece, in_heap_starts}

-- ":" ID

abbrev pub colon_to : Span → Unit {0} × Span
colon_to span = (tt, span)

abbrev pub colon_from : Unit {0} × Span → Span
colon_from p = p.1

pub colon_piece : Piece colon_name never (λ _. never)
colon_piece = via_piece colon_to colon_from (λ _. refl) (next (fixed_piece kind.Colon) named_piece)

pub colon_starts : Starts colon_name (is_kind kind.Colon)
colon_starts = record { each = λ span. record { head = Fixed kind.Colon; tail = name span; is = refl; first = refl } }

pub maybe_colon_piece : Piece (optional colon_name) (is_kind kind.Colon) (optional_at (is_kind kind.Colon) (λ _. never))
maybe_colon_piece = opt_piece colon_piece colon_starts splits_self

-- side [ ":" ID ] [ "!" ] [ in_heap ], each part with what comes before it

abbrev to_bang : Symbol → Bool
to_bang y = is_kind kind.Colon y || is_kind kind.Bang y

abbrev front1 : tree.Side.Side × Option Span → List Symbol
front1 = both (λ s. word (side_word s)) (optional colon_name)

abbrev front2 : (tree.Side.Side × Option Span) × Option Span → List Symbol
front2 = both front1 (optional bang_word)

abbrev front3 : ((tree.Side.Side × Option Span) × Option Span) × Bool → List Symbol
front3 = both front2 (when in_heap_words)

abbrev at1 : tree.Side.Side × Option Span → Symbol → Bool
at1 p = optional_at (is_kind kind.Colon) (λ _. never) p.1

abbrev at2 : (tree.Side.Side × Option Span) × Option Span → Symbol → Bool
at2 p = open_at (at1 p.0) (is_kind kind.Bang) (is_some p.1)

abbrev at3 : ((tree.Side.Side × Option Span) × Option Span) × Bool → Symbol → Bool
at3 p = open_at (at2 p.0) (is_kind kind.In) p.1

bang_splits : Splits (is_kind kind.Bang) never to_bang
bang_splits = record { none = λ y h. or_right (is_kind kind.Colon y) (is_kind kind.Bang y) h; last = λ y h. refl; apart = λ y h. refl }

pub heap_splits : Splits (is_kind kind.In) never endpoint_on
heap_splits = record { none = λ y h. or_right (to_bang y) (is_kind kind.In y) h; last = λ y h. refl; apart = λ y h. refl }

open_bang_piece : Piece (optional bang_word) to_bang (optional_at (is_kind kind.Bang) (λ _. never))
open_bang_piece = opt_piece (placed_piece kind.Bang) (placed_starts kind.Bang) bang_splits

pub open_heap_piece : Piece (when in_heap_words) endpoint_on (when_at (is_kind kind.In))
open_heap_piece = when_piece in_heap_words in_heap_piece in_heap_starts heap_splits

bang_behind : Follows {Y = Option Span} (is_kind kind.Colon) (optional bang_word) to_bang
bang_behind = record { each = elim [ Some span ↦ λ r h. refl | None ↦ λ r h. stops_left (is_kind kind.Colon) (is_kind kind.Bang) r h ] }

heap_behind : Follows to_bang (when in_heap_words) endpoint_on
heap_behind = record { each = elim [ true ↦ λ r h. refl | false ↦ λ r h. stops_left to_bang (is_kind kind.In) r h ] }

colon_apart : (o : Option Span) (y : Symbol) → is_kind kind.Colon y ≡ false → optional_at (is_kind kind.Colon) (λ _. never) o y ≡ false
colon_apart None y h = h
colon_apart (Some span) y h = refl

bang_leaves : Leaves at1 (is_kind kind.Bang)
bang_leaves = record { apart = λ p y h. colon_apart p.1 y (kinds_apart (kind_is kind.Bang) kind.Colon refl y h) }

heap_leaves : Leaves at2 (is_kind kind.In)
heap_leaves = record { apart = λ p y h. apart p.0 p.1 y (colon_apart p.0.1 y (kinds_apart (kind_is kind.In) kind.Colon refl y h)) (kinds_apart (kind_is kind.In) kind.Bang refl y h) }
  where
    apart : (p : tree.Side.Side × Option Span) (b : Option Span) (y : Symbol) → at1 p y ≡ false → is_kind kind.Bang y ≡ false → open_at (at1 p) (is_kind kind.Bang) (is_some b) y ≡ false
    apart p (Some span) y f g = refl
    apart p None y f g = ap (λ c. c || is_kind kind.Bang y) f ∙ g

front1_piece : Piece front1 (is_kind kind.Colon) at1
front1_piece = next (words_piece sides) maybe_colon_piece

front2_piece : Piece front2 to_bang at2
front2_piece = open_piece front1_piece open_bang_piece bang_behind (opt_meets (placed_starts kind.Bang) bang_leaves)

front3_piece : Piece front3 endpoint_on at3
front3_piece = open_piece front2_piece open_heap_piece heap_behind (when_meets in_heap_words in_heap_starts heap_leaves)

-- the same for the tree

abbrev fronts : parts.EndpointTail.EndpointTail → ((tree.Side.Side × Option Span) × Option Span) × Bool
fronts e = (((e.side, e.state), e.bang), e.in_heap)

abbrev of_fronts : ((tree.Side.Side × Option Span) × Option Span) × Bool → parts.EndpointTail.EndpointTail
of_fronts p = record { side = p.0.0.0; state = p.0.0.1; bang = p.0.1; in_heap = p.1 }

regrouped : (e : parts.EndpointTail.EndpointTail) → front3 (fronts e) ≡ endpoint_end e
regrouped e =
    append_assoc (word (side_word e.side) ++ optional colon_name e.state) (optional bang_word e.bang) (when in_heap_words e.in_heap)
    ∙ append_assoc (word (side_word e.side)) (optional colon_name e.state) (optional bang_word e.bang ++ when in_heap_words e.in_heap)

pub endpoint_end_piece : Piece endpoint_end endpoint_on endpoint_at
endpoint_end_piece = same_piece regrouped (λ e r h. h) (via_piece fronts of_fronts (λ _. refl) front3_piece)

abbrev pub dot_to : parts.EndpointTail.EndpointTail → Unit {0} × parts.EndpointTail.EndpointTail
dot_to e = (tt, e)

abbrev pub dot_from : Unit {0} × parts.EndpointTail.EndpointTail → parts.EndpointTail.EndpointTail
dot_from p = p.1

pub endpoint_piece : Piece endpoint_tail endpoint_on endpoint_at
endpoint_piece = via_piece dot_to dot_from (λ _. refl) (next (fixed_piece kind.Dot) endpoint_end_piece)

-- where it fails

front_fails : {old new : List Symbol} → Fails front3 endpoint_on old new → Fails endpoint_end endpoint_on old new
front_fails {old} {new} h = same_fails regrouped (via_fails fronts of_fronts (λ _. refl) h)

pub side_fails : {old new : List Symbol} → Fails (λ s. word (side_word s)) never old new → Fails endpoint_end endpoint_on old new
side_fails {old} {new} h = front_fails (fails_first (fails_first (fails_here h maybe_colon_piece) open_bang_piece bang_behind) open_heap_piece heap_behind)

pub colon_fails : {old mid new : List Symbol} (s : tree.Side.Side) → (old ≡ word (side_word s) ++ mid) × Stops never mid → Fails (optional colon_name) (is_kind kind.Colon) mid new → Fails endpoint_end endpoint_on old new
colon_fails {old} {mid} {new} s read h = front_fails (fails_first (fails_first (fails_after s (words_piece sides) read h) open_bang_piece bang_behind) open_heap_piece heap_behind)

bang_read : (p : tree.Side.Side × Option Span) (b : Option Span) (old mid new : List Symbol) → Takes front1 at1 old mid p → Takes (optional bang_word) (optional_at (is_kind kind.Bang) (λ _. never)) mid new b → Takes front2 at2 old new (p, b)
bang_read p (Some span) old mid new read bang = (read.0 ∙ ap (λ t. front1 p ++ t) bang.0 ∙ sym (append_assoc (front1 p) (bang_word span) new), stops_never new)
bang_read p None old mid new read bang = (read.0 ∙ ap (λ t. front1 p ++ t) bang.0 ∙ sym (append_assoc (front1 p) [] new), stops_both (at1 p) (is_kind kind.Bang) new (subst (Stops (at1 p)) bang.0 read.1) bang.1)

pub in_heap_fails : {old mid bang new more : List Symbol} (s : tree.Side.Side) (o : Option Span) (b : Option Span) → (old ≡ word (side_word s) ++ mid) × Stops never mid → Takes (optional colon_name) (optional_at (is_kind kind.Colon) (λ _. never)) mid bang o → Takes (optional bang_word) (optional_at (is_kind kind.Bang) (λ _. never)) bang more b → Fails (when in_heap_words) endpoint_on more new → Fails endpoint_end endpoint_on old new
in_heap_fails {old} {mid} {bang} {new} {more} s o b read colon_read was h =
    let begun : Takes front1 at1 old bang (s, o) = (read.0 ∙ ap (λ t. word (side_word s) ++ t) colon_read.0 ∙ sym (append_assoc (word (side_word s)) (optional colon_name o) bang), colon_read.1) in
    front_fails (fails_second ((s, o), b) front2_piece (bang_read (s, o) b old bang more begun was) heap_behind h)
