-- The front of a case, up to its statements.
use Rattle.std.proofs.Common.{◌≡◌, Bool, true, false, List, [], ◌∷◌, ◌++◌, Option, Some, None, refl, ap}
use Rattle.std.specs.Prelude.{not}
use Rattle.source.specs.declared.kind.Kind.TheVariants as kind
use Rattle.source.specs.declared.token.Span.{Span}
use Rattle.tree.specs.Symbols.{Symbol, Fixed, Placed, Named, is_kind, by_kind}
use Rattle.tree.specs.Spelling.{token_at, name, optional, comma_list, parens}
use Rattle.syntax.specs.Reading.{never, Stops, optional_at}
use Rattle.tree.specs.Grammar.{scalar_word, value_type}
use Rattle.syntax.specs.Firsts.{opens_type}
use Rattle.syntax.specs.Types.{array_tail, pointer_tail, endpoint_tail, scalar_type, scalar_at, endpoint_on, tail_at, of_scalar, of_tail, of_named}
use Rattle.tree.specs.StatementGrammar.{awaited, bind}
use Rattle.syntax.specs.StatementParts.{CaseFrontTree, case_front, typed, named_bind, scalar_bind, of_typed, opens_tail, bind_on, bind_at, binds_on, binds_at}
use Rattle.tree.specs.declared.statement.Awaited.{Awaited}
use Rattle.tree.specs.declared.statement.Awaited.TheVariants.{Message, Closed}
use Rattle.tree.specs.declared.statement.Bind.{Bind}
use Rattle.tree.specs.declared.types as type_nodes
use Rattle.program.specs.declared.types as kind_nodes
use Rattle.program.specs.declared.types.Scalar.TheVariants as scalar
use Rattle.tree.specs.declared.types.Type.TheVariants as type
use Rattle.tree.specs.declared.types.Heap.TheVariants as heap
use Rattle.syntax.specs.declared.fronts as parts
use Rattle.syntax.specs.declared.fronts.NamedTail.TheVariants as tail
use Rattle.syntax.proofs.pieces.Pieces.{Piece, Follows, Meets, ReadsOneWay, both_piece, next, via_piece, wide_way}
use Rattle.syntax.proofs.pieces.Beginnings.{Begins, Starts, splits_self}
use Rattle.syntax.proofs.pieces.Repeats.{sequence_stops}
use Rattle.syntax.proofs.pieces.Options.{opt_piece}
use Rattle.syntax.proofs.pieces.Choices.{Form, FormOf, Same, Other, form_way}
use Rattle.syntax.proofs.pieces.Enclosed.{InParens, parens_piece}
use Rattle.syntax.proofs.pieces.ListedOpen.{OpenItem, listed_open_piece}
use Rattle.syntax.proofs.pieces.KindLemmas.{apart_kinds}
use Rattle.syntax.proofs.pieces.CursorLemmas.{fixed_piece, placed_piece, named_piece}
use Rattle.syntax.proofs.definitions.TypeRules.{scalar_type_piece}
use Rattle.syntax.proofs.definitions.TypeForms.{named_tail_piece, named_form, scalar_form, type_meets}

-- awaited = ID | "ChannelClosed" .

pub message_form : Form awaited name Message (is_kind kind.Name)
message_form = record {
  first = record { each = λ span. record { head = Named span; tail = []; is = refl; first = refl } };
  same = λ span. refl;
  each = elim [ Message span ↦ Same span refl | Closed span ↦ Other (record { head = Placed kind.ChannelClosed span; tail = []; is = refl; first = refl }) ];
}

pub closed_form : Form awaited (token_at kind.ChannelClosed) Closed (λ y. not (is_kind kind.Name y))
closed_form = record {
  first = record { each = λ span. record { head = Placed kind.ChannelClosed span; tail = []; is = refl; first = refl } };
  same = λ span. refl;
  each = elim [ Message span ↦ Other (record { head = Named span; tail = []; is = refl; first = refl }) | Closed span ↦ Same span refl ];
}

pub awaited_piece : Piece awaited never (λ _. never)
awaited_piece = record { some = Message named_piece.some; each = way }
  where
    way : (a : Awaited) → ReadsOneWay awaited never (λ _. never) a
    way (Message span) = form_way message_form (λ _ r h. h) (named_piece.each span)
    way (Closed span) = form_way closed_form (λ _ r h. h) ((placed_piece kind.ChannelClosed).each span)

-- typed = named_tail ID .

pub tail_follows : Follows endpoint_on name never
tail_follows = record { each = λ span r h. refl }

pub tail_meets : Meets tail_at name (λ _. never)
tail_meets = record { here = each }
  where
    each : (t : parts.NamedTail.NamedTail) (span : Span) (r : List Symbol) → Stops never r → Stops (tail_at t) (name span ++ r)
    each (tail.Pointer b) span r h = refl
    each (tail.Endpoint e) span r h = type_meets.here (of_tail span (tail.Endpoint e)) span r h

pub typed_piece : Piece typed never (λ _. never)
typed_piece = both_piece named_tail_piece named_piece tail_follows tail_meets

pub typed_starts : Starts typed (by_kind opens_tail)
typed_starts = record { each = λ p. begins p.0 p.1 }
  where
    begins : (t : parts.NamedTail.NamedTail) (span : Span) → Begins typed (by_kind opens_tail) (t, span)
    begins (tail.Pointer b) span = record { head = Fixed kind.Star; tail = _; is = refl; first = refl }
    begins (tail.Endpoint e) span = record { head = Fixed kind.Dot; tail = _; is = refl; first = refl }

-- named_bind = ID [ typed ] .

pub maybe_typed_piece : Piece (optional typed) bind_on (optional_at bind_on (λ _. never))
maybe_typed_piece = opt_piece typed_piece typed_starts splits_self

pub named_bind_piece : Piece named_bind bind_on (λ p. optional_at bind_on (λ _. never) p.1)
named_bind_piece = next named_piece maybe_typed_piece

-- scalar_bind = scalar_type ID .

pub scalar_follows : Follows (is_kind kind.OpenBracket) name never
scalar_follows = record { each = λ span r h. refl }

pub scalar_meets : Meets scalar_at name (λ _. never)
scalar_meets = record { here = λ s. each s.array }
  where
    each : (o : Option (Option Span)) (span : Span) (r : List Symbol) → Stops never r → Stops (optional_at (is_kind kind.OpenBracket) (λ _. never) o) (name span ++ r)
    each None span r h = refl
    each (Some b) span r h = refl

pub scalar_bind_piece : Piece scalar_bind never (λ _. never)
scalar_bind_piece = both_piece scalar_type_piece named_piece scalar_follows scalar_meets

-- bind = named_bind | scalar_bind .

abbrev pub of_named_bind : Span × Option (parts.NamedTail.NamedTail × Span) → Bind
of_named_bind p = of_typed p.0 p.1

abbrev pub of_scalar_bind : parts.ScalarType.ScalarType × Span → Bind
of_scalar_bind p = record { ty = Some (of_scalar p.0); name = p.1 }

type_behind : (t : type_nodes.Type.Type) (span : Span) (starts : Symbol → Bool) → Begins value_type starts t → Begins bind starts (record { ty = Some t; name = span })
type_behind t span starts b = record { head = b.head; tail = b.tail ++ name span; is = ap (λ l. l ++ name span) b.is; first = b.first }

pub named_bind_form : Form bind named_bind of_named_bind (is_kind kind.Name)
named_bind_form = record {
  first = record { each = λ p. record { head = Named p.0; tail = optional typed p.1; is = refl; first = refl } };
  same = λ p. same p.0 p.1;
  each = λ b. each b.ty b.name;
}
  where
    same : (span : Span) (o : Option (parts.NamedTail.NamedTail × Span)) → bind (of_typed span o) ≡ named_bind (span, o)
    same span None = refl
    same span (Some p) = ap (λ l. l ++ name p.1) (named_form.same (record { name = span; tail = p.0 }))

    typed_form : (t : type_nodes.Type.Type) (span : Span) → FormOf value_type of_named (is_kind kind.Name) t → FormOf bind of_named_bind (is_kind kind.Name) (record { ty = Some t; name = span })
    typed_form t span (Same n is) = Same (n.name, Some (n.tail, span)) (ap (λ t. record { ty = Some t; name = span }) is)
    typed_form t span (Other b) = Other (type_behind t span (λ y. not (is_kind kind.Name y)) b)

    each : (o : Option type_nodes.Type.Type) (span : Span) → FormOf bind of_named_bind (is_kind kind.Name) (record { ty = o; name = span })
    each None span = Same (span, None) refl
    each (Some t) span = typed_form t span (named_form.each t)

pub scalar_bind_form : Form bind scalar_bind of_scalar_bind (λ y. not (is_kind kind.Name y))
scalar_bind_form = record {
  first = record { each = λ p. first p.0 p.1 (scalar_form.first.each p.0) };
  same = λ p. ap (λ l. l ++ name p.1) (scalar_form.same p.0);
  each = λ b. each b.ty b.name;
}
  where
    first : (s : parts.ScalarType.ScalarType) (span : Span) → Begins scalar_type (λ y. not (is_kind kind.Name y)) s → Begins scalar_bind (λ y. not (is_kind kind.Name y)) (s, span)
    first s span b = record { head = b.head; tail = b.tail ++ name span; is = ap (λ l. l ++ name span) b.is; first = b.first }

    typed_form : (t : type_nodes.Type.Type) (span : Span) → FormOf value_type of_scalar (λ y. not (is_kind kind.Name y)) t → FormOf bind of_scalar_bind (λ y. not (is_kind kind.Name y)) (record { ty = Some t; name = span })
    typed_form t span (Same s is) = Same (s, span) (ap (λ t. record { ty = Some t; name = span }) is)
    typed_form t span (Other b) = Other (type_behind t span (λ y. not (not (is_kind kind.Name y))) b)

    each : (o : Option type_nodes.Type.Type) (span : Span) → FormOf bind of_scalar_bind (λ y. not (is_kind kind.Name y)) (record { ty = o; name = span })
    each None span = Other (record { head = Named span; tail = []; is = refl; first = refl })
    each (Some t) span = typed_form t span (scalar_form.each t)

pub bind_stops : (p : Span × Option (parts.NamedTail.NamedTail × Span)) (r : List Symbol) → Stops (bind_at (of_named_bind p)) r → Stops (optional_at bind_on (λ _. never) p.1) r
bind_stops p = stops p.0 p.1
  where
    stops : (span : Span) (o : Option (parts.NamedTail.NamedTail × Span)) (r : List Symbol) → Stops (bind_at (of_typed span o)) r → Stops (optional_at bind_on (λ _. never) o) r
    stops span None r h = h
    stops span (Some q) r h = h

pub stops_bind : (p : Span × Option (parts.NamedTail.NamedTail × Span)) (r : List Symbol) → Stops (optional_at bind_on (λ _. never) p.1) r → Stops (bind_at (of_named_bind p)) r
stops_bind p = stops p.0 p.1
  where
    stops : (span : Span) (o : Option (parts.NamedTail.NamedTail × Span)) (r : List Symbol) → Stops (optional_at bind_on (λ _. never) o) r → Stops (bind_at (of_typed span o)) r
    stops span None r h = h
    stops span (Some q) r h = h

pub bind_piece : Piece bind bind_on bind_at
bind_piece = record { some = record { ty = None; name = named_piece.some }; each = λ b. way b.ty b.name }
  where
    named_way : (span : Span) (o : Option (parts.NamedTail.NamedTail × Span)) → ReadsOneWay bind bind_on bind_at (of_typed span o)
    named_way span o = form_way named_bind_form bind_stops (named_bind_piece.each (span, o))

    scalar_way : (s : parts.ScalarType.ScalarType) (span : Span) → ReadsOneWay bind bind_on bind_at (of_scalar_bind (s, span))
    scalar_way s span = form_way scalar_bind_form (λ _ r h. h) (wide_way (λ y h. refl) (scalar_bind_piece.each (s, span)))

    way : (o : Option type_nodes.Type.Type) (span : Span) → ReadsOneWay bind bind_on bind_at (record { ty = o; name = span })
    way None span = named_way span None
    way (Some (type.Scalar s)) span = scalar_way (record { scalar = s; array = None }) span
    way (Some (type.Heap (heap.Pointer other b))) span = named_way other (Some (tail.Pointer b, span))
    way (Some (type.Heap (heap.Array s b))) span = scalar_way (record { scalar = s; array = Some b }) span
    way (Some (type.Heap (heap.Endpoint other end state bang in_heap))) span = named_way other (Some (tail.Endpoint (record { side = end; state = state; bang = bang; in_heap = in_heap }), span))

-- the tokens with which a type begins

pub type_starts : Starts value_type (by_kind opens_type)
type_starts = record { each = begins }
  where
    opens : (s : kind_nodes.Scalar.Scalar) → opens_type (Some (scalar_word s)) ≡ true
    opens scalar.Int = refl
    opens scalar.Bool = refl
    opens scalar.Byte = refl

    begins : (t : type_nodes.Type.Type) → Begins value_type (by_kind opens_type) t
    begins (type.Scalar s) = record { head = Fixed (scalar_word s); tail = []; is = refl; first = opens s }
    begins (type.Heap (heap.Pointer other b)) = record { head = Named other; tail = pointer_tail b; is = refl; first = refl }
    begins (type.Heap (heap.Array s b)) = record { head = Fixed (scalar_word s); tail = array_tail b; is = refl; first = opens s }
    begins (type.Heap (heap.Endpoint other end state bang in_heap)) = record { head = Named other; tail = endpoint_tail (record { side = end; state = state; bang = bang; in_heap = in_heap }); is = refl; first = refl }

-- "(" [ bind { "," bind } ] ")"

bind_apart : (o : Option type_nodes.Type.Type) (y : Symbol) → bind_on y ≡ false → optional_at bind_on (λ _. never) o y ≡ false
bind_apart None y h = h
bind_apart (Some t) y h = refl

pub bind_item : OpenItem bind bind_on bind_at opens_type
bind_item = record {
  piece = bind_piece;
  begin = record { each = λ b. begins b.ty b.name };
  free = apart_kinds opens_tail kind.Comma refl;
  leaves = record { apart = λ b y h. bind_apart b.ty y (apart_kinds opens_tail kind.Comma refl y h) };
}
  where
    begins : (o : Option type_nodes.Type.Type) (span : Span) → Begins bind (by_kind opens_type) (record { ty = o; name = span })
    begins None span = record { head = Named span; tail = []; is = refl; first = refl }
    begins (Some t) span = type_behind t span (by_kind opens_type) (type_starts.each t)

pub binds_inside : InParens (comma_list bind) binds_on binds_at
binds_inside = record { on = refl; here = elim [ [] ↦ refl | b ∷ bs ↦ sequence_stops (is_kind kind.Comma) bind_at (Fixed kind.CloseParen) refl (λ b. bind_apart b.ty (Fixed kind.CloseParen) refl) (b ∷ bs) ] }

pub bind_list_piece : Piece (comma_list bind) binds_on binds_at
bind_list_piece = listed_open_piece bind_item

pub binds_piece : Piece (parens (comma_list bind)) never (λ _. never)
binds_piece = parens_piece binds_inside bind_list_piece

-- case_front = "case" ID "." awaited binds ":" .

abbrev Front : Type 0
Front = Span × (Span × (Unit {0} × (Awaited × ((Span × List Bind) × Unit {0}))))

abbrev pub front_to : CaseFrontTree → Front
front_to c = (c.word, (c.endpoint, (tt, (c.message, ((c.open_paren, c.binds), tt)))))

abbrev pub front_from : Front → CaseFrontTree
front_from p = record { word = p.0; endpoint = p.1.0; message = p.1.1.1.0; open_paren = p.1.1.1.1.0.0; binds = p.1.1.1.1.0.1 }

pub case_front_piece : Piece case_front never (λ _. never)
case_front_piece = via_piece front_to front_from (λ _. refl) (next (placed_piece kind.Case) (next named_piece (next (fixed_piece kind.Dot) (next awaited_piece (next binds_piece (fixed_piece kind.Colon))))))
