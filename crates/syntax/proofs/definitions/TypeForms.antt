-- Types by their fronts, and parameters.
use Rattle.std.proofs.Common.{◌≡◌, Bool, true, false, List, [], ◌++◌, Option, Some, None, refl}
use Rattle.std.specs.Prelude.{not}
use Rattle.source.specs.declared.kind.Kind.TheVariants as kind
use Rattle.source.specs.declared.token.Span.{Span}
use Rattle.tree.specs.Symbols.{Symbol, Fixed, Named, is_kind, by_kind, kind_is}
use Rattle.tree.specs.Spelling.{name, optional}
use Rattle.syntax.specs.Reading.{never, Stops, optional_at}
use Rattle.tree.specs.Grammar.{scalar_word, value_type, param}
use Rattle.syntax.specs.Firsts.{opens_type}
use Rattle.syntax.specs.Types.{bang_in_heap, array_tail, scalar_type, scalar_at, pointer_tail, endpoint_tail, endpoint_on, endpoint_at, named_tail, tail_at, named_type, named_at, type_on, type_at, of_array, of_scalar, of_tail, of_named}
use Rattle.tree.specs.declared.types as type_nodes
use Rattle.tree.specs.declared.contract as contract_nodes
use Rattle.program.specs.declared.types as kind_nodes
use Rattle.program.specs.declared.types.Scalar.TheVariants as scalar
use Rattle.tree.specs.declared.types.Type.TheVariants as type
use Rattle.tree.specs.declared.types.Heap.TheVariants as heap
use Rattle.syntax.specs.declared.fronts as parts
use Rattle.syntax.specs.declared.fronts.NamedTail.TheVariants as tail
use Rattle.syntax.proofs.pieces.Pieces.{Piece, Follows, Meets, ReadsOneWay, both_piece, next, via_piece, wide_way, or_right}
use Rattle.syntax.proofs.pieces.Beginnings.{Begins}
use Rattle.syntax.proofs.pieces.Choices.{Form, FormOf, Same, Other, form_way}
use Rattle.syntax.proofs.pieces.Listed.{Item}
use Rattle.syntax.proofs.pieces.CursorLemmas.{named_piece}
use Rattle.syntax.proofs.definitions.TypeRules.{scalar_type_piece, pointer_piece}
use Rattle.syntax.proofs.definitions.EndpointRules.{endpoint_piece}
use Rattle.lemmas.proofs.Bools.{or_left}

-- named_tail = pointer_tail | endpoint_tail .

star : (b : Option Span) → Begins pointer_tail (is_kind kind.Star) b
star b = record { head = Fixed kind.Star; tail = bang_in_heap b; is = refl; first = refl }

dot : (e : parts.EndpointTail.EndpointTail) → Begins endpoint_tail (λ y. not (is_kind kind.Star y)) e
dot e = record { head = Fixed kind.Dot; tail = _; is = refl; first = refl }

pub pointer_form : Form named_tail pointer_tail tail.Pointer (is_kind kind.Star)
pointer_form = record {
  first = record { each = star };
  same = λ b. refl;
  each = elim [ tail.Pointer b ↦ Same b refl | tail.Endpoint e ↦ Other (record { head = Fixed kind.Dot; tail = _; is = refl; first = refl }) ];
}

pub endpoint_form : Form named_tail endpoint_tail tail.Endpoint (λ y. not (is_kind kind.Star y))
endpoint_form = record {
  first = record { each = dot };
  same = λ e. refl;
  each = elim [ tail.Pointer b ↦ Other (record { head = Fixed kind.Star; tail = bang_in_heap b; is = refl; first = refl }) | tail.Endpoint e ↦ Same e refl ];
}

pub named_tail_piece : Piece named_tail endpoint_on tail_at
named_tail_piece = record { some = tail.Pointer None; each = way }
  where
    way : (t : parts.NamedTail.NamedTail) → ReadsOneWay named_tail endpoint_on tail_at t
    way (tail.Pointer b) = form_way pointer_form (λ _ r h. h) (wide_way (λ y h. refl) (pointer_piece.each b))
    way (tail.Endpoint e) = form_way endpoint_form (λ _ r h. h) (endpoint_piece.each e)

-- named_type = ID named_tail .

abbrev pub named_to : parts.NamedType.NamedType → Span × parts.NamedTail.NamedTail
named_to n = (n.name, n.tail)

abbrev pub named_from : Span × parts.NamedTail.NamedTail → parts.NamedType.NamedType
named_from p = record { name = p.0; tail = p.1 }

pub named_type_piece : Piece named_type endpoint_on named_at
named_type_piece = via_piece named_to named_from (λ _. refl) (next named_piece named_tail_piece)

-- type = named_type | scalar_type .

scalar_not_name : (s : kind_nodes.Scalar.Scalar) → not (kind_is kind.Name (Some (scalar_word s))) ≡ true
scalar_not_name scalar.Int = refl
scalar_not_name scalar.Bool = refl
scalar_not_name scalar.Byte = refl

abbrev scalar_head : kind_nodes.Scalar.Scalar → Symbol
scalar_head s = Fixed (scalar_word s)

pub named_form : Form value_type named_type of_named (is_kind kind.Name)
named_form = record {
  first = record { each = λ n. record { head = Named n.name; tail = named_tail n.tail; is = refl; first = refl } };
  same = λ n. same n.name n.tail;
  each = each;
}
  where
    same : (span : Span) (t : parts.NamedTail.NamedTail) → value_type (of_tail span t) ≡ named_type (record { name = span; tail = t })
    same span (tail.Pointer b) = refl
    same span (tail.Endpoint e) = refl

    each : (t : type_nodes.Type.Type) → FormOf value_type of_named (is_kind kind.Name) t
    each (type.Scalar s) = Other (record { head = scalar_head s; tail = []; is = refl; first = scalar_not_name s })
    each (type.Heap (heap.Pointer span b)) = Same (record { name = span; tail = tail.Pointer b }) refl
    each (type.Heap (heap.Array s b)) = Other (record { head = scalar_head s; tail = array_tail b; is = refl; first = scalar_not_name s })
    each (type.Heap (heap.Endpoint span end state bang in_heap)) = Same (record { name = span; tail = tail.Endpoint (record { side = end; state = state; bang = bang; in_heap = in_heap }) }) refl

pub scalar_form : Form value_type scalar_type of_scalar (λ y. not (is_kind kind.Name y))
scalar_form = record {
  first = record { each = λ s. record { head = scalar_head s.scalar; tail = optional array_tail s.array; is = refl; first = scalar_not_name s.scalar } };
  same = λ s. same s.scalar s.array;
  each = each;
}
  where
    same : (s : kind_nodes.Scalar.Scalar) (o : Option (Option Span)) → value_type (of_array s o) ≡ scalar_type (record { scalar = s; array = o })
    same s None = refl
    same s (Some b) = refl

    each : (t : type_nodes.Type.Type) → FormOf value_type of_scalar (λ y. not (is_kind kind.Name y)) t
    each (type.Scalar s) = Same (record { scalar = s; array = None }) refl
    each (type.Heap (heap.Pointer span b)) = Other (record { head = Named span; tail = pointer_tail b; is = refl; first = refl })
    each (type.Heap (heap.Array s b)) = Same (record { scalar = s; array = Some b }) refl
    each (type.Heap (heap.Endpoint span end state bang in_heap)) = Other (record { head = Named span; tail = endpoint_tail (record { side = end; state = state; bang = bang; in_heap = in_heap }); is = refl; first = refl })

-- a symbol that continues a type of one front is among those that continue some type

pub named_wide : (y : Symbol) → type_on y ≡ false → endpoint_on y ≡ false
named_wide y h = or_right (is_kind kind.OpenBracket y) (endpoint_on y) h

pub scalar_wide : (y : Symbol) → type_on y ≡ false → is_kind kind.OpenBracket y ≡ false
scalar_wide y h = or_left (is_kind kind.OpenBracket y) (endpoint_on y) h

pub named_stops : (n : parts.NamedType.NamedType) (r : List Symbol) → Stops (type_at (of_named n)) r → Stops (named_at n) r
named_stops n = stops n.name n.tail
  where
    stops : (span : Span) (t : parts.NamedTail.NamedTail) (r : List Symbol) → Stops (type_at (of_tail span t)) r → Stops (tail_at t) r
    stops span (tail.Pointer b) r h = h
    stops span (tail.Endpoint e) r h = h

pub stops_named : (n : parts.NamedType.NamedType) (r : List Symbol) → Stops (named_at n) r → Stops (type_at (of_named n)) r
stops_named n = stops n.name n.tail
  where
    stops : (span : Span) (t : parts.NamedTail.NamedTail) (r : List Symbol) → Stops (tail_at t) r → Stops (type_at (of_tail span t)) r
    stops span (tail.Pointer b) r h = h
    stops span (tail.Endpoint e) r h = h

pub scalar_stops : (s : parts.ScalarType.ScalarType) (r : List Symbol) → Stops (type_at (of_scalar s)) r → Stops (scalar_at s) r
scalar_stops s = stops s.scalar s.array
  where
    stops : (s : kind_nodes.Scalar.Scalar) (o : Option (Option Span)) (r : List Symbol) → Stops (type_at (of_array s o)) r → Stops (optional_at (is_kind kind.OpenBracket) (λ _. never) o) r
    stops s None r h = h
    stops s (Some b) r h = h

pub type_piece : Piece value_type type_on type_at
type_piece = record { some = type.Scalar scalar.Int; each = way }
  where
    named_way : (n : parts.NamedType.NamedType) → ReadsOneWay value_type type_on type_at (of_named n)
    named_way n = form_way named_form named_stops (wide_way named_wide (named_type_piece.each n))

    scalar_way : (s : parts.ScalarType.ScalarType) → ReadsOneWay value_type type_on type_at (of_scalar s)
    scalar_way s = form_way scalar_form scalar_stops (wide_way scalar_wide (scalar_type_piece.each s))

    way : (t : type_nodes.Type.Type) → ReadsOneWay value_type type_on type_at t
    way (type.Scalar s) = scalar_way (record { scalar = s; array = None })
    way (type.Heap (heap.Pointer span b)) = named_way (record { name = span; tail = tail.Pointer b })
    way (type.Heap (heap.Array s b)) = scalar_way (record { scalar = s; array = Some b })
    way (type.Heap (heap.Endpoint span end state bang in_heap)) = named_way (record { name = span; tail = tail.Endpoint (record { side = end; state = state; bang = bang; in_heap = in_heap }) })

-- param = type ID .

abbrev pub param_to : contract_nodes.MessageParameter.MessageParameter → type_nodes.Type.Type × Span
param_to p = (p.ty, p.name)

abbrev pub param_from : type_nodes.Type.Type × Span → contract_nodes.MessageParameter.MessageParameter
param_from p = record { ty = p.0; name = p.1 }

pub type_follows : Follows type_on name never
type_follows = record { each = λ span r h. refl }

pub type_meets : Meets type_at name (λ _. never)
type_meets = record { here = λ t span r h. apart t span }
  where
    ends_apart : (end : kind_nodes.Side.Side) (state : Option Span) (bang : Option Span) (in_heap : Bool) (span : Span) → endpoint_at (record { side = end; state = state; bang = bang; in_heap = in_heap }) (Named span) ≡ false
    ends_apart end state bang true span = refl
    ends_apart end state (Some mark) false span = refl
    ends_apart end None None false span = refl
    ends_apart end (Some other) None false span = refl

    apart : (t : type_nodes.Type.Type) (span : Span) → type_at t (Named span) ≡ false
    apart (type.Scalar s) span = refl
    apart (type.Heap (heap.Pointer other b)) span = refl
    apart (type.Heap (heap.Array s b)) span = refl
    apart (type.Heap (heap.Endpoint other end state bang in_heap)) span = ends_apart end state bang in_heap span

pub param_piece : Piece param never (λ _. never)
param_piece = via_piece param_to param_from (λ _. refl) (both_piece type_piece named_piece type_follows type_meets)

pub param_item : Item param opens_type
param_item = record { piece = param_piece; begin = record { each = λ p. begins p.ty p.name }; apart = refl }
  where
    scalar_opens : (s : kind_nodes.Scalar.Scalar) → opens_type (Some (scalar_word s)) ≡ true
    scalar_opens scalar.Int = refl
    scalar_opens scalar.Bool = refl
    scalar_opens scalar.Byte = refl

    begins : (t : type_nodes.Type.Type) (span : Span) → Begins param (by_kind opens_type) (record { ty = t; name = span })
    begins (type.Scalar s) span = record { head = scalar_head s; tail = name span; is = refl; first = scalar_opens s }
    begins (type.Heap (heap.Pointer other b)) span = record { head = Named other; tail = pointer_tail b ++ name span; is = refl; first = refl }
    begins (type.Heap (heap.Array s b)) span = record { head = scalar_head s; tail = array_tail b ++ name span; is = refl; first = scalar_opens s }
    begins (type.Heap (heap.Endpoint other end state bang in_heap)) span = record { head = Named other; tail = endpoint_tail (record { side = end; state = state; bang = bang; in_heap = in_heap }) ++ name span; is = refl; first = refl }
