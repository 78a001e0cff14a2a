-- Types by how they begin: with a name or with a scalar.
use Rattle.std.specs.Prelude.{Bool, ◌||◌, List, [], ◌∷◌, Option, Some, None, is_some}
use Rattle.source.specs.declared.kind.Kind.TheVariants as kind
use Rattle.tree.specs.Symbols.{Symbol, is_kind}
use Rattle.tree.specs.Spelling.{word, name, sequence, optional, when}
use Rattle.syntax.specs.Reading.{never, optional_at, open_at}
use Rattle.source.specs.declared.token.Span.{Span}
use Rattle.tree.specs.Grammar.{scalar_word, side_word, bang_word, in_heap_words, colon_name}
use Rattle.program.specs.declared.types.Scalar.{Scalar}
use Rattle.tree.specs.declared.types as type_nodes
use Rattle.tree.specs.declared.types.Type.TheVariants as type
use Rattle.tree.specs.declared.types.Heap.TheVariants as heap
use Rattle.syntax.specs.declared.fronts as parts
use Rattle.syntax.specs.declared.fronts.NamedTail.TheVariants as tail

-- bang_in_heap = [ bang ] in_heap .
abbrev pub bang_in_heap : Option Span → List Symbol
bang_in_heap bang = sequence (optional bang_word bang ∷ in_heap_words ∷ [])

-- array_tail = "[" "]" bang_in_heap .
abbrev pub array_tail : Option Span → List Symbol
array_tail bang = sequence (word kind.OpenBracket ∷ word kind.CloseBracket ∷ bang_in_heap bang ∷ [])

-- scalar_type = scalar [ array_tail ] .
abbrev pub scalar_type : parts.ScalarType.ScalarType → List Symbol
scalar_type s = sequence (word (scalar_word s.scalar) ∷ optional array_tail s.array ∷ [])

-- pointer_tail = "*" bang_in_heap .
abbrev pub pointer_tail : Option Span → List Symbol
pointer_tail bang = sequence (word kind.Star ∷ bang_in_heap bang ∷ [])

-- endpoint_end = side [ colon_name ] [ bang ] [ in_heap ] .
abbrev pub endpoint_end : parts.EndpointTail.EndpointTail → List Symbol
endpoint_end e =
    sequence (word (side_word e.side) ∷ optional colon_name e.state ∷ optional bang_word e.bang ∷ when in_heap_words e.in_heap ∷ [])

-- endpoint_tail = "." endpoint_end .
abbrev pub endpoint_tail : parts.EndpointTail.EndpointTail → List Symbol
endpoint_tail e = sequence (word kind.Dot ∷ endpoint_end e ∷ [])

-- named_tail = pointer_tail | endpoint_tail .
abbrev pub named_tail : parts.NamedTail.NamedTail → List Symbol
named_tail (tail.Pointer bang) = pointer_tail bang
named_tail (tail.Endpoint e) = endpoint_tail e

-- named_type = ID named_tail .
abbrev pub named_type : parts.NamedType.NamedType → List Symbol
named_type n = sequence (name n.name ∷ named_tail n.tail ∷ [])

-- a scalar, or an array of scalars
abbrev pub of_array : Scalar → Option (Option Span) → type_nodes.Type.Type
of_array scalar None = type.Scalar scalar
of_array scalar (Some bang) = type.Heap (heap.Array scalar bang)

-- the type that begins with this scalar
abbrev pub of_scalar : parts.ScalarType.ScalarType → type_nodes.Type.Type
of_scalar s = of_array s.scalar s.array

-- the type that a name and what follows it form
abbrev pub of_tail : Span → parts.NamedTail.NamedTail → type_nodes.Type.Type
of_tail span (tail.Pointer bang) = type.Heap (heap.Pointer span bang)
of_tail span (tail.Endpoint e) = type.Heap (heap.Endpoint span e.side e.state e.bang e.in_heap)

-- the type that begins with this name
abbrev pub of_named : parts.NamedType.NamedType → type_nodes.Type.Type
of_named n = of_tail n.name n.tail

-- the symbols with which the type of some endpoint could continue
abbrev pub endpoint_on : Symbol → Bool
endpoint_on y = (is_kind kind.Colon y || is_kind kind.Bang y) || is_kind kind.In y

-- the symbols with which the type of this endpoint could continue
abbrev pub endpoint_at : parts.EndpointTail.EndpointTail → Symbol → Bool
endpoint_at e = open_at (open_at (optional_at (is_kind kind.Colon) (λ _. never) e.state) (is_kind kind.Bang) (is_some e.bang))
    (is_kind kind.In) e.in_heap

-- the symbols with which this part of a type after its name could continue
abbrev pub tail_at : parts.NamedTail.NamedTail → Symbol → Bool
tail_at (tail.Pointer bang) = never
tail_at (tail.Endpoint e) = endpoint_at e

-- the symbols with which this type that begins with a name could continue
abbrev pub named_at : parts.NamedType.NamedType → Symbol → Bool
named_at n = tail_at n.tail

-- the symbols with which this type that begins with a scalar could continue
abbrev pub scalar_at : parts.ScalarType.ScalarType → Symbol → Bool
scalar_at s = optional_at (is_kind kind.OpenBracket) (λ _. never) s.array

-- the symbols with which some type could continue
abbrev pub type_on : Symbol → Bool
type_on y = is_kind kind.OpenBracket y || endpoint_on y

-- the symbols with which this type could continue
abbrev pub type_at : type_nodes.Type.Type → Symbol → Bool
type_at (type.Scalar s) = is_kind kind.OpenBracket
type_at (type.Heap (heap.Array element bang)) = never
type_at (type.Heap (heap.Pointer span bang)) = never
type_at (type.Heap (heap.Endpoint contract side state bang in_heap)) =
    endpoint_at (record { side = side; state = state; bang = bang; in_heap = in_heap })
