-- Structs as parts of the grammar.
use Rattle.std.proofs.Common.{◌≡◌, true, false, List, [], ◌∷◌, ◌++◌, Option, Some, None, refl, sym, ap, subst}
use Rattle.std.specs.List.{flat_map}
use Rattle.source.specs.declared.kind.Kind.{Kind}
use Rattle.source.specs.declared.kind.Kind.TheVariants as kind
use Rattle.source.specs.declared.token.Span.{Span}
use Rattle.tree.specs.Symbols.{Symbol, Fixed, by_kind, kind_at}
use Rattle.tree.specs.Spelling.{name, in_braces}
use Rattle.syntax.specs.Reading.{never, Stops, optional_at}
use Rattle.tree.specs.Grammar.{access_word, value_type}
use Rattle.syntax.specs.Firsts.{opens_access, opens_type, opens_field}
use Rattle.syntax.specs.Types.{type_on, type_at}
use Rattle.tree.specs.Trees.{StructTree}
use Rattle.tree.specs.Programs.{field, struct}
use Rattle.tree.specs.declared.class as made
use Rattle.tree.specs.declared.item as item_nodes
use Rattle.tree.specs.declared.types as type_nodes
use Rattle.tree.specs.declared.item.Access.TheVariants as access
use Rattle.syntax.proofs.pieces.Pieces.{Piece, Follows, Meets, both, both_piece, next, via_piece, stops_never}
use Rattle.syntax.proofs.pieces.Beginnings.{Begins, Starts, splits_self}
use Rattle.syntax.proofs.pieces.Repeats.{many_piece}
use Rattle.syntax.proofs.pieces.Enclosed.{InBraces, braced_piece}
use Rattle.syntax.proofs.pieces.CursorLemmas.{fixed, fixed_piece, named_piece}
use Rattle.syntax.proofs.definitions.TypeForms.{type_piece, type_meets}
use Rattle.syntax.proofs.definitions.AccessRules.{access_piece}
use Rattle.syntax.proofs.CaseRules.{type_starts}

-- field = [ access ] type ID ";" .

abbrev pub named_end : Span × Unit {0} → List Symbol
named_end = both name (fixed kind.Semicolon)

pub named_end_piece : Piece named_end never (λ _. never)
named_end_piece = next named_piece (fixed_piece kind.Semicolon)

pub type_ends : Follows type_on named_end never
type_ends = record { each = λ p r h. refl }

type_met : Meets type_at named_end (λ _. never)
type_met = record { here = λ t p r h. type_meets.here t p.0 [] tt }

abbrev Behind : Type 0
Behind = type_nodes.Type.Type × (Span × Unit {0})

abbrev pub type_and_name : Behind → List Symbol
type_and_name = both value_type named_end

pub behind_piece : Piece type_and_name never (λ _. never)
behind_piece = both_piece type_piece named_end_piece type_ends type_met

abbrev pub field_to : made.Field.Field → Option item_nodes.Access.Access × Behind
field_to f = (f.access, (f.ty, (f.name, tt)))

abbrev pub field_from : Option item_nodes.Access.Access × Behind → made.Field.Field
field_from p = record { access = p.0; ty = p.1.0; name = p.1.1.0 }

-- no type begins with an access word
type_apart : (k : Option Kind) → opens_type k ≡ true → opens_access k ≡ false
type_apart (Some kind.Public) h = sym h
type_apart (Some kind.Private) h = sym h
type_apart (Some kind.Internal) h = sym h
type_apart k h = refl

access_stops : (p : Behind) (r : List Symbol) → Stops (by_kind opens_access) (type_and_name p ++ r)
access_stops p r =
    let b = type_starts.each p.0 in
    subst (λ l. Stops (by_kind opens_access) ((l ++ named_end p.1) ++ r)) (sym b.is) (type_apart (kind_at (b.head ∷ [])) b.first)

pub field_follows : Follows (by_kind opens_access) type_and_name never
field_follows = record { each = λ p r h. access_stops p r }

field_meets : Meets {X = Option item_nodes.Access.Access} (optional_at (by_kind opens_access) (λ _. never)) type_and_name (λ _. never)
field_meets = record { here = elim [ None ↦ λ p r h. access_stops p r | Some a ↦ λ p r h. stops_never (type_and_name p ++ r) ] }

pub field_piece : Piece field never (λ _. never)
field_piece = via_piece field_to field_from (λ _. refl) (both_piece access_piece behind_piece field_follows field_meets)

pub field_starts : Starts field (by_kind opens_field)
field_starts = record { each = λ f. begins f.access f.ty f.name }
  where
    worded : (a : item_nodes.Access.Access) → opens_field (Some (access_word a)) ≡ true
    worded access.Public = refl
    worded access.Private = refl
    worded access.Internal = refl

    typed : (k : Option Kind) → opens_type k ≡ true → opens_field k ≡ true
    typed (Some kind.Public) h = refl
    typed (Some kind.Private) h = refl
    typed (Some kind.Internal) h = refl
    typed k h = h

    begins : (o : Option item_nodes.Access.Access) (t : type_nodes.Type.Type) (span : Span) → Begins field (by_kind opens_field) (record { access = o; ty = t; name = span })
    begins None t span =
        let b = type_starts.each t in
        record { head = b.head; tail = b.tail ++ named_end (span, tt); is = ap (λ l. l ++ named_end (span, tt)) b.is; first = typed (kind_at (b.head ∷ [])) b.first }
    begins (Some a) t span = record { head = Fixed (access_word a); tail = _; is = refl; first = worded a }

-- { field }

pub fields_inside : InBraces (flat_map field) (by_kind opens_field) (λ _. by_kind opens_field)
fields_inside = record { on = λ _. refl; here = λ _ _. refl }

pub field_sequence_piece : Piece (flat_map field) (by_kind opens_field) (λ _. by_kind opens_field)
field_sequence_piece = many_piece field_starts splits_self field_piece

pub fields_piece : Piece (in_braces (flat_map field)) never (λ _. never)
fields_piece = braced_piece fields_inside field_sequence_piece

-- struct = "rep" "struct" ID "{" { field } "}" .

abbrev pub struct_to : StructTree → Unit {0} × (Unit {0} × (Span × (List made.Field.Field × Span)))
struct_to s = (tt, (tt, (s.name, (s.fields, s.close))))

abbrev pub struct_from : Unit {0} × (Unit {0} × (Span × (List made.Field.Field × Span))) → StructTree
struct_from p = record { name = p.1.1.0; fields = p.1.1.1.0; close = p.1.1.1.1 }

pub struct_piece : Piece struct never (λ _. never)
struct_piece = via_piece struct_to struct_from (λ _. refl) (next (fixed_piece kind.Rep) (next (fixed_piece kind.Struct) (next named_piece fields_piece)))
