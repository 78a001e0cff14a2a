-- Classes as parts of the grammar.
use Rattle.std.proofs.Common.{◌≡◌, Bool, true, false, List, [], ◌∷◌, ◌++◌, Option, Some, None, refl, sym, ap, subst}
use Rattle.std.specs.Prelude.{not}
use Rattle.std.specs.List.{flat_map}
use Rattle.source.specs.declared.kind.Kind.{Kind}
use Rattle.source.specs.declared.kind.Kind.TheVariants as kind
use Rattle.source.specs.declared.token.Span.{Span}
use Rattle.tree.specs.Symbols.{Symbol, Fixed, by_kind, is_kind, kind_at}
use Rattle.tree.specs.Spelling.{name, when, comma_list, in_braces, parens}
use Rattle.syntax.specs.Reading.{never, Stops, optional_at, when_at, listed_on, listed_at}
use Rattle.tree.specs.Grammar.{access_word, value_type}
use Rattle.syntax.specs.Firsts.{opens_access, opens_type, opens_parameter, opens_method}
use Rattle.syntax.specs.Types.{type_on}
use Rattle.tree.specs.StatementTrees.{BlockTree}
use Rattle.tree.specs.StatementGrammar.{block}
use Rattle.tree.specs.Trees.{MethodTree, ClassTree}
use Rattle.tree.specs.Programs.{result_type, claims_words, parameter, method, class}
use Rattle.syntax.specs.ClassParts.{result_at}
use Rattle.tree.specs.declared.class as made
use Rattle.tree.specs.declared.item as item_nodes
use Rattle.tree.specs.declared.types as type_nodes
use Rattle.tree.specs.declared.item.Access.TheVariants as access
use Rattle.syntax.proofs.pieces.Pieces.{Piece, Follows, Meets, ReadsOneWay, both, both_piece, next, via_piece, wide_way, stops_never}
use Rattle.syntax.proofs.pieces.Beginnings.{Begins, Starts, splits_self}
use Rattle.syntax.proofs.pieces.Repeats.{many_piece}
use Rattle.syntax.proofs.pieces.Options.{when_piece}
use Rattle.syntax.proofs.pieces.Choices.{Form, FormOf, Same, Other, form_way}
use Rattle.syntax.proofs.pieces.Enclosed.{InBraces, InParens, braced_piece, parens_piece}
use Rattle.syntax.proofs.pieces.Listed.{Item, listed_piece}
use Rattle.syntax.proofs.pieces.KindLemmas.{kinds_apart}
use Rattle.syntax.proofs.pieces.CursorLemmas.{fixed, fixed_piece, named_piece}
use Rattle.syntax.proofs.definitions.TypeForms.{type_piece, type_follows, type_meets}
use Rattle.syntax.proofs.definitions.AccessRules.{access_piece}
use Rattle.syntax.proofs.CaseRules.{type_starts}
use Rattle.syntax.proofs.StatementWays.{block_piece}

-- claims = "[" "Claims" "]" .

abbrev pub claims_to : Unit {0} → Unit {0} × (Unit {0} × Unit {0})
claims_to u = (tt, (tt, tt))

abbrev pub claims_from : Unit {0} × (Unit {0} × Unit {0}) → Unit {0}
claims_from p = tt

pub claims_piece : Piece {X = Unit {0}} (λ _. claims_words) never (λ _. never)
claims_piece = via_piece claims_to claims_from (λ _. refl) (next (fixed_piece kind.OpenBracket) (next (fixed_piece kind.Claims) (fixed_piece kind.CloseBracket)))

pub claims_starts : Starts {X = Unit {0}} (λ _. claims_words) (is_kind kind.OpenBracket)
claims_starts = record { each = λ u. record { head = Fixed kind.OpenBracket; tail = _; is = refl; first = refl } }

pub maybe_claims_piece : Piece (when claims_words) (is_kind kind.OpenBracket) (when_at (is_kind kind.OpenBracket))
maybe_claims_piece = when_piece claims_words claims_piece claims_starts splits_self

-- parameter = [ claims ] type ID .

abbrev pub typed_name : type_nodes.Type.Type × Span → List Symbol
typed_name = both value_type name

pub typed_name_piece : Piece typed_name never (λ _. never)
typed_name_piece = both_piece type_piece named_piece type_follows type_meets

type_stops : (p : type_nodes.Type.Type × Span) (r : List Symbol) → Stops (is_kind kind.OpenBracket) (typed_name p ++ r)
type_stops p r =
    let b = type_starts.each p.0 in
    subst (λ l. Stops (is_kind kind.OpenBracket) ((l ++ name p.1) ++ r)) (sym b.is) (kinds_apart opens_type kind.OpenBracket refl b.head b.first)

pub claims_follows : Follows (is_kind kind.OpenBracket) typed_name never
claims_follows = record { each = λ p r h. type_stops p r }

claims_meets : Meets {X = Bool} (when_at (is_kind kind.OpenBracket)) typed_name (λ _. never)
claims_meets = record { here = elim [ true ↦ λ p r h. stops_never (typed_name p ++ r) | false ↦ λ p r h. type_stops p r ] }

abbrev pub parameter_to : made.Parameter.Parameter → Bool × (type_nodes.Type.Type × Span)
parameter_to p = (p.claims, (p.ty, p.name))

abbrev pub parameter_from : Bool × (type_nodes.Type.Type × Span) → made.Parameter.Parameter
parameter_from p = record { claims = p.0; ty = p.1.0; name = p.1.1 }

pub parameter_piece : Piece parameter never (λ _. never)
parameter_piece = via_piece parameter_to parameter_from (λ _. refl) (both_piece maybe_claims_piece typed_name_piece claims_follows claims_meets)

pub parameter_item : Item parameter opens_parameter
parameter_item = record { piece = parameter_piece; begin = record { each = λ p. begins p.claims p.ty p.name }; apart = refl }
  where
    typed : (k : Option Kind) → opens_type k ≡ true → opens_parameter k ≡ true
    typed (Some kind.OpenBracket) h = refl
    typed k h = h

    begins : (c : Bool) (t : type_nodes.Type.Type) (span : Span) → Begins parameter (by_kind opens_parameter) (record { claims = c; ty = t; name = span })
    begins true t span = record { head = Fixed kind.OpenBracket; tail = _; is = refl; first = refl }
    begins false t span =
        let b = type_starts.each t in
        record { head = b.head; tail = b.tail ++ name span; is = ap (λ l. l ++ name span) b.is; first = typed (kind_at (b.head ∷ [])) b.first }

-- "(" [ parameter { "," parameter } ] ")"

pub parameters_inside : InParens (comma_list parameter) (listed_on (by_kind opens_parameter)) (listed_at (by_kind opens_parameter))
parameters_inside = record { on = refl; here = elim [ [] ↦ refl | p ∷ ps ↦ refl ] }

pub parameter_list_piece : Piece (comma_list parameter) (listed_on (by_kind opens_parameter)) (listed_at (by_kind opens_parameter))
parameter_list_piece = listed_piece parameter_item

pub parameters_piece : Piece (parens (comma_list parameter)) never (λ _. never)
parameters_piece = parens_piece parameters_inside parameter_list_piece

-- result = "void" | type .

abbrev pub of_void : Unit {0} → Option type_nodes.Type.Type
of_void u = None

abbrev pub of_type : type_nodes.Type.Type → Option type_nodes.Type.Type
of_type t = Some t

pub void_form : Form result_type (fixed kind.Void) of_void (is_kind kind.Void)
void_form = record { first = record { each = λ u. record { head = Fixed kind.Void; tail = []; is = refl; first = refl } }; same = λ u. refl; each = each }
  where
    each : (o : Option type_nodes.Type.Type) → FormOf result_type of_void (is_kind kind.Void) o
    each None = Same tt refl
    each (Some t) =
        let b = type_starts.each t in
        Other (record { head = b.head; tail = b.tail; is = b.is; first = ap not (kinds_apart opens_type kind.Void refl b.head b.first) })

pub type_form : Form result_type value_type of_type (λ y. not (is_kind kind.Void y))
type_form = record { first = record { each = first }; same = λ t. refl; each = each }
  where
    first : (t : type_nodes.Type.Type) → Begins value_type (λ y. not (is_kind kind.Void y)) t
    first t =
        let b = type_starts.each t in
        record { head = b.head; tail = b.tail; is = b.is; first = ap not (kinds_apart opens_type kind.Void refl b.head b.first) }

    each : (o : Option type_nodes.Type.Type) → FormOf result_type of_type (λ y. not (is_kind kind.Void y)) o
    each None = Other (record { head = Fixed kind.Void; tail = []; is = refl; first = refl })
    each (Some t) = Same t refl

pub result_piece : Piece result_type type_on result_at
result_piece = record { some = None; each = way }
  where
    way : (o : Option type_nodes.Type.Type) → ReadsOneWay result_type type_on result_at o
    way None = form_way void_form (λ _ r h. h) (wide_way (λ y h. refl) ((fixed_piece kind.Void).each tt))
    way (Some t) = form_way type_form (λ _ r h. h) (type_piece.each t)

-- method = [ access ] "static" result ID parameters block .

abbrev pub Signature : Type 0
Signature = Span × ((Span × List made.Parameter.Parameter) × BlockTree)

abbrev pub signature : Signature → List Symbol
signature = both name (both (parens (comma_list parameter)) block)

pub signature_piece : Piece signature never (λ _. never)
signature_piece = next named_piece (next parameters_piece block_piece)

pub result_follows : Follows type_on signature never
result_follows = record { each = λ p r h. refl }

result_meets : Meets result_at signature (λ _. never)
result_meets = record { here = elim [ None ↦ λ p r h. stops_never (signature p ++ r) | Some t ↦ λ p r h. type_meets.here t p.0 [] tt ] }

pub result_end : Piece (both result_type signature) never (λ _. never)
result_end = both_piece result_piece signature_piece result_follows result_meets

abbrev pub behind_access : Unit {0} × (Option type_nodes.Type.Type × Signature) → List Symbol
behind_access = both (fixed kind.Static) (both result_type signature)

pub behind_piece : Piece behind_access never (λ _. never)
behind_piece = next (fixed_piece kind.Static) result_end

pub method_follows : Follows (by_kind opens_access) behind_access never
method_follows = record { each = λ p r h. refl }

pub method_meets : Meets {X = Option item_nodes.Access.Access} (optional_at (by_kind opens_access) (λ _. never)) behind_access (λ _. never)
method_meets = record { here = elim [ None ↦ λ p r h. refl | Some a ↦ λ p r h. refl ] }

abbrev pub method_to : MethodTree → Option item_nodes.Access.Access × (Unit {0} × (Option type_nodes.Type.Type × Signature))
method_to m = (m.access, (tt, (m.result, (m.name, ((m.open_paren, m.params), m.body)))))

abbrev pub method_from : Option item_nodes.Access.Access × (Unit {0} × (Option type_nodes.Type.Type × Signature)) → MethodTree
method_from p = record { access = p.0; result = p.1.1.0; name = p.1.1.1.0; open_paren = p.1.1.1.1.0.0; params = p.1.1.1.1.0.1; body = p.1.1.1.1.1 }

pub method_piece : Piece method never (λ _. never)
method_piece = via_piece method_to method_from (λ _. refl) (both_piece access_piece behind_piece method_follows method_meets)

pub method_starts : Starts method (by_kind opens_method)
method_starts = record { each = λ m. begins m.access m }
  where
    worded : (a : item_nodes.Access.Access) → opens_method (Some (access_word a)) ≡ true
    worded access.Public = refl
    worded access.Private = refl
    worded access.Internal = refl

    begins : (o : Option item_nodes.Access.Access) (m : MethodTree) → Begins method (by_kind opens_method) (record m { access = o })
    begins None m = record { head = Fixed kind.Static; tail = _; is = refl; first = refl }
    begins (Some a) m = record { head = Fixed (access_word a); tail = _; is = refl; first = worded a }

-- { method }

pub methods_inside : InBraces (flat_map method) (by_kind opens_method) (λ _. by_kind opens_method)
methods_inside = record { on = λ _. refl; here = λ _ _. refl }

pub method_sequence_piece : Piece (flat_map method) (by_kind opens_method) (λ _. by_kind opens_method)
method_sequence_piece = many_piece method_starts splits_self method_piece

pub methods_piece : Piece (in_braces (flat_map method)) never (λ _. never)
methods_piece = braced_piece methods_inside method_sequence_piece

-- class = "class" ID methods .

abbrev pub class_to : ClassTree → Unit {0} × (Span × (List MethodTree × Span))
class_to c = (tt, (c.name, (c.methods, c.close)))

abbrev pub class_from : Unit {0} × (Span × (List MethodTree × Span)) → ClassTree
class_from p = record { name = p.1.0; methods = p.1.1.0; close = p.1.1.1 }

pub class_piece : Piece class never (λ _. never)
class_piece = via_piece class_to class_from (λ _. refl) (next (fixed_piece kind.Class) (next named_piece methods_piece))
