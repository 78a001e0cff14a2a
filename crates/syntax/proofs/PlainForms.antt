-- The forms of a statement that holds no others, except those that begin with a name; each is read in one way.
use Rattle.std.proofs.Common.{◌≡◌, Bool, true, false, List, ◌++◌, Option, Some, None, refl, ap}
use Rattle.std.specs.Prelude.{not, is_some}
use Rattle.source.specs.declared.kind.Kind.{Kind}
use Rattle.source.specs.declared.kind.Kind.TheVariants as kind
use Rattle.source.specs.declared.token.Span.{Span}
use Rattle.tree.specs.Symbols.{Symbol, Fixed, Placed, Named, is_kind, by_kind}
use Rattle.syntax.specs.Reading.{never, Stops, optional_at}
use Rattle.tree.specs.Grammar.{scalar_word}
use Rattle.syntax.specs.Firsts.{scalar_of}
use Rattle.syntax.specs.Types.{scalar_type, scalar_at, of_scalar}
use Rattle.tree.specs.Expressions.{ExpressionTree, TargetTree, Variable, Field, Element}
use Rattle.tree.specs.Values.{ValueTree, CallTree}
use Rattle.tree.specs.StatementTrees.{PlainTree, Declare, Assign, Call, Start, Delete, Exchange, NewChannel, Break, Continue, Return}
use Rattle.tree.specs.StatementGrammar.{exchange, plain}
use Rattle.syntax.specs.StatementParts.{declared, jump, start, return_parts}
use Rattle.tree.specs.declared.types as type_nodes
use Rattle.program.specs.declared.types as kind_nodes
use Rattle.program.specs.declared.types.Scalar.TheVariants as scalar
use Rattle.tree.specs.declared.types.Type.TheVariants as type
use Rattle.tree.specs.declared.types.Heap.TheVariants as heap
use Rattle.syntax.specs.declared.fronts as parts
use Rattle.syntax.proofs.pieces.Pieces.{Piece, ReadsOneWay, Follows, Meets, both, both_piece, next, via_piece}
use Rattle.syntax.proofs.pieces.Beginnings.{Begins}
use Rattle.syntax.proofs.pieces.Choices.{Form, FormOf, Same, Other, form_way}
use Rattle.syntax.proofs.pieces.CursorLemmas.{fixed_piece, named_piece}
use Rattle.syntax.proofs.pieces.KindLemmas.{apart_kinds}
use Rattle.syntax.proofs.definitions.TypeRules.{scalar_type_piece}
use Rattle.syntax.proofs.definitions.TypeForms.{scalar_form}
use Rattle.syntax.proofs.PlainRules.{declared_piece, jump_piece, exchange_piece, start_piece, return_piece}
use Rattle.syntax.proofs.PlainLeads.{assign_begins, begins_by, other}
use Rattle.syntax.proofs.NameRests.{Passed, Written, Ended, Made, Member, Called, Indexed, Assigned, Pointed, Dotted, Bare}
use Rattle.syntax.proofs.NamedForms.{named_way}

pub break_form : Form plain (jump kind.Break) Break (is_kind kind.Break)
break_form = record { first = record { each = λ x. record { head = Placed kind.Break x; tail = _; is = refl; first = refl } }; same = λ x. refl; each = each }
  where
    each : (z : PlainTree) → FormOf plain Break (is_kind kind.Break) z
    each (Break span) = Same span refl
    each z = other kind.Break z refl

pub continue_form : Form plain (jump kind.Continue) Continue (is_kind kind.Continue)
continue_form = record { first = record { each = λ x. record { head = Placed kind.Continue x; tail = _; is = refl; first = refl } }; same = λ x. refl; each = each }
  where
    each : (z : PlainTree) → FormOf plain Continue (is_kind kind.Continue) z
    each (Continue span) = Same span refl
    each z = other kind.Continue z refl

-- "delete" ID ";"

abbrev pub deletes : Span → List Symbol
deletes span = plain (Delete span)

abbrev pub delete_to : Span → Unit {0} × (Span × Unit {0})
delete_to span = (tt, (span, tt))

abbrev pub delete_from : Unit {0} × (Span × Unit {0}) → Span
delete_from p = p.1.0

delete_piece : Piece deletes never (λ _. never)
delete_piece = via_piece delete_to delete_from (λ _. refl) (next (fixed_piece kind.Delete) (next named_piece (fixed_piece kind.Semicolon)))

pub delete_form : Form plain deletes Delete (is_kind kind.Delete)
delete_form = record { first = record { each = λ x. record { head = Fixed kind.Delete; tail = _; is = refl; first = refl } }; same = λ x. refl; each = each }
  where
    each : (z : PlainTree) → FormOf plain Delete (is_kind kind.Delete) z
    each (Delete span) = Same span refl
    each z = other kind.Delete z refl

pub exchange_form : Form plain exchange Exchange (is_kind kind.Exchange)
exchange_form = record { first = record { each = λ e. record { head = Placed kind.Exchange e.word; tail = _; is = refl; first = refl } }; same = λ e. refl; each = each }
  where
    each : (z : PlainTree) → FormOf plain Exchange (is_kind kind.Exchange) z
    each (Exchange e) = Same e refl
    each z = other kind.Exchange z refl

abbrev pub of_return : Span × Option ExpressionTree → PlainTree
of_return p = Return p.0 p.1

pub return_form : Form plain return_parts of_return (is_kind kind.Return)
return_form = record { first = record { each = λ x. record { head = Placed kind.Return x.0; tail = _; is = refl; first = refl } }; same = λ x. refl; each = each }
  where
    each : (z : PlainTree) → FormOf plain of_return (is_kind kind.Return) z
    each (Return span e) = Same (span, e) refl
    each z = other kind.Return z refl

abbrev pub of_start : Span × CallTree → PlainTree
of_start p = Start p.0 p.1

pub start_form : Form plain start of_start (is_kind kind.Start)
start_form = record { first = record { each = λ x. record { head = Placed kind.Start x.0; tail = _; is = refl; first = refl } }; same = λ x. refl; each = each }
  where
    each : (z : PlainTree) → FormOf plain of_start (is_kind kind.Start) z
    each (Start span c) = Same (span, c) refl
    each z = other kind.Start z refl

-- a declaration that begins with a scalar

abbrev pub scalar_declared : parts.ScalarType.ScalarType × (Span × Option ValueTree) → List Symbol
scalar_declared = both scalar_type declared

abbrev pub of_declared : parts.ScalarType.ScalarType × (Span × Option ValueTree) → PlainTree
of_declared p = Declare (record { ty = of_scalar p.0; name = p.1.0; value = p.1.1 })

pub declared_follows : Follows (is_kind kind.OpenBracket) declared never
declared_follows = record { each = λ d r h. refl }

declared_meets : Meets scalar_at declared (λ _. never)
declared_meets = record { here = λ s. each s.array }
  where
    each : (o : Option (Option Span)) (d : Span × Option ValueTree) (r : List Symbol) → Stops never r → Stops (optional_at (is_kind kind.OpenBracket) (λ _. never) o) (declared d ++ r)
    each None d r h = refl
    each (Some b) d r h = refl

pub scalar_declared_piece : Piece scalar_declared never (λ _. never)
scalar_declared_piece = both_piece scalar_type_piece declared_piece declared_follows declared_meets

abbrev pub opens_scalar : Option Kind → Bool
opens_scalar k = is_some (scalar_of k)

scalar_opens : (s : kind_nodes.Scalar.Scalar) → opens_scalar (Some (scalar_word s)) ≡ true
scalar_opens scalar.Int = refl
scalar_opens scalar.Bool = refl
scalar_opens scalar.Byte = refl

away : (z : PlainTree) (opening : Kind) → Begins plain (is_kind opening) z → opens_scalar (Some opening) ≡ false → FormOf plain of_declared (by_kind opens_scalar) z
away z opening b h = Other (record { head = b.head; tail = b.tail; is = b.is; first = ap not (apart_kinds opens_scalar opening h b.head b.first) })

pub scalar_declared_form : Form plain scalar_declared of_declared (by_kind opens_scalar)
scalar_declared_form = record {
  first = record { each = λ p. record { head = Fixed (scalar_word p.0.scalar); tail = _; is = refl; first = scalar_opens p.0.scalar } };
  same = λ p. ap (λ l. l ++ declared p.1) (scalar_form.same p.0);
  each = each;
}
  where
    declare : (t : type_nodes.Type.Type) (span : Span) (o : Option ValueTree) → FormOf plain of_declared (by_kind opens_scalar) (Declare (record { ty = t; name = span; value = o }))
    declare (type.Scalar s) span o = Same (record { scalar = s; array = None }, (span, o)) refl
    declare (type.Heap (heap.Array s b)) span o = Same (record { scalar = s; array = Some b }, (span, o)) refl
    declare (type.Heap (heap.Pointer first b)) span o = Other (record { head = Named first; tail = _; is = refl; first = refl })
    declare (type.Heap (heap.Endpoint first end state bang in_heap)) span o = Other (record { head = Named first; tail = _; is = refl; first = refl })

    each : (z : PlainTree) → FormOf plain of_declared (by_kind opens_scalar) z
    each (Declare d) = declare d.ty d.name d.value
    each (Assign a) = away (Assign a) kind.Name (assign_begins a.target a.value) refl
    each (Call c) = away (Call c) kind.Name (begins_by (Call c)) refl
    each (Start span c) = away (Start span c) kind.Start (begins_by (Start span c)) refl
    each (Delete span) = away (Delete span) kind.Delete (begins_by (Delete span)) refl
    each (Exchange e) = away (Exchange e) kind.Exchange (begins_by (Exchange e)) refl
    each (NewChannel n) = away (NewChannel n) kind.Name (begins_by (NewChannel n)) refl
    each (Break span) = away (Break span) kind.Break (begins_by (Break span)) refl
    each (Continue span) = away (Continue span) kind.Continue (begins_by (Continue span)) refl
    each (Return span e) = away (Return span e) kind.Return (begins_by (Return span e)) refl

-- each is read in one way

declare_way : (t : type_nodes.Type.Type) (span : Span) (o : Option ValueTree) → ReadsOneWay plain never (λ _. never) (Declare (record { ty = t; name = span; value = o }))
declare_way (type.Scalar s) span o = form_way scalar_declared_form (λ _ r h. h) (scalar_declared_piece.each (record { scalar = s; array = None }, (span, o)))
declare_way (type.Heap (heap.Array s b)) span o = form_way scalar_declared_form (λ _ r h. h) (scalar_declared_piece.each (record { scalar = s; array = Some b }, (span, o)))
declare_way (type.Heap (heap.Pointer first b)) span o = named_way first (Pointed b (span, o))
declare_way (type.Heap (heap.Endpoint first end state bang in_heap)) span o = named_way first (Dotted (Ended (record { side = end; state = state; bang = bang; in_heap = in_heap }) (span, o)))

assign_way : (t : TargetTree) (v : ValueTree) → ReadsOneWay plain never (λ _. never) (Assign (record { target = t; value = v }))
assign_way (Variable first) v = named_way first (Bare (Assigned v))
assign_way (Field first span) v = named_way first (Dotted (Member span (Written v)))
assign_way (Element first e) v = named_way first (Bare (Indexed e v))

call_way : (first left : Span) (o : Option Span) (es : List ExpressionTree) → ReadsOneWay plain never (λ _. never) (Call (record { name = first; member = o; open_paren = left; arguments = es }))
call_way first left None es = named_way first (Bare (Called (left, es)))
call_way first left (Some span) es = named_way first (Dotted (Member span (Passed (left, es))))

plain_way : (x : PlainTree) → ReadsOneWay plain never (λ _. never) x
plain_way (Declare d) = declare_way d.ty d.name d.value
plain_way (Assign a) = assign_way a.target a.value
plain_way (Call c) = call_way c.name c.open_paren c.member c.arguments
plain_way (Start span c) = form_way start_form (λ _ r h. h) (start_piece.each (span, c))
plain_way (Delete span) = form_way delete_form (λ _ r h. h) (delete_piece.each span)
plain_way (Exchange e) = form_way exchange_form (λ _ r h. h) (exchange_piece.each e)
plain_way (NewChannel n) = named_way n.contract (Dotted (Made (record { word = n.word; «open» = n.«open»; first = n.first; second = n.second })))
plain_way (Break span) = form_way break_form (λ _ r h. h) ((jump_piece kind.Break).each span)
plain_way (Continue span) = form_way continue_form (λ _ r h. h) ((jump_piece kind.Continue).each span)
plain_way (Return span e) = form_way return_form (λ _ r h. h) (return_piece.each (span, e))

pub plain_piece : Piece plain never (λ _. never)
plain_piece = record { some = Delete named_piece.some; each = plain_way }
