-- Statements that begin with a name.
use Rattle.std.proofs.Common.{◌≡◌, true, false, List, [], ◌++◌, Option, Some, None, refl, ap, ◌∙◌}
use Rattle.std.specs.Prelude.{not, ◌||◌}
use Rattle.source.specs.declared.kind.Kind.TheVariants as kind
use Rattle.source.specs.declared.token.Span.{Span}
use Rattle.tree.specs.Symbols.{Symbol, Fixed, Named, is_kind, by_kind, kind_is, kind_at}
use Rattle.tree.specs.Spelling.{word, name}
use Rattle.syntax.specs.Reading.{never, leads, Fails}
use Rattle.tree.specs.Grammar.{scalar_word}
use Rattle.syntax.specs.Firsts.{opens_side}
use Rattle.tree.specs.Expressions.{TargetTree, Variable, Field, Element, ExpressionTree}
use Rattle.tree.specs.Values.{ValueTree}
use Rattle.tree.specs.StatementTrees.{PlainTree, Declare, Assign, Call, NewChannel}
use Rattle.tree.specs.StatementGrammar.{plain}
use Rattle.tree.specs.declared.types as type_nodes
use Rattle.program.specs.declared.types as kind_nodes
use Rattle.program.specs.declared.types.Scalar.TheVariants as scalar
use Rattle.tree.specs.declared.types.Type.TheVariants as type
use Rattle.tree.specs.declared.types.Heap.TheVariants as heap
use Rattle.syntax.proofs.pieces.Pieces.{ReadsOneWay, both, next, fails_after, stops_never}
use Rattle.syntax.proofs.pieces.Choices.{Form, FormOf, Same, Other, form_way, form_fails}
use Rattle.syntax.proofs.pieces.KindLemmas.{kind_other, other_leads}
use Rattle.syntax.proofs.pieces.CursorLemmas.{fixed_piece, named_piece}
use Rattle.syntax.proofs.NameRests.{Passed, Written, member_rest, Ended, Made, Member, dotted_rest, Called, Indexed, Assigned, NameRest, Pointed, Dotted, Bare, name_rest, member_form, dotted_form, name_rest_piece}
use Rattle.syntax.proofs.PlainLeads.{other}

abbrev pub of_rest : Span → NameRest → PlainTree
of_rest first (Pointed b d) = Declare (record { ty = type.Heap (heap.Pointer first b); name = d.0; value = d.1 })
of_rest first (Dotted (Ended e d)) = Declare (record { ty = type.Heap (heap.Endpoint first e.side e.state e.bang e.in_heap); name = d.0; value = d.1 })
of_rest first (Dotted (Made c)) = NewChannel (record { contract = first; word = c.word; «open» = c.«open»; first = c.first; second = c.second })
of_rest first (Dotted (Member span (Passed p))) = Call (record { name = first; member = Some span; open_paren = p.0; arguments = p.1 })
of_rest first (Dotted (Member span (Written v))) = Assign (record { target = Field first span; value = v })
of_rest first (Bare (Called p)) = Call (record { name = first; member = None; open_paren = p.0; arguments = p.1 })
of_rest first (Bare (Indexed e v)) = Assign (record { target = Element first e; value = v })
of_rest first (Bare (Assigned v)) = Assign (record { target = Variable first; value = v })

abbrev pub named : Span × NameRest → List Symbol
named = both name name_rest

abbrev pub of_named : Span × NameRest → PlainTree
of_named p = of_rest p.0 p.1

pub named_form : Form plain named of_named (is_kind kind.Name)
named_form = record {
  first = record { each = λ p. record { head = Named p.0; tail = _; is = refl; first = refl } };
  same = λ p. same p.0 p.1;
  each = each;
}
  where
    same : (first : Span) (x : NameRest) → plain (of_rest first x) ≡ name first ++ name_rest x
    same first (Pointed b d) = refl
    same first (Dotted (Ended e d)) = refl
    same first (Dotted (Made c)) = refl
    same first (Dotted (Member span (Passed p))) = refl
    same first (Dotted (Member span (Written v))) = refl
    same first (Bare (Called p)) = refl
    same first (Bare (Indexed e v)) = refl
    same first (Bare (Assigned v)) = refl

    scalar_other : (s : kind_nodes.Scalar.Scalar) → not (kind_is kind.Name (Some (scalar_word s))) ≡ true
    scalar_other scalar.Int = refl
    scalar_other scalar.Bool = refl
    scalar_other scalar.Byte = refl

    declare : (t : type_nodes.Type.Type) (span : Span) (o : Option ValueTree) → FormOf plain of_named (is_kind kind.Name) (Declare (record { ty = t; name = span; value = o }))
    declare (type.Scalar s) span o = Other (record { head = Fixed (scalar_word s); tail = _; is = refl; first = scalar_other s })
    declare (type.Heap (heap.Array s b)) span o = Other (record { head = Fixed (scalar_word s); tail = _; is = refl; first = scalar_other s })
    declare (type.Heap (heap.Pointer first b)) span o = Same (first, Pointed b (span, o)) refl
    declare (type.Heap (heap.Endpoint first end state bang in_heap)) span o = Same (first, Dotted (Ended (record { side = end; state = state; bang = bang; in_heap = in_heap }) (span, o))) refl

    assign : (t : TargetTree) (v : ValueTree) → FormOf plain of_named (is_kind kind.Name) (Assign (record { target = t; value = v }))
    assign (Variable first) v = Same (first, Bare (Assigned v)) refl
    assign (Field first span) v = Same (first, Dotted (Member span (Written v))) refl
    assign (Element first e) v = Same (first, Bare (Indexed e v)) refl

    call : (first left : Span) (o : Option Span) (es : List ExpressionTree) → FormOf plain of_named (is_kind kind.Name) (Call (record { name = first; member = o; open_paren = left; arguments = es }))
    call first left None es = Same (first, Bare (Called (left, es))) refl
    call first left (Some span) es = Same (first, Dotted (Member span (Passed (left, es)))) refl

    each : (z : PlainTree) → FormOf plain of_named (is_kind kind.Name) z
    each (Declare d) = declare d.ty d.name d.value
    each (Assign a) = assign a.target a.value
    each (Call c) = call c.name c.open_paren c.member c.arguments
    each (NewChannel n) = Same (n.contract, Dotted (Made (record { word = n.word; «open» = n.«open»; first = n.first; second = n.second }))) refl
    each z = other kind.Name z refl

pub named_way : (first : Span) (x : NameRest) → ReadsOneWay plain never (λ _. never) (of_rest first x)
named_way first x = form_way named_form (λ _ r h. h) ((next named_piece name_rest_piece).each (first, x))

-- a failure after the part that is already read, as one of the whole statement

pub name_lift : {old new : List Symbol} (first : Span) → Fails name_rest never old new → Fails plain never (name first ++ old) new
name_lift {old} {new} first h = form_fails named_form refl (fails_after first named_piece (refl, stops_never _) h)

pub dot_lift : {old new : List Symbol} (first : Span) → Fails dotted_rest never old new → Fails plain never (name first ++ (word kind.Dot ++ old)) new
dot_lift {old} {new} first h = name_lift first (form_fails dotted_form refl (fails_after tt (fixed_piece kind.Dot) (refl, stops_never _) h))

pub member_lift : {old new : List Symbol} (first span : Span) → Fails member_rest never old new → Fails plain never (name first ++ (word kind.Dot ++ (name span ++ old))) new
member_lift {old} {new} first span h = dot_lift first (form_fails member_form refl (fails_after span named_piece (refl, stops_never _) h))

-- the next token begins neither an end of a channel nor a new channel
pub member_leads : (ys : List Symbol) → (ys ≡ [] → ⊥) → opens_side (kind_at ys) ≡ false → (kind_at ys ≡ Some kind.NewChannel → ⊥) → leads (λ y. not (by_kind (λ k. opens_side k || kind_is kind.NewChannel k) y)) ys ≡ true
member_leads ys some no_side no_channel = other_leads (λ k. opens_side k || kind_is kind.NewChannel k) ys some refl (ap (λ b. b || kind_is kind.NewChannel (kind_at ys)) no_side ∙ kind_other kind.NewChannel (kind_at ys) no_channel)
