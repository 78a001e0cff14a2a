-- Statements that begin with a name: what follows the name.
use Rattle.std.proofs.Common.{◌≡◌, Bool, true, List, [], ◌++◌, Option, Some, refl}
use Rattle.std.specs.Prelude.{not, ◌||◌}
use Rattle.source.specs.declared.kind.Kind.TheVariants as kind
use Rattle.source.specs.declared.token.Span.{Span}
use Rattle.tree.specs.Symbols.{Symbol, Fixed, Placed, Named, is_kind, by_kind, kind_is}
use Rattle.tree.specs.Spelling.{word, name, within}
use Rattle.syntax.specs.Reading.{never}
use Rattle.tree.specs.Grammar.{side_word}
use Rattle.syntax.specs.Firsts.{opens_side}
use Rattle.syntax.specs.Types.{endpoint_end, endpoint_on, endpoint_at, pointer_tail}
use Rattle.tree.specs.Expressions.{ExpressionTree, expression}
use Rattle.tree.specs.Values.{ValueTree}
use Rattle.syntax.specs.StatementParts.{declared, assigned, called, channel_ends}
use Rattle.program.specs.declared.types as tree
use Rattle.program.specs.declared.types.Side.TheVariants as side
use Rattle.syntax.specs.declared.fronts as parts
use Rattle.syntax.specs.declared.fronts.NamedTail.TheVariants as tail
use Rattle.syntax.specs.declared.statement_ends.ChannelEnds.{ChannelEnds}
use Rattle.syntax.proofs.pieces.Pieces.{Piece, Follows, Meets, ReadsOneWay, both, both_piece, next}
use Rattle.syntax.proofs.pieces.Beginnings.{Begins}
use Rattle.syntax.proofs.pieces.Choices.{Form, FormOf, Same, Other, form_way}
use Rattle.syntax.proofs.pieces.CursorLemmas.{fixed_piece, named_piece}
use Rattle.syntax.proofs.definitions.TypeRules.{pointer_piece}
use Rattle.syntax.proofs.definitions.EndpointRules.{endpoint_end_piece}
use Rattle.syntax.proofs.CaseRules.{tail_meets}
use Rattle.syntax.proofs.PlainRules.{declared_piece, assigned_piece, called_piece, channel_ends_piece}
use Rattle.syntax.proofs.ExpressionFails.{index_piece}

-- after a name, a dot and a name
pub data MemberRest : Type 0 where
  Passed : Span × List ExpressionTree → MemberRest
  Written : ValueTree → MemberRest

abbrev pub member_rest : MemberRest → List Symbol
member_rest (Passed p) = called p
member_rest (Written v) = assigned v

pub passed_form : Form member_rest called Passed (is_kind kind.OpenParen)
passed_form = record {
  first = record { each = λ p. record { head = Placed kind.OpenParen p.0; tail = _; is = refl; first = refl } };
  same = λ p. refl;
  each = elim [ Passed p ↦ Same p refl | Written v ↦ Other (record { head = Fixed kind.Equal; tail = _; is = refl; first = refl }) ];
}

pub written_form : Form member_rest assigned Written (λ y. not (is_kind kind.OpenParen y))
written_form = record {
  first = record { each = λ v. record { head = Fixed kind.Equal; tail = _; is = refl; first = refl } };
  same = λ v. refl;
  each = elim [ Passed p ↦ Other (record { head = Placed kind.OpenParen p.0; tail = _; is = refl; first = refl }) | Written v ↦ Same v refl ];
}

pub member_rest_piece : Piece member_rest never (λ _. never)
member_rest_piece = record { some = Written assigned_piece.some; each = way }
  where
    way : (x : MemberRest) → ReadsOneWay member_rest never (λ _. never) x
    way (Passed p) = form_way passed_form (λ _ r h. h) (called_piece.each p)
    way (Written v) = form_way written_form (λ _ r h. h) (assigned_piece.each v)

-- after a name and a dot
pub data DottedRest : Type 0 where
  Ended : parts.EndpointTail.EndpointTail → Span × Option ValueTree → DottedRest
  Made : ChannelEnds → DottedRest
  Member : Span → MemberRest → DottedRest

abbrev pub dotted_rest : DottedRest → List Symbol
dotted_rest (Ended e d) = endpoint_end e ++ declared d
dotted_rest (Made c) = channel_ends c
dotted_rest (Member span x) = name span ++ member_rest x

pub end_follows : Follows endpoint_on declared never
end_follows = record { each = λ d r h. refl }

end_meets : Meets endpoint_at declared (λ _. never)
end_meets = record { here = λ e d r h. tail_meets.here (tail.Endpoint e) d.0 [] tt }

pub ended_piece : Piece (both endpoint_end declared) never (λ _. never)
ended_piece = both_piece endpoint_end_piece declared_piece end_follows end_meets

side_opens : (s : tree.Side.Side) → opens_side (Some (side_word s)) ≡ true
side_opens side.Imp = refl
side_opens side.Exp = refl

side_other : (s : tree.Side.Side) → not (not (opens_side (Some (side_word s)) || kind_is kind.NewChannel (Some (side_word s)))) ≡ true
side_other side.Imp = refl
side_other side.Exp = refl

side_made : (s : tree.Side.Side) → not (kind_is kind.NewChannel (Some (side_word s))) ≡ true
side_made side.Imp = refl
side_made side.Exp = refl

pub ended_form : Form dotted_rest (both endpoint_end declared) (λ p. Ended p.0 p.1) (by_kind opens_side)
ended_form = record {
  first = record { each = λ p. record { head = Fixed (side_word p.0.side); tail = _; is = refl; first = side_opens p.0.side } };
  same = λ p. refl;
  each = elim [
    | Ended e d ↦ Same (e, d) refl
    | Made c ↦ Other (record { head = Placed kind.NewChannel c.word; tail = _; is = refl; first = refl })
    | Member span x ↦ Other (record { head = Named span; tail = _; is = refl; first = refl })
  ];
}

pub made_form : Form dotted_rest channel_ends Made (is_kind kind.NewChannel)
made_form = record {
  first = record { each = λ c. record { head = Placed kind.NewChannel c.word; tail = _; is = refl; first = refl } };
  same = λ c. refl;
  each = elim [
    | Ended e d ↦ Other (record { head = Fixed (side_word e.side); tail = _; is = refl; first = side_made e.side })
    | Made c ↦ Same c refl
    | Member span x ↦ Other (record { head = Named span; tail = _; is = refl; first = refl })
  ];
}

pub member_form : Form dotted_rest (both name member_rest) (λ p. Member p.0 p.1) (λ y. not (by_kind (λ k. opens_side k || kind_is kind.NewChannel k) y))
member_form = record {
  first = record { each = λ p. record { head = Named p.0; tail = _; is = refl; first = refl } };
  same = λ p. refl;
  each = elim [
    | Ended e d ↦ Other (record { head = Fixed (side_word e.side); tail = _; is = refl; first = side_other e.side })
    | Made c ↦ Other (record { head = Placed kind.NewChannel c.word; tail = _; is = refl; first = refl })
    | Member span x ↦ Same (span, x) refl
  ];
}

pub dotted_rest_piece : Piece dotted_rest never (λ _. never)
dotted_rest_piece = record { some = Made channel_ends_piece.some; each = way }
  where
    way : (x : DottedRest) → ReadsOneWay dotted_rest never (λ _. never) x
    way (Ended e d) = form_way ended_form (λ _ r h. h) (ended_piece.each (e, d))
    way (Made c) = form_way made_form (λ _ r h. h) (channel_ends_piece.each c)
    way (Member span x) = form_way member_form (λ _ r h. h) ((next named_piece member_rest_piece).each (span, x))

-- after a name that neither a star nor a dot follows
pub data BareRest : Type 0 where
  Called : Span × List ExpressionTree → BareRest
  Indexed : ExpressionTree → ValueTree → BareRest
  Assigned : ValueTree → BareRest

abbrev pub index : ExpressionTree → List Symbol
index = within kind.OpenBracket expression kind.CloseBracket

abbrev pub bare_rest : BareRest → List Symbol
bare_rest (Called p) = called p
bare_rest (Indexed e v) = index e ++ assigned v
bare_rest (Assigned v) = assigned v

abbrev pub opens_marked : Symbol → Bool
opens_marked y = not (by_kind (λ k. kind_is kind.OpenParen k || kind_is kind.OpenBracket k) y)

pub called_form : Form bare_rest called Called (is_kind kind.OpenParen)
called_form = record {
  first = record { each = λ p. record { head = Placed kind.OpenParen p.0; tail = _; is = refl; first = refl } };
  same = λ p. refl;
  each = elim [
    | Called p ↦ Same p refl
    | Indexed e v ↦ Other (record { head = Fixed kind.OpenBracket; tail = _; is = refl; first = refl })
    | Assigned v ↦ Other (record { head = Fixed kind.Equal; tail = _; is = refl; first = refl })
  ];
}

pub indexed_form : Form bare_rest (both index assigned) (λ p. Indexed p.0 p.1) (is_kind kind.OpenBracket)
indexed_form = record {
  first = record { each = λ p. record { head = Fixed kind.OpenBracket; tail = _; is = refl; first = refl } };
  same = λ p. refl;
  each = elim [
    | Called p ↦ Other (record { head = Placed kind.OpenParen p.0; tail = _; is = refl; first = refl })
    | Indexed e v ↦ Same (e, v) refl
    | Assigned v ↦ Other (record { head = Fixed kind.Equal; tail = _; is = refl; first = refl })
  ];
}

pub assigned_form : Form bare_rest assigned Assigned opens_marked
assigned_form = record {
  first = record { each = λ v. record { head = Fixed kind.Equal; tail = _; is = refl; first = refl } };
  same = λ v. refl;
  each = elim [
    | Called p ↦ Other (record { head = Placed kind.OpenParen p.0; tail = _; is = refl; first = refl })
    | Indexed e v ↦ Other (record { head = Fixed kind.OpenBracket; tail = _; is = refl; first = refl })
    | Assigned v ↦ Same v refl
  ];
}

pub bare_rest_piece : Piece bare_rest never (λ _. never)
bare_rest_piece = record { some = Assigned assigned_piece.some; each = way }
  where
    way : (x : BareRest) → ReadsOneWay bare_rest never (λ _. never) x
    way (Called p) = form_way called_form (λ _ r h. h) (called_piece.each p)
    way (Indexed e v) = form_way indexed_form (λ _ r h. h) ((next index_piece assigned_piece).each (e, v))
    way (Assigned v) = form_way assigned_form (λ _ r h. h) (assigned_piece.each v)

-- after a name
pub data NameRest : Type 0 where
  Pointed : Option Span → Span × Option ValueTree → NameRest
  Dotted : DottedRest → NameRest
  Bare : BareRest → NameRest

abbrev pub name_rest : NameRest → List Symbol
name_rest (Pointed b d) = pointer_tail b ++ declared d
name_rest (Dotted x) = word kind.Dot ++ dotted_rest x
name_rest (Bare x) = bare_rest x

abbrev pub opens_bare : Symbol → Bool
opens_bare y = not (by_kind (λ k. kind_is kind.Star k || kind_is kind.Dot k) y)

pub pointed_form : Form name_rest (both pointer_tail declared) (λ p. Pointed p.0 p.1) (is_kind kind.Star)
pointed_form = record {
  first = record { each = λ p. record { head = Fixed kind.Star; tail = _; is = refl; first = refl } };
  same = λ p. refl;
  each = elim [
    | Pointed b d ↦ Same (b, d) refl
    | Dotted x ↦ Other (record { head = Fixed kind.Dot; tail = _; is = refl; first = refl })
    | Bare x ↦ bare x
  ];
}
  where
    bare : (x : BareRest) → FormOf name_rest (λ (p : Option Span × (Span × Option ValueTree)). Pointed p.0 p.1) (is_kind kind.Star) (Bare x)
    bare (Called p) = Other (record { head = Placed kind.OpenParen p.0; tail = _; is = refl; first = refl })
    bare (Indexed e v) = Other (record { head = Fixed kind.OpenBracket; tail = _; is = refl; first = refl })
    bare (Assigned v) = Other (record { head = Fixed kind.Equal; tail = _; is = refl; first = refl })

pub dotted_form : Form name_rest (λ p. word kind.Dot ++ dotted_rest p.1) (λ (p : Unit {0} × DottedRest). Dotted p.1) (is_kind kind.Dot)
dotted_form = record {
  first = record { each = λ p. record { head = Fixed kind.Dot; tail = _; is = refl; first = refl } };
  same = λ p. refl;
  each = elim [
    | Pointed b d ↦ Other (record { head = Fixed kind.Star; tail = _; is = refl; first = refl })
    | Dotted x ↦ Same (tt, x) refl
    | Bare x ↦ bare x
  ];
}
  where
    bare : (x : BareRest) → FormOf name_rest (λ (p : Unit {0} × DottedRest). Dotted p.1) (is_kind kind.Dot) (Bare x)
    bare (Called p) = Other (record { head = Placed kind.OpenParen p.0; tail = _; is = refl; first = refl })
    bare (Indexed e v) = Other (record { head = Fixed kind.OpenBracket; tail = _; is = refl; first = refl })
    bare (Assigned v) = Other (record { head = Fixed kind.Equal; tail = _; is = refl; first = refl })

pub bare_form : Form name_rest bare_rest Bare opens_bare
bare_form = record {
  first = record { each = begins };
  same = λ x. refl;
  each = elim [
    | Pointed b d ↦ Other (record { head = Fixed kind.Star; tail = _; is = refl; first = refl })
    | Dotted x ↦ Other (record { head = Fixed kind.Dot; tail = _; is = refl; first = refl })
    | Bare x ↦ Same x refl
  ];
}
  where
    begins : (x : BareRest) → Begins bare_rest opens_bare x
    begins (Called p) = record { head = Placed kind.OpenParen p.0; tail = _; is = refl; first = refl }
    begins (Indexed e v) = record { head = Fixed kind.OpenBracket; tail = _; is = refl; first = refl }
    begins (Assigned v) = record { head = Fixed kind.Equal; tail = _; is = refl; first = refl }

pub name_rest_piece : Piece name_rest never (λ _. never)
name_rest_piece = record { some = Bare bare_rest_piece.some; each = way }
  where
    way : (x : NameRest) → ReadsOneWay name_rest never (λ _. never) x
    way (Pointed b d) = form_way pointed_form (λ _ r h. h) ((next pointer_piece declared_piece).each (b, d))
    way (Dotted x) = form_way dotted_form (λ _ r h. h) ((next (fixed_piece kind.Dot) dotted_rest_piece).each (tt, x))
    way (Bare x) = form_way bare_form (λ _ r h. h) (bare_rest_piece.each x)
