-- Statements that hold no others, by their first symbols.
use Rattle.std.proofs.Common.{◌≡◌, Bool, true, false, List, ◌++◌, Option, Some, None, refl, ap, ◌∙◌, subst}
use Rattle.std.specs.Prelude.{[], ◌∷◌, not, is_some}
use Rattle.source.specs.declared.kind.Kind.{Kind}
use Rattle.source.specs.declared.kind.Kind.TheVariants as kind
use Rattle.source.specs.declared.token.Span.{Span}
use Rattle.tree.specs.Symbols.{Symbol, Fixed, Placed, Named, by_kind, is_kind, kind_is, kind_at}
use Rattle.syntax.specs.Reading.{leads}
use Rattle.syntax.specs.Firsts.{scalar_of, opens_type}
use Rattle.tree.specs.Grammar.{value_type}
use Rattle.tree.specs.Expressions.{TargetTree, Variable, Field, Element}
use Rattle.tree.specs.Values.{ValueTree}
use Rattle.tree.specs.StatementTrees.{PlainTree, Declare, Assign, Call, Start, Delete, Exchange, NewChannel, Break, Continue, Return}
use Rattle.tree.specs.StatementGrammar.{plain}
use Rattle.syntax.specs.StatementParts.{declared}
use Rattle.syntax.specs.StatementFirsts.{lead_of}
use Rattle.tree.specs.declared.types as tree
use Rattle.syntax.specs.declared.leads.Lead.{Lead}
use Rattle.syntax.specs.declared.leads.Lead.TheVariants as lead
use Rattle.syntax.specs.declared.leads.PlainLead.{PlainLead}
use Rattle.syntax.specs.declared.leads.PlainLead.TheVariants as plain_lead
use Rattle.syntax.proofs.pieces.Beginnings.{Begins}
use Rattle.syntax.proofs.pieces.Choices.{FormOf, Other}
use Rattle.syntax.proofs.pieces.Words.{one_some, none_some}
use Rattle.syntax.proofs.pieces.KindLemmas.{kind_only, kinds_apart, test_leads}
use Rattle.syntax.proofs.CaseRules.{type_starts}

-- whether a statement of this lead begins with this token
abbrev pub led_by : PlainLead → Option Kind → Bool
led_by plain_lead.Name = kind_is kind.Name
led_by plain_lead.Scalar = λ k. is_some (scalar_of k)
led_by plain_lead.Start = kind_is kind.Start
led_by plain_lead.Delete = kind_is kind.Delete
led_by plain_lead.Exchange = kind_is kind.Exchange
led_by plain_lead.Break = kind_is kind.Break
led_by plain_lead.Continue = kind_is kind.Continue
led_by plain_lead.Return = kind_is kind.Return

-- the lead, if its statements hold no others
abbrev pub plain_of : Option Lead → Option PlainLead
plain_of (Some (lead.Plain l)) = Some l
plain_of _ = None

-- whether some statement that holds no others begins with this token
abbrev pub opens_plain : Option Kind → Bool
opens_plain k = is_some (plain_of (lead_of k))

led : (k : Option Kind) (l : PlainLead) → plain_of (lead_of k) ≡ Some l → led_by l k ≡ true
led (Some kind.Name) l e = subst (λ l. led_by l (Some kind.Name) ≡ true) (one_some e) refl
led (Some kind.Int) l e = subst (λ l. led_by l (Some kind.Int) ≡ true) (one_some e) refl
led (Some kind.Bool) l e = subst (λ l. led_by l (Some kind.Bool) ≡ true) (one_some e) refl
led (Some kind.Byte) l e = subst (λ l. led_by l (Some kind.Byte) ≡ true) (one_some e) refl
led (Some kind.Start) l e = subst (λ l. led_by l (Some kind.Start) ≡ true) (one_some e) refl
led (Some kind.Delete) l e = subst (λ l. led_by l (Some kind.Delete) ≡ true) (one_some e) refl
led (Some kind.Exchange) l e = subst (λ l. led_by l (Some kind.Exchange) ≡ true) (one_some e) refl
led (Some kind.Break) l e = subst (λ l. led_by l (Some kind.Break) ≡ true) (one_some e) refl
led (Some kind.Continue) l e = subst (λ l. led_by l (Some kind.Continue) ≡ true) (one_some e) refl
led (Some kind.Return) l e = subst (λ l. led_by l (Some kind.Return) ≡ true) (one_some e) refl
led k l e = absurd (none_some e)

none_led : (l : PlainLead) → led_by l None ≡ false
none_led plain_lead.Name = refl
none_led plain_lead.Scalar = refl
none_led plain_lead.Start = refl
none_led plain_lead.Delete = refl
none_led plain_lead.Exchange = refl
none_led plain_lead.Break = refl
none_led plain_lead.Continue = refl
none_led plain_lead.Return = refl

-- a statement of this lead is next
pub plain_leads : (l : PlainLead) (ys : List Symbol) → lead_of (kind_at ys) ≡ Some (lead.Plain l) → leads (by_kind (led_by l)) ys ≡ true
plain_leads l ys e = test_leads (led_by l) ys (none_led l) (led (kind_at ys) l (ap plain_of e))

-- whether this statement may begin with this token
abbrev pub opens_by : PlainTree → Option Kind → Bool
opens_by (Declare d) = opens_type
opens_by (Assign a) = kind_is kind.Name
opens_by (Call c) = kind_is kind.Name
opens_by (Start span c) = kind_is kind.Start
opens_by (Delete span) = kind_is kind.Delete
opens_by (Exchange e) = kind_is kind.Exchange
opens_by (NewChannel n) = kind_is kind.Name
opens_by (Break span) = kind_is kind.Break
opens_by (Continue span) = kind_is kind.Continue
opens_by (Return span e) = kind_is kind.Return

-- a declaration begins as its type does
declare_begins : (t : tree.Type.Type) (span : Span) (o : Option ValueTree) (starts : Symbol → Bool) → Begins value_type starts t → Begins plain starts (Declare (record { ty = t; name = span; value = o }))
declare_begins t span o starts b = record { head = b.head; tail = b.tail ++ declared (span, o); is = ap (λ l. l ++ declared (span, o)) b.is; first = b.first }

pub assign_begins : (t : TargetTree) (v : ValueTree) → Begins plain (is_kind kind.Name) (Assign (record { target = t; value = v }))
assign_begins (Variable span) v = record { head = Named span; tail = _; is = refl; first = refl }
assign_begins (Field span other) v = record { head = Named span; tail = _; is = refl; first = refl }
assign_begins (Element span e) v = record { head = Named span; tail = _; is = refl; first = refl }

pub begins_by : (z : PlainTree) → Begins plain (by_kind (opens_by z)) z
begins_by (Declare d) = declare_begins d.ty d.name d.value (by_kind opens_type) (type_starts.each d.ty)
begins_by (Assign a) = assign_begins a.target a.value
begins_by (Call c) = record { head = Named c.name; tail = _; is = refl; first = refl }
begins_by (Start span c) = record { head = Placed kind.Start span; tail = _; is = refl; first = refl }
begins_by (Delete span) = record { head = Fixed kind.Delete; tail = _; is = refl; first = refl }
begins_by (Exchange e) = record { head = Placed kind.Exchange e.word; tail = _; is = refl; first = refl }
begins_by (NewChannel n) = record { head = Named n.contract; tail = _; is = refl; first = refl }
begins_by (Break span) = record { head = Placed kind.Break span; tail = _; is = refl; first = refl }
begins_by (Continue span) = record { head = Placed kind.Continue span; tail = _; is = refl; first = refl }
begins_by (Return span e) = record { head = Placed kind.Return span; tail = _; is = refl; first = refl }

-- the first token of each such statement passes `opens_plain`

type_opens : (k : Option Kind) → opens_type k ≡ true → opens_plain k ≡ true
type_opens (Some kind.Name) h = refl
type_opens (Some kind.Int) h = refl
type_opens (Some kind.Bool) h = refl
type_opens (Some kind.Byte) h = refl
type_opens k h = cc

word_opens : (opening : Kind) → opens_plain (Some opening) ≡ true → (k : Option Kind) → kind_is opening k ≡ true → opens_plain k ≡ true
word_opens opening h k is = ap opens_plain (kind_only opening k is) ∙ h

opens : (z : PlainTree) (k : Option Kind) → opens_by z k ≡ true → opens_plain k ≡ true
opens (Declare d) k h = type_opens k h
opens (Assign a) k h = word_opens kind.Name refl k h
opens (Call c) k h = word_opens kind.Name refl k h
opens (Start span c) k h = word_opens kind.Start refl k h
opens (Delete span) k h = word_opens kind.Delete refl k h
opens (Exchange e) k h = word_opens kind.Exchange refl k h
opens (NewChannel n) k h = word_opens kind.Name refl k h
opens (Break span) k h = word_opens kind.Break refl k h
opens (Continue span) k h = word_opens kind.Continue refl k h
opens (Return span e) k h = word_opens kind.Return refl k h

pub plain_begins : (z : PlainTree) → Begins plain (by_kind opens_plain) z
plain_begins z = let b = begins_by z in record { head = b.head; tail = b.tail; is = b.is; first = opens z (kind_at (b.head ∷ [])) b.first }

-- a statement that begins with another token has another form
pub other : (opening : Kind) (z : PlainTree) {X : Type 0} {make : X → PlainTree} → opens_by z (Some opening) ≡ false → FormOf plain make (is_kind opening) z
other opening z {X} {make} h =
    let b = begins_by z in
    Other (record { head = b.head; tail = b.tail; is = b.is; first = ap not (kinds_apart (opens_by z) opening h b.head b.first) })
