-- Statements by their first symbols.
use Rattle.std.proofs.Common.{◌≡◌, Bool, true, false, List, [], ◌∷◌, Option, Some, None, refl, ap, ◌∙◌}
use Rattle.std.specs.Prelude.{not, is_some}
use Rattle.source.specs.declared.kind.Kind.{Kind}
use Rattle.source.specs.declared.kind.Kind.TheVariants as kind
use Rattle.tree.specs.Symbols.{Symbol, Fixed, Placed, by_kind, is_kind, kind_is, kind_at}
use Rattle.syntax.specs.Reading.{leads}
use Rattle.tree.specs.StatementTrees.{StatementTree, Block, Plain, If, While, Switch, Braces, Test}
use Rattle.tree.specs.StatementGrammar.{statement}
use Rattle.syntax.specs.StatementFirsts.{lead_of, opens_statement}
use Rattle.syntax.specs.declared.leads.Lead.{Lead}
use Rattle.syntax.specs.declared.leads.Lead.TheVariants as lead
use Rattle.syntax.proofs.pieces.Beginnings.{Begins, Starts}
use Rattle.syntax.proofs.pieces.Choices.{FormOf, Other}
use Rattle.syntax.proofs.pieces.KindLemmas.{kind_only, kinds_apart, test_leads}
use Rattle.syntax.proofs.PlainLeads.{plain_of, opens_plain, plain_begins}

-- whether a statement of this lead begins with this token
abbrev pub led_by : Lead → Option Kind → Bool
led_by lead.Block = kind_is kind.OpenBrace
led_by lead.If = kind_is kind.If
led_by lead.While = kind_is kind.While
led_by lead.Switch = kind_is kind.Switch
led_by (lead.Plain l) = opens_plain

led : (l : Lead) (k : Option Kind) → lead_of k ≡ Some l → led_by l k ≡ true
led lead.Block (Some kind.OpenBrace) e = refl
led lead.Block k e = cc
led lead.If (Some kind.If) e = refl
led lead.If k e = cc
led lead.While (Some kind.While) e = refl
led lead.While k e = cc
led lead.Switch (Some kind.Switch) e = refl
led lead.Switch k e = cc
led (lead.Plain l) k e = ap (λ o. is_some (plain_of o)) e

none_led : (l : Lead) → led_by l None ≡ false
none_led lead.Block = refl
none_led lead.If = refl
none_led lead.While = refl
none_led lead.Switch = refl
none_led (lead.Plain l) = refl

-- a statement of this lead is next
pub lead_leads : (l : Lead) (ys : List Symbol) → lead_of (kind_at ys) ≡ Some l → leads (by_kind (led_by l)) ys ≡ true
lead_leads l ys e = test_leads (led_by l) ys (none_led l) (led l (kind_at ys) e)

-- whether this statement may begin with this token
abbrev pub opens_by : StatementTree → Option Kind → Bool
opens_by (Block b) = kind_is kind.OpenBrace
opens_by (Plain x) = opens_plain
opens_by (If t more) = kind_is kind.If
opens_by (While t) = kind_is kind.While
opens_by (Switch span first more close) = kind_is kind.Switch

pub begins_by : (z : StatementTree) → Begins statement (by_kind (opens_by z)) z
begins_by (Block (Braces inner close)) = record { head = Fixed kind.OpenBrace; tail = _; is = refl; first = refl }
begins_by (Plain x) = let b = plain_begins x in record { head = b.head; tail = b.tail; is = b.is; first = b.first }
begins_by (If (Test span left e b) more) = record { head = Placed kind.If span; tail = _; is = refl; first = refl }
begins_by (While (Test span left e b)) = record { head = Placed kind.While span; tail = _; is = refl; first = refl }
begins_by (Switch span first more close) = record { head = Placed kind.Switch span; tail = _; is = refl; first = refl }

-- the first token of each statement passes `opens_statement`

some_lead : (o : Option Lead) → is_some (plain_of o) ≡ true → is_some o ≡ true
some_lead (Some l) h = refl
some_lead None h = cc

word_opens : (opening : Kind) → opens_statement (Some opening) ≡ true → (k : Option Kind) → kind_is opening k ≡ true → opens_statement k ≡ true
word_opens opening h k is = ap opens_statement (kind_only opening k is) ∙ h

opens : (z : StatementTree) (k : Option Kind) → opens_by z k ≡ true → opens_statement k ≡ true
opens (Block b) k h = word_opens kind.OpenBrace refl k h
opens (Plain x) k h = some_lead (lead_of k) h
opens (If t more) k h = word_opens kind.If refl k h
opens (While t) k h = word_opens kind.While refl k h
opens (Switch span first more close) k h = word_opens kind.Switch refl k h

begins_statement : (z : StatementTree) → Begins statement (by_kind opens_statement) z
begins_statement z = let b = begins_by z in record { head = b.head; tail = b.tail; is = b.is; first = opens z (kind_at (b.head ∷ [])) b.first }

pub statement_starts : Starts statement (by_kind opens_statement)
statement_starts = record { each = begins_statement }

-- a statement that begins with another token has another form
pub other : (opening : Kind) (z : StatementTree) {X : Type 0} {make : X → StatementTree} → opens_by z (Some opening) ≡ false → FormOf statement make (is_kind opening) z
other opening z {X} {make} h =
    let b = begins_by z in
    Other (record { head = b.head; tail = b.tail; is = b.is; first = ap not (kinds_apart (opens_by z) opening h b.head b.first) })
