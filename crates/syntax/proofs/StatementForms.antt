-- The forms of a statement.
use Rattle.std.proofs.Common.{◌≡◌, true, false, ◌++◌, Some, refl, sym, ap}
use Rattle.std.specs.Prelude.{not}
use Rattle.source.specs.declared.kind.Kind.{Kind}
use Rattle.source.specs.declared.kind.Kind.TheVariants as kind
use Rattle.tree.specs.Symbols.{Fixed, Placed, is_kind, by_kind, kind_is}
use Rattle.tree.specs.Spelling.{word, token_at}
use Rattle.tree.specs.StatementTrees.{StatementTree, Block, Plain, If, While, Switch, BlockTree, Braces, TestTree, Test, IfTree, SwitchTree, case_sequence}
use Rattle.tree.specs.StatementGrammar.{plain, statement, block, test, others, case}
use Rattle.syntax.specs.StatementParts.{if_parts, switch_parts}
use Rattle.syntax.specs.StatementFirsts.{case_list}
use Rattle.syntax.proofs.pieces.Beginnings.{Begins, Starts}
use Rattle.syntax.proofs.pieces.Choices.{Form, FormOf, Same, Other}
use Rattle.syntax.proofs.pieces.KindLemmas.{apart_kinds}
use Rattle.syntax.proofs.StatementSequences.{case_list_sequence, case_sequence_spelled}
use Rattle.syntax.proofs.PlainLeads.{opens_plain, plain_begins}
use Rattle.syntax.proofs.StatementLeads.{begins_by, other}

pub block_form : Form statement block Block (is_kind kind.OpenBrace)
block_form = record { first = record { each = first }; same = λ b. refl; each = each }
  where
    first : (b : BlockTree) → Begins block (is_kind kind.OpenBrace) b
    first (Braces inner close) = record { head = Fixed kind.OpenBrace; tail = _; is = refl; first = refl }

    each : (z : StatementTree) → FormOf statement Block (is_kind kind.OpenBrace) z
    each (Block b) = Same b refl
    each z = other kind.OpenBrace z refl

pub plain_form : Form statement plain Plain (by_kind opens_plain)
plain_form = record { first = record { each = plain_begins }; same = λ x. refl; each = each }
  where
    away : (z : StatementTree) (opening : Kind) → Begins statement (is_kind opening) z → opens_plain (Some opening) ≡ false → FormOf statement Plain (by_kind opens_plain) z
    away z opening b h = Other (record { head = b.head; tail = b.tail; is = b.is; first = ap not (apart_kinds opens_plain opening h b.head b.first) })

    each : (z : StatementTree) → FormOf statement Plain (by_kind opens_plain) z
    each (Plain x) = Same x refl
    each (Block b) = away (Block b) kind.OpenBrace (begins_by (Block b)) refl
    each (If t more) = away (If t more) kind.If (begins_by (If t more)) refl
    each (While t) = away (While t) kind.While (begins_by (While t)) refl
    each (Switch span first more close) = away (Switch span first more close) kind.Switch (begins_by (Switch span first more close)) refl

pub test_starts : (opening : Kind) → kind_is opening (Some opening) ≡ true → Starts (test opening) (is_kind opening)
test_starts opening is = record { each = begins }
  where
    begins : (t : TestTree) → Begins (test opening) (is_kind opening) t
    begins (Test span left e b) = record { head = Placed opening span; tail = _; is = refl; first = is }

abbrev pub of_if : IfTree → StatementTree
of_if i = If i.first i.others

pub if_form : Form statement if_parts of_if (is_kind kind.If)
if_form = record { first = record { each = first }; same = λ i. refl; each = each }
  where
    first : (i : IfTree) → Begins if_parts (is_kind kind.If) i
    first i =
        let b = (test_starts kind.If refl).each i.first in
        record { head = b.head; tail = b.tail ++ others i.others; is = ap (λ l. l ++ others i.others) b.is; first = b.first }

    each : (z : StatementTree) → FormOf statement of_if (is_kind kind.If) z
    each (If t more) = Same (record { first = t; others = more }) refl
    each z = other kind.If z refl

pub while_form : Form statement (test kind.While) While (is_kind kind.While)
while_form = record { first = test_starts kind.While refl; same = λ t. refl; each = each }
  where
    each : (z : StatementTree) → FormOf statement While (is_kind kind.While) z
    each (While t) = Same t refl
    each z = other kind.While z refl

abbrev pub of_switch : SwitchTree → StatementTree
of_switch s = Switch s.word s.first (case_sequence s.others) s.close

pub switch_form : Form statement switch_parts of_switch (is_kind kind.Switch)
switch_form = record {
  first = record { each = λ s. record { head = Placed kind.Switch s.word; tail = _; is = refl; first = refl } };
  same = λ s. ap (λ t. token_at kind.Switch s.word ++ (word kind.Receive ++ (word kind.OpenBrace ++ (case s.first ++ (t ++ token_at kind.CloseBrace s.close))))) (case_sequence_spelled s.others);
  each = each;
}
  where
    each : (z : StatementTree) → FormOf statement of_switch (is_kind kind.Switch) z
    each (Switch span first more close) = Same (record { word = span; first = first; others = case_list more; close = close }) (ap (λ m. Switch span first m close) (sym (case_list_sequence more)))
    each z = other kind.Switch z refl
