-- Items as parts of the grammar.
use Rattle.std.proofs.Common.{◌≡◌, true, Option, Some, None, refl}
use Rattle.std.specs.Prelude.{not, ◌||◌}
use Rattle.source.specs.declared.kind.Kind.TheVariants as kind
use Rattle.tree.specs.Symbols.{Fixed, by_kind, is_kind, kind_is}
use Rattle.syntax.specs.Reading.{never, optional_at}
use Rattle.tree.specs.Trees.{DefinitionTree, Contract, Struct, Class, ItemTree}
use Rattle.tree.specs.Grammar.{access_word, contract}
use Rattle.tree.specs.Programs.{struct, class, definition, item, program}
use Rattle.syntax.specs.Firsts.{opens_access, opens_item}
use Rattle.tree.specs.declared.item as tree
use Rattle.tree.specs.declared.item.Access.TheVariants as access
use Rattle.syntax.proofs.pieces.Pieces.{Piece, Follows, Meets, ReadsOneWay, both_piece, via_piece}
use Rattle.syntax.proofs.pieces.Beginnings.{Begins, Starts, splits_self}
use Rattle.syntax.proofs.pieces.Repeats.{many_piece}
use Rattle.syntax.proofs.pieces.Choices.{Form, Same, Other, form_way}
use Rattle.syntax.proofs.definitions.AccessRules.{access_piece}
use Rattle.syntax.proofs.definitions.ContractRules.{contract_piece}
use Rattle.syntax.proofs.definitions.StructRules.{struct_piece}
use Rattle.syntax.proofs.definitions.ClassRules.{class_piece}

-- definition = contract | class | struct .

pub contract_form : Form definition contract Contract (is_kind kind.Contract)
contract_form = record {
  first = record { each = λ c. record { head = Fixed kind.Contract; tail = _; is = refl; first = refl } };
  same = λ c. refl;
  each = elim [
    | Contract c ↦ Same c refl
    | Struct s ↦ Other (record { head = Fixed kind.Rep; tail = _; is = refl; first = refl })
    | Class c ↦ Other (record { head = Fixed kind.Class; tail = _; is = refl; first = refl })
  ];
}

pub class_form : Form definition class Class (is_kind kind.Class)
class_form = record {
  first = record { each = λ c. record { head = Fixed kind.Class; tail = _; is = refl; first = refl } };
  same = λ c. refl;
  each = elim [
    | Contract c ↦ Other (record { head = Fixed kind.Contract; tail = _; is = refl; first = refl })
    | Struct s ↦ Other (record { head = Fixed kind.Rep; tail = _; is = refl; first = refl })
    | Class c ↦ Same c refl
  ];
}

pub struct_form : Form definition struct Struct (λ y. not (by_kind (λ k. kind_is kind.Contract k || kind_is kind.Class k) y))
struct_form = record {
  first = record { each = λ s. record { head = Fixed kind.Rep; tail = _; is = refl; first = refl } };
  same = λ s. refl;
  each = elim [
    | Contract c ↦ Other (record { head = Fixed kind.Contract; tail = _; is = refl; first = refl })
    | Struct s ↦ Same s refl
    | Class c ↦ Other (record { head = Fixed kind.Class; tail = _; is = refl; first = refl })
  ];
}

pub definition_piece : Piece definition never (λ _. never)
definition_piece = record { some = Struct struct_piece.some; each = way }
  where
    way : (d : DefinitionTree) → ReadsOneWay definition never (λ _. never) d
    way (Contract c) = form_way contract_form (λ _ r h. h) (contract_piece.each c)
    way (Struct s) = form_way struct_form (λ _ r h. h) (struct_piece.each s)
    way (Class c) = form_way class_form (λ _ r h. h) (class_piece.each c)

-- item = [ access ] definition .

abbrev pub item_to : ItemTree → Option tree.Access.Access × DefinitionTree
item_to i = (i.access, i.definition)

abbrev pub item_from : Option tree.Access.Access × DefinitionTree → ItemTree
item_from p = record { access = p.0; definition = p.1 }

pub access_follows : Follows (by_kind opens_access) definition never
access_follows = record { each = elim [ Contract c ↦ λ r h. refl | Struct s ↦ λ r h. refl | Class c ↦ λ r h. refl ] }

access_meets : Meets {X = Option tree.Access.Access} (optional_at (by_kind opens_access) (λ _. never)) definition (λ _. never)
access_meets = record { here = elim [ None ↦ elim [ Contract c ↦ λ r h. refl | Struct s ↦ λ r h. refl | Class c ↦ λ r h. refl ] | Some a ↦ elim [ Contract c ↦ λ r h. refl | Struct s ↦ λ r h. refl | Class c ↦ λ r h. refl ] ] }

pub item_piece : Piece item never (λ _. never)
item_piece = via_piece item_to item_from (λ _. refl) (both_piece access_piece definition_piece access_follows access_meets)

pub item_starts : Starts item (by_kind opens_item)
item_starts = record { each = λ i. begins i.access i.definition }
  where
    opens : (a : tree.Access.Access) → opens_item (Some (access_word a)) ≡ true
    opens access.Public = refl
    opens access.Private = refl
    opens access.Internal = refl

    begins : (o : Option tree.Access.Access) (d : DefinitionTree) → Begins item (by_kind opens_item) (record { access = o; definition = d })
    begins None (Contract c) = record { head = Fixed kind.Contract; tail = _; is = refl; first = refl }
    begins None (Struct s) = record { head = Fixed kind.Rep; tail = _; is = refl; first = refl }
    begins None (Class c) = record { head = Fixed kind.Class; tail = _; is = refl; first = refl }
    begins (Some a) d = record { head = Fixed (access_word a); tail = definition d; is = refl; first = opens a }

-- program = { item } .

pub program_piece : Piece program (by_kind opens_item) (λ _. by_kind opens_item)
program_piece = many_piece item_starts splits_self item_piece
