-- The members of items, one item after another.
use Rattle.std.proofs.Common.{◌≡◌, ℕ, zero, suc, ◌+◌, ◌<◌, List, [], ◌∷◌, ◌++◌, length, map, take, get_or, Bor, Option, Some, None, sym, refl, ap, ◌∙◌, subst}
use Rattle.std.proofs.lemmas.List.{take_more, map-append}
use Rattle.std.specs.Prelude.{option_map, option_and_then, slice_get}
use Rattle.std.specs.Option.{option_copied}
use Rattle.tree.specs.Trees.{ItemTree, DefinitionTree, Contract, Struct, Class, ContractTree, StructTree, ClassTree, item_tree, definition_tree}
use Rattle.tree.specs.declared.item as tree
use Rattle.declarations.specs.Program.{ProgramText, item_at, as_contract, as_struct, as_class}
use Rattle.declarations.specs.Scopes.{AllMembers, AreMembers, IsDeclared, AreFieldsOf, IsContract, IsStruct, IsClass, as_declared, as_fields, as_methods}
use Rattle.declarations.specs.declared.members.Declared.{Declared}
use Rattle.declarations.specs.declared.fields.Fields.{Fields}
use Rattle.declarations.specs.declared.members.ClassMethods.{ClassMethods}
use Rattle.declarations.specs.declared.members.Members.{Members}
use Rattle.declarations.specs.declared.members.Members.TheVariants as members

members_push : (text : List ℕ) (items : List ItemTree) (ms : List Members) (i : ItemTree) (m : Members) → AllMembers text items ms → AreMembers text i.definition m → AllMembers text (items ++ i ∷ []) (ms ++ m ∷ [])
members_push text [] [] i m all one = (one, tt)
members_push text [] (n ∷ ms) i m all one = absurd all
members_push text (j ∷ items) [] i m all one = absurd all
members_push text (j ∷ items) (n ∷ ms) i m all one = (all.0, members_push text items ms i m all.1 one)

-- one more item
pub members_more : (text : List ℕ) (items : List tree.Item.Item) (i : ℕ) (x : tree.Item.Item) (ms more : List Members) (m : Members) → i < length items → x ≡ get_or items i x
    → AllMembers text (map item_tree (take i items)) ms → AreMembers text (definition_tree x.definition) m → more ≡ ms ++ m ∷ [] → AllMembers text (map item_tree (take (i + 1) items)) more
members_more text items i x ms more m lt is all one new =
    let taken = take_more items i x lt ∙ ap (λ y. take i items ++ y ∷ []) (sym is) in
    subst (λ l. AllMembers text (map item_tree l) more) (sym taken)
    (subst (λ l. AllMembers text l more) (sym (map-append item_tree (take i items) (x ∷ [])))
    (subst (AllMembers text (map item_tree (take i items) ++ item_tree x ∷ [])) (sym new)
    (members_push text (map item_tree (take i items)) ms (item_tree x) m all one)))

contract_is : (text : List ℕ) (k : ℕ) (d : DefinitionTree) (m : Members) → AreMembers text d m → IsContract text (option_map (λ c. (k, c)) (as_contract d)) (option_map (λ c. (k, c)) (as_declared m))
contract_is text k (Contract c) (members.Contract d) h = (refl, h)
contract_is text k (Contract c) (members.Struct f) h = absurd h
contract_is text k (Contract c) (members.Class m) h = absurd h
contract_is text k (Struct s) (members.Contract d) h = absurd h
contract_is text k (Struct s) (members.Struct f) h = tt
contract_is text k (Struct s) (members.Class m) h = absurd h
contract_is text k (Class c) (members.Contract d) h = absurd h
contract_is text k (Class c) (members.Struct f) h = absurd h
contract_is text k (Class c) (members.Class m) h = tt

struct_is : (text : List ℕ) (k : ℕ) (d : DefinitionTree) (m : Members) → AreMembers text d m → IsStruct text (option_map (λ c. (k, c)) (as_struct d)) (option_map (λ c. (k, c)) (as_fields m))
struct_is text k (Contract c) (members.Contract d) h = tt
struct_is text k (Contract c) (members.Struct f) h = absurd h
struct_is text k (Contract c) (members.Class m) h = absurd h
struct_is text k (Struct s) (members.Contract d) h = absurd h
struct_is text k (Struct s) (members.Struct f) h = (refl, h)
struct_is text k (Struct s) (members.Class m) h = absurd h
struct_is text k (Class c) (members.Contract d) h = absurd h
struct_is text k (Class c) (members.Struct f) h = absurd h
struct_is text k (Class c) (members.Class m) h = tt

class_is : (text : List ℕ) (k : ℕ) (d : DefinitionTree) (m : Members) → AreMembers text d m → IsClass text (option_map (λ c. (k, c)) (as_class d)) (as_methods m)
class_is text k (Contract c) (members.Contract d) h = tt
class_is text k (Contract c) (members.Struct f) h = absurd h
class_is text k (Contract c) (members.Class m) h = absurd h
class_is text k (Struct s) (members.Contract d) h = absurd h
class_is text k (Struct s) (members.Struct f) h = tt
class_is text k (Struct s) (members.Class m) h = absurd h
class_is text k (Class c) (members.Contract d) h = absurd h
class_is text k (Class c) (members.Struct f) h = absurd h
class_is text k (Class c) (members.Class m) h = h

-- the contract at an index of the items is the one at that index of their members
pub contract_at : (text : List ℕ) (items : List ItemTree) (ms : List Members) (k n : ℕ) → AllMembers text items ms
    → IsContract text (option_and_then (λ i. option_map (λ c. (k, c)) (as_contract i.definition)) (slice_get items n)) (option_map (λ c. (k, c)) (option_and_then as_declared (slice_get ms n)))
contract_at text [] [] k n all = tt
contract_at text [] (m ∷ ms) k n all = absurd all
contract_at text (i ∷ items) [] k n all = absurd all
contract_at text (i ∷ items) (m ∷ ms) k zero all = contract_is text k i.definition m all.0
contract_at text (i ∷ items) (m ∷ ms) k (suc n) all = contract_at text items ms k n all.1

pub struct_at : (text : List ℕ) (items : List ItemTree) (ms : List Members) (k n : ℕ) → AllMembers text items ms
    → IsStruct text (option_and_then (λ i. option_map (λ c. (k, c)) (as_struct i.definition)) (slice_get items n)) (option_map (λ c. (k, c)) (option_and_then as_fields (slice_get ms n)))
struct_at text [] [] k n all = tt
struct_at text [] (m ∷ ms) k n all = absurd all
struct_at text (i ∷ items) [] k n all = absurd all
struct_at text (i ∷ items) (m ∷ ms) k zero all = struct_is text k i.definition m all.0
struct_at text (i ∷ items) (m ∷ ms) k (suc n) all = struct_at text items ms k n all.1

pub class_at : (text : List ℕ) (items : List ItemTree) (ms : List Members) (k n : ℕ) → AllMembers text items ms
    → IsClass text (option_and_then (λ i. option_map (λ c. (k, c)) (as_class i.definition)) (slice_get items n)) (option_and_then as_methods (slice_get ms n))
class_at text [] [] k n all = tt
class_at text [] (m ∷ ms) k n all = absurd all
class_at text (i ∷ items) [] k n all = absurd all
class_at text (i ∷ items) (m ∷ ms) k zero all = class_is text k i.definition m all.0
class_at text (i ∷ items) (m ∷ ms) k (suc n) all = class_at text items ms k n all.1

-- the look-up found the contract of item k, which d declares
pub record LookedContract (text : List ℕ) (o : Option (ℕ × ContractTree)) (k : ℕ) (d : Declared) : Type 0 where
  pub contract : ContractTree
  pub is : o ≡ Some (k, contract)
  pub declared : IsDeclared text contract d

pub looked_contract : (text : List ℕ) (o : Option (ℕ × ContractTree)) (k : ℕ) (d : Declared) → IsContract text o (Some (k, d)) → LookedContract text o k d
looked_contract text None k d h = absurd h
looked_contract text (Some c) k d h = record { contract = c.1; is = ap (λ n. Some (n, c.1)) h.0; declared = h.1 }

pub no_contract : (text : List ℕ) (o : Option (ℕ × ContractTree)) → IsContract text o None → o ≡ None
no_contract text None h = refl
no_contract text (Some c) h = absurd h

pub record LookedStruct (text : List ℕ) (o : Option (ℕ × StructTree)) (k : ℕ) (f : Fields) : Type 0 where
  pub structure : StructTree
  pub is : o ≡ Some (k, structure)
  pub fields : AreFieldsOf text structure f

pub looked_struct : (text : List ℕ) (o : Option (ℕ × StructTree)) (k : ℕ) (f : Fields) → IsStruct text o (Some (k, f)) → LookedStruct text o k f
looked_struct text None k f h = absurd h
looked_struct text (Some s) k f h = record { structure = s.1; is = ap (λ n. Some (n, s.1)) h.0; fields = h.1 }

pub no_struct : (text : List ℕ) (o : Option (ℕ × StructTree)) → IsStruct text o None → o ≡ None
no_struct text None h = refl
no_struct text (Some s) h = absurd h

-- the same for the result in memory
pub contract_model : (text : List ℕ) (o : Option (ℕ × ContractTree)) (k : ℕ) (found : Option (Bor Declared)) → IsContract text o (option_map (λ c. (k, c)) (option_copied found)) → IsContract text o (option_map (λ d. (k, d.now)) found)
contract_model text o k None h = h
contract_model text o k (Some d) h = h

pub struct_model : (text : List ℕ) (o : Option (ℕ × StructTree)) (k : ℕ) (found : Option (Bor Fields)) → IsStruct text o (option_map (λ f. (k, f)) (option_copied found)) → IsStruct text o (option_map (λ f. (k, f.now)) found)
struct_model text o k None h = h
struct_model text o k (Some f) h = h

pub class_model : (text : List ℕ) (o : Option (ℕ × ClassTree)) (found : Option (Bor ClassMethods)) → IsClass text o (option_copied found) → IsClass text o (option_map (λ m. m.now) found)
class_model text o None h = h
class_model text o (Some m) h = h

pub struct_missing : (p : ProgramText) (ms : List Members) (n : ℕ) → AllMembers p.text p.items ms → None ≡ option_and_then as_fields (slice_get ms n) → item_at as_struct p n ≡ None
struct_missing p ms n all is =
    no_struct p.text (item_at as_struct p n)
    (subst (λ o. IsStruct p.text (item_at as_struct p n) (option_map (λ f. (n, f)) o)) (sym is) (struct_at p.text p.items ms n n all))

pub struct_here : (p : ProgramText) (ms : List Members) (n : ℕ) (f : Fields) → AllMembers p.text p.items ms → Some f ≡ option_and_then as_fields (slice_get ms n) → LookedStruct p.text (item_at as_struct p n) n f
struct_here p ms n f all is =
    looked_struct p.text (item_at as_struct p n) n f
    (subst (λ o. IsStruct p.text (item_at as_struct p n) (option_map (λ f. (n, f)) o)) (sym is) (struct_at p.text p.items ms n n all))
