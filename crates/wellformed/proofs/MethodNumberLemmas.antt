-- The numbers of methods: each is the number of methods before it in the text.
use Rattle.std.proofs.Common.{◌≡◌, ℕ, zero, suc, ◌+◌, List, [], ◌∷◌, ◌++◌, length, map, take, refl, ap, ◌∙◌, subst, arith, length-append}
use Rattle.std.proofs.lemmas.List.{length-map}
use Rattle.std.proofs.lemmas.Option.{slice_get-map, some_pair_parts}
use Rattle.std.specs.List.{enumerate_from, flat_map}
use Rattle.std.specs.Prelude.{Option, None, Some, option_map, option_and_then, slice_get}
use Rattle.source.specs.declared.token.Span.{Span}
use Rattle.tree.specs.Trees.{ItemTree, DefinitionTree, Contract, Struct, Class, ClassTree, ContractTree, MethodTree, StructTree}
use Rattle.declarations.specs.Declarations.{first_among}
use Rattle.declarations.specs.ItemMistakes.{methods_in}
use Rattle.declarations.specs.Program.{ProgramText, Numbered, as_class, as_contract, as_struct, class_named, item_at, item_names}
use Rattle.declarations.specs.Named.{method_named}
use Rattle.program.specs.Methods.{MethodModel}
use Rattle.resolving.specs.Callees.{NumberedMethod, all_methods, method_at, method_of, methods_before, numbered_method}
use Rattle.resolving.specs.Methods.{item_told, methods_told, method_told}
use Rattle.program.specs.Lists.{Each}
use Rattle.wellformed.proofs.ListLemmas.{each_append}
use Rattle.wellformed.proofs.PlaceLemmas.{each_mapped, each_placed, slice_behind, slice_front}
use Rattle.wellformed.proofs.Standing.{Answers, IsMethod}

-- an item that is looked up declares this
pub record Declares (o : Option ItemTree) (d : DefinitionTree) : Type 0 where
  pub item : ItemTree
  pub at : o ≡ Some item
  pub is : item.definition ≡ d

-- what is looked up by its index among the items
abbrev numbered_as : {X : Type 0} → ℕ → Option X → Option (Numbered X)
numbered_as n o = option_map (λ x. (n, x)) o

abbrev looked_up : {X : Type 0} → (DefinitionTree → Option X) → ℕ → Option ItemTree → Option (Numbered X)
looked_up ty n o = option_and_then (λ i. numbered_as n (ty i.definition)) o

-- the returned index is the one that was asked for
same_number : {X : Type 0} → (m n : ℕ) (x : X) (o : Option X) → numbered_as m o ≡ Some (n, x) → m ≡ n
same_number m n x None h = cc
same_number m n x (Some y) h = (some_pair_parts m n y x h).0

same_place : {X : Type 0} → (ty : DefinitionTree → Option X) (m n : ℕ) (x : X) (o : Option ItemTree) → looked_up ty m o ≡ Some (n, x) → m ≡ n
same_place ty m n x None h = cc
same_place ty m n x (Some i) h = same_number m n x (ty i.definition) h

-- an item found as a class is one, and an item found as a contract is one
declares_class : (n : ℕ) (c : ClassTree) (d : DefinitionTree) → numbered_as n (as_class d) ≡ Some (n, c) → d ≡ Class c
declares_class n c (Contract x) h = cc
declares_class n c (Struct x) h = cc
declares_class n c (Class x) h = ap Class (some_pair_parts n n x c h).1

declares_contract : (n : ℕ) (c : ContractTree) (d : DefinitionTree) → numbered_as n (as_contract d) ≡ Some (n, c) → d ≡ Contract c
declares_contract n c (Contract x) h = ap Contract (some_pair_parts n n x c h).1
declares_contract n c (Struct x) h = cc
declares_contract n c (Class x) h = cc

declares_struct : (n : ℕ) (s : StructTree) (d : DefinitionTree) → numbered_as n (as_struct d) ≡ Some (n, s) → d ≡ Struct s
declares_struct n s (Contract x) h = cc
declares_struct n s (Struct x) h = ap Struct (some_pair_parts n n x s h).1
declares_struct n s (Class x) h = cc

class_in : (n : ℕ) (c : ClassTree) (o : Option ItemTree) → looked_up as_class n o ≡ Some (n, c) → Declares o (Class c)
class_in n c None h = cc
class_in n c (Some i) h = record { item = i; at = refl; is = declares_class n c i.definition h }

contract_in : (n : ℕ) (c : ContractTree) (o : Option ItemTree) → looked_up as_contract n o ≡ Some (n, c) → Declares o (Contract c)
contract_in n c None h = cc
contract_in n c (Some i) h = record { item = i; at = refl; is = declares_contract n c i.definition h }

struct_in : (n : ℕ) (s : StructTree) (o : Option ItemTree) → looked_up as_struct n o ≡ Some (n, s) → Declares o (Struct s)
struct_in n s None h = cc
struct_in n s (Some i) h = record { item = i; at = refl; is = declares_struct n s i.definition h }

-- the item that is this class, this contract, this struct
pub class_item : (p : ProgramText) (n : ℕ) (c : ClassTree) → item_at as_class p n ≡ Some (n, c) → Declares (slice_get p.items n) (Class c)
class_item p n c there = class_in n c (slice_get p.items n) there

pub contract_item : (p : ProgramText) (n : ℕ) (c : ContractTree) → item_at as_contract p n ≡ Some (n, c) → Declares (slice_get p.items n) (Contract c)
contract_item p n c there = contract_in n c (slice_get p.items n) there

pub struct_item : (p : ProgramText) (n : ℕ) (s : StructTree) → item_at as_struct p n ≡ Some (n, s) → Declares (slice_get p.items n) (Struct s)
struct_item p n s there = struct_in n s (slice_get p.items n) there

-- the class of a name, by its index
class_at : (p : ProgramText) (n : ℕ) (c : ClassTree) (o : Option ℕ) → option_and_then (item_at as_class p) o ≡ Some (n, c) → item_at as_class p n ≡ Some (n, c)
class_at p n c None h = cc
class_at p n c (Some k) h = subst (λ x. item_at as_class p x ≡ Some (n, c)) (same_place as_class k n c (slice_get p.items k) h) h

-- the methods of items that come after others
abbrev told_from : ProgramText → ℕ → List ItemTree → List MethodModel
told_from p n items = flat_map (item_told p) (enumerate_from n items)

-- a method of an item, among those of all items
told_at : (p : ProgramText) (n : ℕ) (items : List ItemTree) (class index : ℕ) (i : ItemTree) (m : MethodTree) → slice_get items class ≡ Some i → slice_get (methods_in i.definition) index ≡ Some m
    → slice_get (told_from p n items) (methods_before items class + index) ≡ Some (method_told p (n + class) m)
told_at p n [] class index i m there at = cc
told_at p n (x ∷ items) zero index i m there at =
    let same : x ≡ i = cc in
    let own = methods_in x.definition in
    let within : slice_get own index ≡ Some m = ap (λ y. slice_get (methods_in y.definition) index) same ∙ at in
    let seen = slice_get-map (method_told p n) own index ∙ ap (option_map (method_told p n)) within in
    let first : 0 + index ≡ index = omega arith in
    let here : n ≡ n + 0 = omega arith in
    ap (slice_get (told_from p n (x ∷ items))) first
    ∙ slice_front (map (method_told p n) own) (told_from p (n + 1) items) index (method_told p n m) seen
    ∙ ap (λ k. Some (method_told p k m)) here
told_at p n (x ∷ items) (suc class) index i m there at =
    let own = methods_in x.definition in
    let seen = map (method_told p n) own in
    let behind = told_from p (n + 1) items in
    let many : methods_before (x ∷ items) (suc class) + index ≡ length seen + (methods_before items class + index) =
    omega (arith, length-append own (all_methods (take class items)), length-map own (method_told p n)) in
    let on : n + 1 + class ≡ n + suc class = omega arith in
    ap (slice_get (seen ++ behind)) many ∙ slice_behind seen behind (methods_before items class + index) ∙ told_at p (n + 1) items class index i m there at ∙ ap (λ k. Some (method_told p k m)) on

-- a method of a class, by its number
method_is : (p : ProgramText) (class nth : ℕ) (c : ClassTree) (m : MethodTree) → item_at as_class p class ≡ Some (class, c) → slice_get c.methods nth ≡ Some m
    → IsMethod p m (methods_before p.items class + nth)
method_is p class nth c m there at =
    let d = class_item p class c there in
    let within : slice_get (methods_in d.item.definition) nth ≡ Some m = ap (λ x. slice_get (methods_in x) nth) d.is ∙ at in
    let on : 0 + class ≡ class = omega arith in
    record {
      class = class;
      tree = c;
      there = there;
      index = nth;
      at = at;
      told = told_at p 0 p.items class nth d.item m d.at within ∙ ap (λ k. Some (method_told p k m)) on;
    }

answers_at : (p : ProgramText) (class : ℕ) (c : ClassTree) (m : MethodTree) (o : Option ℕ) → item_at as_class p class ≡ Some (class, c) → option_and_then (slice_get c.methods) o ≡ Some m
    → Answers p (option_and_then (numbered_method (methods_before p.items class) c.methods) o) m
answers_at p class c m None there named = cc
answers_at p class c m (Some index) there named =
    let before = methods_before p.items class in
    record { number = before + index; is = ap (option_map (λ x. record { number = before + index; method = x })) named; method = method_is p class index c m there named }

-- the first method of this name in a class
abbrev place_in : ProgramText → ClassTree → Span → Option ℕ
place_in p c name = first_among p.text (map (λ m. m.name) c.methods) name

abbrev callee_in : ProgramText → ℕ → Span → Option (Numbered ClassTree) → Option NumberedMethod
callee_in p class name o = option_and_then (λ c. option_and_then (numbered_method (methods_before p.items class) c.1.methods) (place_in p c.1 name)) o

pub method_answers : (p : ProgramText) (class : ℕ) (c : ClassTree) (name : Span) (m : MethodTree) → item_at as_class p class ≡ Some (class, c)
    → method_named p.text c name ≡ Some m → Answers p (method_at p class name) m
method_answers p class c name m there named =
    let a = answers_at p class c m (place_in p c name) there named in
    record { number = a.number; is = ap (callee_in p class name) there ∙ a.is; method = a.method }

-- the same for the class of a name
pub member_answers : (p : ProgramText) (class name : Span) (n : ℕ) (c : ClassTree) (m : MethodTree) → class_named p class ≡ Some (n, c)
    → method_named p.text c name ≡ Some m → Answers p (method_of p class name) m
member_answers p class name n c m named found =
    let a = method_answers p n c name m (class_at p n c (first_among p.text (item_names p) class) named) found in
    record { number = a.number; is = ap (option_and_then (λ x. method_at p x.0 name)) named ∙ a.is; method = a.method }

-- what holds of the methods of each item holds of all methods
each_told : (P : MethodModel → Type 0) (p : ProgramText) (n : ℕ) (items : List ItemTree) → ((class : ℕ) (i : ItemTree) → slice_get items class ≡ Some i → Each P (item_told p (n + class, i)))
    → Each P (told_from p n items)
each_told P p n [] each = tt
each_told P p n (x ∷ items) each =
    let here : n + 0 ≡ n = omega arith in
    each_append P (item_told p (n, x)) (told_from p (n + 1) items)
    (subst (λ k. Each P (item_told p (k, x))) here (each zero x refl))
    (each_told P p (n + 1) items (λ class i at. let on : n + suc class ≡ n + 1 + class = omega arith in subst (λ k. Each P (item_told p (k, i))) on (each (suc class) i at)))

-- the methods of an item
item_methods : (P : MethodModel → Type 0) (p : ProgramText) (class : ℕ) (i : ItemTree) (d : DefinitionTree)
    → ((c : ClassTree) (m : MethodTree) (index : ℕ) → item_at as_class p class ≡ Some (class, c) → slice_get c.methods index ≡ Some m → P (method_told p class m))
    → slice_get p.items class ≡ Some i → i.definition ≡ d → Each P (map (method_told p class) (methods_in d))
item_methods P p class i (Contract c) each at is = tt
item_methods P p class i (Struct s) each at is = tt
item_methods P p class i (Class c) each at is =
    let there : item_at as_class p class ≡ Some (class, c) = ap (looked_up as_class class) at ∙ ap (λ d. numbered_as class (as_class d)) is in
    each_mapped P (method_told p class) c.methods (each_placed (λ m. P (method_told p class m)) c.methods (λ index m. each c m index there))

-- each method of a program is a method of a class
pub every_method : (P : MethodModel → Type 0) (p : ProgramText)
    → ((class : ℕ) (c : ClassTree) (m : MethodTree) (index : ℕ) → item_at as_class p class ≡ Some (class, c) → slice_get c.methods index ≡ Some m → P (method_told p class m))
    → Each P (methods_told p)
every_method P p each = each_told P p 0 p.items (λ class i at.
    let on : class ≡ 0 + class = omega arith in
    subst (λ k. Each P (item_told p (k, i))) on (item_methods P p class i i.definition (each class) at refl))
