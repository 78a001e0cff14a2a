-- Counts of what the items before an item declare.
use Rattle.std.proofs.Common.{◌≡◌, ℕ, ◌+◌, ◌<◌, ◌≤◌, List, [], ◌∷◌, ◌++◌, length, map, take, drop, get_or, sym, ap, ◌∙◌, arith}
use Rattle.std.specs.List.{flat_map, range_with_len}
use Rattle.std.proofs.lemmas.Grind.{flat_map-append}
use Rattle.std.proofs.lemmas.List.{flat_map_more, take_more, take-append-drop, length-append, length-map, get_or-map}
use Rattle.std.proofs.lemmas.List.FromFn.{get_or-map-range_with_len, length-map-range_with_len, map-range_with_len_more}
use Rattle.tree.specs.Trees.{ItemTree, DefinitionTree, Contract, Struct, Class, contract_of, item_tree, definition_tree, method_tree}
use Rattle.tree.specs.declared.class as made
use Rattle.tree.specs.declared.item.Item.{Item}
use Rattle.declarations.specs.ItemMistakes.{methods_in}
use Rattle.program.specs.declared.limits.TheConstants.{MOST_METHODS}
use Rattle.resolving.specs.Callees.{all_methods, methods_before}
use Rattle.resolving.specs.Counts.{before, contracts_before, counts, struct_among, structs_before}
use Rattle.resolving.specs.declared.counts.ItemsBefore.{ItemsBefore}

-- how many of some kind the first n items declare
abbrev standing : {X : Type 0} → (DefinitionTree → List X) → List ItemTree → ℕ → ℕ
standing f items n = length (flat_map (λ i. f i.definition) (take n items))

-- one more item adds what it declares
more_standing : {X : Type 0} (f : DefinitionTree → List X) (items : List Item) (n : ℕ) (i : Item) → n < length items → i ≡ get_or items n i
    → standing f (map item_tree items) (n + 1) ≡ standing f (map item_tree items) n + length (f (definition_tree i.definition))
more_standing f items n i lt is =
    let trees = map item_tree items in
    let tree = item_tree i in
    let long = length-map items item_tree in
    let here = get_or-map item_tree items n i tree lt ∙ ap item_tree (sym is) in
    let front : ItemTree → List _ = λ t. f t.definition in
    ap (λ l. length (flat_map front l)) (take_more trees n tree (omega (arith, lt, long)) ∙ ap (λ t. take n trees ++ t ∷ []) here)
    ∙ ap length (sym (flat_map_more front [] (take n trees) tree))
    ∙ length-append (flat_map front (take n trees)) (front tree)

-- the first items declare no more than all items
fewer_standing : {X : Type 0} (f : DefinitionTree → List X) (items : List ItemTree) (n : ℕ) → standing f items n ≤ length (flat_map (λ i. f i.definition) items)
fewer_standing f items n =
    let front : ItemTree → List _ = λ t. f t.definition in
    let all = ap (λ l. length (flat_map front l)) (sym (take-append-drop n items)) in
    let split = ap length (flat_map-append front (take n items) (drop n items)) in
    let parts = length-append (flat_map front (take n items)) (flat_map front (drop n items)) in
    omega (arith, all, split, parts)

-- if each item declares at most one, there are no more than items
singles_few : {X : Type 0} (f : DefinitionTree → List X) → ((d : DefinitionTree) → length (f d) ≤ 1) → (items : List ItemTree) → length (flat_map (λ i. f i.definition) items) ≤ length items
singles_few f one [] = omega arith
singles_few f one (i ∷ items) =
    let rest = singles_few f one items in
    let here = one i.definition in
    let parts = length-append (f i.definition) (flat_map (λ j. f j.definition) items) in
    omega (arith, rest, here, parts)

one_contract : (d : DefinitionTree) → length (contract_of d) ≤ 1
one_contract (Contract c) = omega arith
one_contract (Struct s) = omega arith
one_contract (Class c) = omega arith

one_struct : (d : DefinitionTree) → length (struct_among d) ≤ 1
one_struct (Contract c) = omega arith
one_struct (Struct s) = omega arith
one_struct (Class c) = omega arith

-- the counts before each of the first n items
abbrev pub counted : List Item → ℕ → List ItemsBefore
counted items n = map (before (map item_tree items)) (range_with_len 0 n)

-- one more item is counted
pub counted_more : (items : List Item) (n : ℕ) → counted items (n + 1) ≡ counted items n ++ before (map item_tree items) n ∷ []
counted_more items n = map-range_with_len_more (before (map item_tree items)) 0 n n (omega arith)

-- the counts after item n: those before it and what it declares, and no more than there is
pub record Behind (items : List Item) (n : ℕ) (i : Item) : Type 0 where
  pub methods : (before (map item_tree items) (n + 1)).methods ≡ (before (map item_tree items) n).methods + length (methods_in (definition_tree i.definition))
  pub contracts : (before (map item_tree items) (n + 1)).contracts ≡ (before (map item_tree items) n).contracts + length (contract_of (definition_tree i.definition))
  pub structs : (before (map item_tree items) (n + 1)).structs ≡ (before (map item_tree items) n).structs + length (struct_among (definition_tree i.definition))
  pub few_methods : (before (map item_tree items) (n + 1)).methods ≤ length (all_methods (map item_tree items))
  pub few_contracts : (before (map item_tree items) (n + 1)).contracts ≤ length items
  pub few_structs : (before (map item_tree items) (n + 1)).structs ≤ length items

-- this holds of each item
pub behind_item : (items : List Item) (n : ℕ) (i : Item) → n < length items → i ≡ get_or items n i → Behind items n i
behind_item items n i lt is =
    let trees = map item_tree items in
    let long = length-map items item_tree in
    record {
      methods = more_standing methods_in items n i lt is;
      contracts = more_standing contract_of items n i lt is;
      structs = more_standing struct_among items n i lt is;
      few_methods = fewer_standing methods_in trees (n + 1);
      few_contracts = omega (arith, long, fewer_standing contract_of trees (n + 1), singles_few contract_of one_contract trees);
      few_structs = omega (arith, long, fewer_standing struct_among trees (n + 1), singles_few struct_among one_struct trees);
    }

abbrev numbers : ℕ → ℕ → ℕ → ItemsBefore
numbers methods contracts structs = record { methods = methods; contracts = contracts; structs = structs }

same_numbers : (m n k x y z : ℕ) → m ≡ x → n ≡ y → k ≡ z → numbers m n k ≡ numbers x y z
same_numbers m n k x y z methods contracts structs = ap (λ a. numbers a n k) methods ∙ ap (λ a. numbers x a k) contracts ∙ ap (numbers x y) structs

-- adding what an item declares gives the counts after it
pub count_more : (items : List Item) (n : ℕ) (i : Item) (so_far : ItemsBefore) (methods contracts structs : ℕ) → Behind items n i → so_far ≡ before (map item_tree items) n
    → methods ≡ length (methods_in (definition_tree i.definition)) → contracts ≡ length (contract_of (definition_tree i.definition)) → structs ≡ length (struct_among (definition_tree i.definition))
    → record { methods = so_far.methods + methods; contracts = so_far.contracts + contracts; structs = so_far.structs + structs } ≡ before (map item_tree items) (n + 1)
count_more items n i so_far methods contracts structs behind here many_methods many_contracts many_structs =
    let trees = map item_tree items in
    same_numbers (so_far.methods + methods) (so_far.contracts + contracts) (so_far.structs + structs) (methods_before trees (n + 1)) (contracts_before trees (n + 1)) (structs_before trees (n + 1))
    (ap (λ (b : ItemsBefore). b.methods + methods) here ∙ ap (λ k. methods_before trees n + k) many_methods ∙ sym behind.methods)
    (ap (λ (b : ItemsBefore). b.contracts + contracts) here ∙ ap (λ k. contracts_before trees n + k) many_contracts ∙ sym behind.contracts)
    (ap (λ (b : ItemsBefore). b.structs + structs) here ∙ ap (λ k. structs_before trees n + k) many_structs ∙ sym behind.structs)

-- one record for each item
pub counts_long : (items : List ItemTree) → length (counts items) ≡ length items
counts_long items = length-map-range_with_len (before items) 0 (length items)

-- the counts read at index n are those before item n
pub count_read : (items : List ItemTree) (all : List ItemsBefore) (n : ℕ) (b : ItemsBefore) → all ≡ counts items → n < length all → b ≡ get_or all n b → b ≡ before items n
count_read items all n b counted lt is =
    let long = ap length counted ∙ counts_long items in
    is ∙ ap (λ l. get_or l n b) counted ∙ get_or-map-range_with_len (before items) 0 (length items) n n b (omega (arith, long, lt)) (omega arith)

-- the number of a method is below the limit
pub number_few : (items : List Item) (all : List ItemsBefore) (n k : ℕ) (b : ItemsBefore) (i : Item) (methods : List made.Method.Method) → length (all_methods (map item_tree items)) ≤ MOST_METHODS → all ≡ counts (map item_tree items)
    → n < length all → b ≡ get_or all n b → n < length items → i ≡ get_or items n i → map method_tree methods ≡ methods_in (definition_tree i.definition) → k < length methods → b.methods + k < MOST_METHODS
number_few items all n k b i methods few counted lt is within at same below =
    let read = ap (λ (x : ItemsBefore). x.methods) (count_read (map item_tree items) all n b counted lt is) in
    let behind = behind_item items n i within at in
    let many = sym (length-map methods method_tree) ∙ ap length same in
    omega (arith, few, read, behind.methods, behind.few_methods, many, below)
