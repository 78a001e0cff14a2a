-- If nothing is wrong with a program, nothing is wrong with its contracts.
use Rattle.std.proofs.Common.{◌≡◌, ℕ, List, [], ◌∷◌, ◌++◌, length, map, sym, refl, ap, ◌∙◌, subst, arith}
use Rattle.std.specs.Prelude.{◌==◌, true}
use Rattle.std.specs.List.{flat_map}
use Rattle.std.proofs.lemmas.Bool.{eqb-true}
use Rattle.std.proofs.lemmas.List.{nil_from_length}
use Rattle.lemmas.proofs.Lists.{nil_left, nil_right}
use Rattle.declarations.specs.declared.mistake.Mistake.{Mistake}
use Rattle.tree.specs.Trees.{ContractTree, DefinitionTree, Contract, Struct, Class, ItemTree, contract_of, contracts_of, item_tree}
use Rattle.tree.specs.declared.item as tree
use Rattle.declarations.specs.ContractMistakes.{contract_mistakes}
use Rattle.declarations.specs.ItemMistakes.{contracts_mistakes, counted_mistakes, items_mistakes}
use Rattle.declarations.specs.Program.{ProgramText}
use Rattle.declarations.specs.Scopes.{IsScope, program_of_scope}
use Rattle.declarations.specs.declared.scope.Scope.{Scope}
use Rattle.names.specs.Findings.{definition_mistakes, program_mistakes}

-- if nothing is wrong within the items, nothing is wrong within the contracts among them
one_clean : (p : ProgramText) (d : DefinitionTree) (cs : List ContractTree) → definition_mistakes p d ≡ [] → flat_map (contract_mistakes p) cs ≡ [] → flat_map (contract_mistakes p) (contract_of d ++ cs) ≡ []
one_clean p (Contract c) cs none rest = ap (λ l. l ++ flat_map (contract_mistakes p) cs) none ∙ rest
one_clean p (Struct s) cs none rest = rest
one_clean p (Class c) cs none rest = rest

all_clean : (p : ProgramText) (items : List ItemTree) → flat_map (λ i. definition_mistakes p i.definition) items ≡ [] → flat_map (contract_mistakes p) (contracts_of items) ≡ []
all_clean p [] none = refl
all_clean p (i ∷ items) none =
    let here = definition_mistakes p i.definition in
    one_clean p i.definition (contracts_of items) (nil_left here _ none) (all_clean p items (nil_right here _ none))

pub contracts_clean : (p : ProgramText) → program_mistakes p ≡ [] → contracts_mistakes p ≡ []
contracts_clean p nothing =
    let behind = nil_right (items_mistakes p) _ nothing in
    ap (λ l. l ++ flat_map (contract_mistakes p) (contracts_of p.items)) (nil_left (counted_mistakes p) _ behind)
    ∙ all_clean p p.items (nil_right (counted_mistakes p) _ behind)

-- the program of a scope is the one whose names it has
own_program : (p : ProgramText) (scope : Scope) → IsScope p scope → program_of_scope scope ≡ p
own_program p scope h =
    let of : List ℕ → List ItemTree → ProgramText = λ text items. record { text = text; items = items } in
    ap (λ text. of text (map item_tree scope.items.now)) h.text_is ∙ ap (of p.text) h.items_are

-- a scope of a program whose names have no mistakes
pub record IsCleared (p : ProgramText) (scope : Scope) : Type 0 where
  pub clean : program_mistakes p ≡ []
  pub same : program_of_scope scope ≡ p
  pub own : IsScope (program_of_scope scope) scope
  pub contracts : contracts_mistakes (program_of_scope scope) ≡ []

-- if no mistake was found, the scope is cleared
pub cleared_by : (text : List ℕ) (items shown : List tree.Item.Item) (scope : Scope) (found : List Mistake) (many : ℕ) → shown ≡ items → many ≡ length found → (many == 0) ≡ true
    → IsScope (record { text = text; items = map item_tree shown }) scope → ((p : ProgramText) → IsScope p scope → found ≡ program_mistakes p)
    → IsCleared (record { text = text; items = map item_tree items }) scope
cleared_by text items shown scope found many same size empty h are =
    let p : ProgramText = record { text = text; items = map item_tree items } in
    let here : IsScope p scope = subst (λ l. IsScope (record { text = text; items = map item_tree l }) scope) same h in
    let zero = eqb-true many 0 empty in
    let nothing : program_mistakes p ≡ [] = sym (are p here) ∙ nil_from_length found (omega (arith, size, zero)) in
    let is = own_program p scope here in
    record {
      clean = nothing;
      same = is;
      own = subst (λ q. IsScope q scope) (sym is) here;
      contracts = ap contracts_mistakes is ∙ contracts_clean p nothing;
    }
