-- The declarations of contracts, one contract after another.
use Rattle.std.proofs.Common.{◌≡◌, ◌≤◌, ℕ, List, [], ◌∷◌, ◌++◌, length, map, refl, sym, ap, ◌∙◌, append_assoc, arith}
use Rattle.std.specs.List.{flat_map}
use Rattle.std.specs.Option.{option_map_or}
use Rattle.std.proofs.lemmas.List.{length-append, map-append}
use Rattle.std.proofs.lemmas.Option.{slice_get_past}
use Rattle.source.specs.declared.token.Span.{Span}
use Rattle.tree.specs.Trees.{ItemTree, DefinitionTree, Contract, Struct, Class, ContractTree, contract_of, contracts_of}
use Rattle.declarations.specs.Declarations.{names_of_contracts, counted_states, states_of}
use Rattle.declarations.specs.ItemMistakes.{all_counted_states}
use Rattle.declarations.specs.Mistakes.{most_of}
use Rattle.declarations.specs.declared.mistake.Limit.{Limit}
use Rattle.declarations.specs.Listed.{limit_passed, past_limit}
use Rattle.declarations.specs.Outlines.{outlined_states}
use Rattle.declarations.specs.Scopes.{AllMembers, AreMembers, AreDeclared, declared_among}
use Rattle.declarations.specs.declared.members.Declared.{Declared}
use Rattle.declarations.specs.declared.members.Members.{Members}
use Rattle.declarations.specs.declared.members.Members.TheVariants as members
use Rattle.declarations.proofs.MeantLemmas.{names_counted}

one_declared : (text : List ℕ) (d : DefinitionTree) (m : Members) (cs : List ContractTree) (ds : List Declared) → AreMembers text d m → AreDeclared text cs ds → AreDeclared text (contract_of d ++ cs) (declared_among m ++ ds)
one_declared text (Contract c) (members.Contract d) cs ds h all = (h, all)
one_declared text (Contract c) (members.Struct f) cs ds h all = absurd h
one_declared text (Contract c) (members.Class m) cs ds h all = absurd h
one_declared text (Struct s) (members.Contract d) cs ds h all = absurd h
one_declared text (Struct s) (members.Struct f) cs ds h all = all
one_declared text (Struct s) (members.Class m) cs ds h all = absurd h
one_declared text (Class c) (members.Contract d) cs ds h all = absurd h
one_declared text (Class c) (members.Struct f) cs ds h all = absurd h
one_declared text (Class c) (members.Class m) cs ds h all = all

-- the declarations of the contracts among items
pub all_declared : (text : List ℕ) (items : List ItemTree) (ms : List Members) → AllMembers text items ms → AreDeclared text (contracts_of items) (flat_map declared_among ms)
all_declared text [] [] all = tt
all_declared text [] (m ∷ ms) all = absurd all
all_declared text (i ∷ items) [] all = absurd all
all_declared text (i ∷ items) (m ∷ ms) all = one_declared text i.definition m (contracts_of items) (flat_map declared_among ms) all.0 (all_declared text items ms all.1)

names_are : (text : List ℕ) (cs : List ContractTree) (ds : List Declared) → AreDeclared text cs ds → map (λ (d : Declared). d.outline.name) ds ≡ names_of_contracts cs
names_are text [] [] all = refl
names_are text [] (d ∷ ds) all = absurd all
names_are text (c ∷ cs) [] all = absurd all
names_are text (c ∷ cs) (d ∷ ds) all = ap (λ n. n ∷ map (λ (e : Declared). e.outline.name) ds) all.0.outline.name ∙ ap (λ l. c.name ∷ l) (names_are text cs ds all.1)

states_are : (text : List ℕ) (cs : List ContractTree) (ds : List Declared) → AreDeclared text cs ds → flat_map (λ (d : Declared). counted_states (outlined_states d.outline)) ds ≡ all_counted_states cs
states_are text [] [] all = refl
states_are text [] (d ∷ ds) all = absurd all
states_are text (c ∷ cs) [] all = absurd all
states_are text (c ∷ cs) (d ∷ ds) all =
    ap (λ s. counted_states s ++ flat_map (λ (e : Declared). counted_states (outlined_states e.outline)) ds) all.0.outline.states
    ∙ ap (λ l. counted_states (states_of c) ++ l) (states_are text cs ds all.1)

map_within : {A B C : Type 0} (f : B → C) (g : A → List B) (xs : List A) → flat_map (λ x. map f (g x)) xs ≡ map f (flat_map g xs)
map_within f g [] = refl
map_within f g (x ∷ xs) = ap (λ l. map f (g x) ++ l) (map_within f g xs) ∙ sym (map-append f (g x) (flat_map g xs))

flat_append : {A B : Type 0} (f : A → List B) (xs ys : List A) → flat_map f (xs ++ ys) ≡ flat_map f xs ++ flat_map f ys
flat_append f [] ys = refl
flat_append f (x ∷ xs) ys = ap (λ l. f x ++ l) (flat_append f xs ys) ∙ sym (append_assoc (f x) (flat_map f xs) (flat_map f ys))

flat_within : {A B C : Type 0} (f : B → List C) (g : A → List B) (xs : List A) → flat_map (λ x. flat_map f (g x)) xs ≡ flat_map f (flat_map g xs)
flat_within f g [] = refl
flat_within f g (x ∷ xs) = ap (λ l. flat_map f (g x) ++ l) (flat_within f g xs) ∙ sym (flat_append f (g x) (flat_map g xs))

-- the names of the contracts among items
pub all_names : (text : List ℕ) (items : List ItemTree) (ms : List Members) → AllMembers text items ms → flat_map (λ m. map (λ (d : Declared). d.outline.name) (declared_among m)) ms ≡ names_of_contracts (contracts_of items)
all_names text items ms all = map_within (λ (d : Declared). d.outline.name) declared_among ms ∙ names_are text (contracts_of items) (flat_map declared_among ms) (all_declared text items ms all)

-- the names at which their states are counted
pub all_states : (text : List ℕ) (items : List ItemTree) (ms : List Members) → AllMembers text items ms → flat_map (λ m. flat_map (λ (d : Declared). counted_states (outlined_states d.outline)) (declared_among m)) ms ≡ all_counted_states (contracts_of items)
all_states text items ms all = flat_within (λ (d : Declared). counted_states (outlined_states d.outline)) declared_among ms ∙ states_are text (contracts_of items) (flat_map declared_among ms) (all_declared text items ms all)

counts_are : (text : List ℕ) (cs : List ContractTree) (ds : List Declared) → AreDeclared text cs ds → length (flat_map (λ (d : Declared). d.counted.all.items) ds) ≡ length (all_counted_states cs)
counts_are text [] [] all = refl
counts_are text [] (d ∷ ds) all = absurd all
counts_are text (c ∷ cs) [] all = absurd all
counts_are text (c ∷ cs) (d ∷ ds) all =
    let code = length-append d.counted.all.items (flat_map (λ (e : Declared). e.counted.all.items) ds) in
    let here = ap length all.0.all ∙ names_counted (states_of c) in
    let counted = length-append (counted_states (states_of c)) (all_counted_states cs) in
    let rest = counts_are text cs ds all.1 in
    omega (arith, code, here, counted, rest)

-- there are as many states in scope as counted states
pub many_states : (text : List ℕ) (items : List ItemTree) (ms : List Members) → AllMembers text items ms → length (flat_map (λ m. flat_map (λ (d : Declared). d.counted.all.items) (declared_among m)) ms) ≡ length (all_counted_states (contracts_of items))
many_states text items ms all = ap length (flat_within (λ (d : Declared). d.counted.all.items) declared_among ms) ∙ counts_are text (contracts_of items) (flat_map declared_among ms) (all_declared text items ms all)

-- if there are no more names than the limit, none is past it
pub none_past : (limit : Limit) (names : List Span) → length names ≤ most_of limit → past_limit limit names ≡ []
none_past limit names few = ap (λ o. option_map_or (limit_passed limit) o []) (slice_get_past names (most_of limit) few)
