-- The methods of items, item by item.
use Rattle.std.proofs.Common.{◌≡◌, ℕ, ◌+◌, ◌<◌, ◌≤◌, List, [], ◌∷◌, ◌++◌, length, map, take, get_or, sym, refl, ap, ◌∙◌, arith, append_assoc}
use Rattle.std.specs.List.{enumerate_from, flat_map}
use Rattle.std.proofs.lemmas.List.{flat_map_more, length-append, length-map, length-take-le, map-append, take_all, take_more}
use Rattle.lemmas.proofs.Lists.{nil_right, enumerate_push}
use Rattle.tree.specs.Trees.{ItemTree, item_tree}
use Rattle.tree.specs.declared.item.Item.{Item}
use Rattle.declarations.proofs.ReadyLemmas.{not_past}
use Rattle.declarations.specs.declared.mistake.Limit.TheVariants as limit
use Rattle.declarations.specs.Listed.{twice_among}
use Rattle.declarations.specs.ItemMistakes.{items_mistakes, method_names, methods_in}
use Rattle.declarations.specs.Program.{ProgramText, item_names}
use Rattle.program.specs.declared.limits.TheConstants.{MOST_METHODS}
use Rattle.program.specs.Methods.{MethodModel}
use Rattle.resolving.specs.Callees.{all_methods}
use Rattle.resolving.specs.Methods.{item_told, method_told}

-- the methods of the first i items
abbrev pub first_told : ProgramText → List Item → ℕ → List MethodModel
first_told p xs i = flat_map (item_told p) (enumerate_from 0 (map item_tree (take i xs)))

-- those of one more item
pub items_more : (p : ProgramText) (xs : List Item) (i : ℕ) (x : Item) → i < length xs → x ≡ get_or xs i x → first_told p xs (i + 1) ≡ first_told p xs i ++ item_told p (i, item_tree x)
items_more p xs i x lt is =
    let front = map item_tree (take i xs) in
    let size : length front ≡ i = length-map (take i xs) item_tree ∙ length-take-le i xs (omega (arith, lt)) in
    let at : 0 + length front ≡ i = omega (arith, size) in
    let more = ap (map item_tree) (take_more xs i x lt ∙ ap (λ y. take i xs ++ y ∷ []) (sym is)) ∙ map-append item_tree (take i xs) (x ∷ []) in
    ap (λ l. flat_map (item_told p) (enumerate_from 0 l)) more
    ∙ ap (flat_map (item_told p)) (enumerate_push 0 front (item_tree x) ∙ ap (λ k. enumerate_from 0 front ++ (k, item_tree x) ∷ []) at)
    ∙ sym (flat_map_more (item_told p) [] (enumerate_from 0 front) (i, item_tree x))

-- those of all items
pub items_all : (p : ProgramText) (xs : List Item) (i : ℕ) → length xs ≤ i → first_told p xs i ≡ flat_map (item_told p) (enumerate_from 0 (map item_tree xs))
items_all p xs i le = ap (λ l. flat_map (item_told p) (enumerate_from 0 (map item_tree l))) (take_all i xs le)

-- one more resolved element
pub seen_more : {S T X : Type 0} (seen : T → X) (go : S → X) (ss : List S) (i : ℕ) (s : S) (old done more : List T) (t : T) → i < length ss → s ≡ get_or ss i s
    → map seen done ≡ map seen old ++ map go (take i ss) → more ≡ done ++ t ∷ [] → seen t ≡ go s → map seen more ≡ map seen old ++ map go (take (i + 1) ss)
seen_more seen go ss i s old done more t lt is before new one =
    let front = map go (take i ss) in
    let taken = ap (map go) (take_more ss i s lt ∙ ap (λ y. take i ss ++ y ∷ []) (sym is)) ∙ map-append go (take i ss) (s ∷ []) in
    ap (map seen) new ∙ map-append seen done (t ∷ []) ∙ ap (λ l. l ++ seen t ∷ []) before ∙ ap (λ x. (map seen old ++ front) ++ x ∷ []) one
    ∙ append_assoc (map seen old) front (go s ∷ []) ∙ ap (λ l. map seen old ++ l) (sym taken)

-- There are as many resolved methods as the items have methods.
pub told_many : (p : ProgramText) (n : ℕ) (items : List ItemTree) → length (flat_map (item_told p) (enumerate_from n items)) ≡ length (all_methods items)
told_many p n [] = refl
told_many p n (i ∷ items) =
    let methods = methods_in i.definition in
    length-append (map (method_told p n) methods) (flat_map (item_told p) (enumerate_from (n + 1) items))
    ∙ ap (λ k. k + length (flat_map (item_told p) (enumerate_from (n + 1) items))) (length-map methods (method_told p n))
    ∙ ap (λ k. length methods + k) (told_many p (n + 1) items) ∙ sym (length-append methods (all_methods items))

-- If nothing is wrong with the names of items, there are no more methods than the limit.
pub few_methods : (p : ProgramText) → items_mistakes p ≡ [] → length (all_methods p.items) ≤ MOST_METHODS
few_methods p clean =
    let few = not_past limit.Methods (method_names p) (nil_right (twice_among p.text (item_names p)) _ clean) in
    let many = length-map (all_methods p.items) (λ m. m.name) in
    omega (arith, few, many)
