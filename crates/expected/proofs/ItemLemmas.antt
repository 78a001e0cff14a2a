-- The items of a text, and how they are joined.
use Rattle.std.proofs.Common.{◌≡◌, ◌≢◌, ◌<◌, ◌+◌, ◌-◌, ℕ, Bool, true, false, cond, List, [], ◌∷◌, ◌++◌, length, drop, get_or, map, refl, sym, ap, ◌∙◌, append_assoc, add-one, arith, inl, inr}
use Rattle.std.proofs.Math.Seq.{drop-cons}
use Rattle.std.proofs.Math.Nat.{eq-or-lt_of_le}
use Rattle.std.proofs.lemmas.List.{length-drop}
use Rattle.std.specs.Prelude.{codes}
use Rattle.source.specs.declared.kind.Kind.{Kind}
use Rattle.expected.specs.declared.groups.Group.{Group}
use Rattle.expected.specs.KindWords.{word_of}
use Rattle.expected.specs.Grouping.{has_all, without, word_of_group, items_of}
use Rattle.expected.specs.Expectations.{rest_of_items}

drop_one : {X : Type 0} (xs : List X) (i : ℕ) (d : X) → i < length xs → drop i xs ≡ get_or xs i d ∷ drop (i + 1) xs
drop_one xs i d within = drop-cons xs i d within ∙ ap (λ j. get_or xs i d ∷ drop j xs) (sym (add-one i))

pub items_single : (kinds : List Kind) → items_of [] kinds ≡ map word_of kinds
unfolding items_of
items_single kinds = refl

items_next : (g : Group) (gs : List Group) (kinds : List Kind) (b : Bool) → has_all kinds g ≡ b
    → items_of (g ∷ gs) kinds ≡ cond b (word_of_group g ∷ items_of gs (without g kinds)) (items_of gs kinds)
unfolding items_of
items_next g gs kinds b is = ap (λ t. cond t (word_of_group g ∷ items_of gs (without g kinds)) (items_of gs kinds)) is

-- a group that is named
pub items_taken : (gs : List Group) (i : ℕ) (d : Group) (kinds : List Kind) (words : List (List ℕ)) → i < length gs
    → has_all kinds (get_or gs i d) ≡ true
    → (words ++ word_of_group (get_or gs i d) ∷ []) ++ items_of (drop (i + 1) gs) (without (get_or gs i d) kinds)
    ≡ words ++ items_of (drop i gs) kinds
items_taken gs i d kinds words within all =
    let g = get_or gs i d in
    append_assoc words (word_of_group g ∷ []) (items_of (drop (i + 1) gs) (without g kinds))
    ∙ ap (λ ws. words ++ ws) (sym (ap (λ hs. items_of hs kinds) (drop_one gs i d within) ∙ items_next g (drop (i + 1) gs) kinds true all))

-- and one that is not
pub items_passed : (gs : List Group) (i : ℕ) (d : Group) (kinds : List Kind) (words : List (List ℕ)) → i < length gs
    → has_all kinds (get_or gs i d) ≡ false
    → words ++ items_of (drop (i + 1) gs) kinds ≡ words ++ items_of (drop i gs) kinds
items_passed gs i d kinds words within all =
    let g = get_or gs i d in
    ap (λ ws. words ++ ws) (sym (ap (λ hs. items_of hs kinds) (drop_one gs i d within) ∙ items_next g (drop (i + 1) gs) kinds false all))

following_last : (last a : List ℕ) (bs : List (List ℕ)) → length bs ≡ 0 → rest_of_items last (a ∷ bs) ≡ last ++ (a ++ rest_of_items last bs)
following_last last a [] none = ap (λ t. last ++ t) (sym (append_nil a))
  where
    append_nil : (t : List ℕ) → t ++ [] ≡ t
    append_nil [] = refl
    append_nil (x ∷ xs) = ap (λ t. x ∷ t) (append_nil xs)
following_last last a (b ∷ bs) none = absurd (omega arith)

following_comma : (last a : List ℕ) (bs : List (List ℕ)) → 0 < length bs → rest_of_items last (a ∷ bs) ≡ codes ", " ++ (a ++ rest_of_items last bs)
following_comma last a [] some = absurd (omega arith)
following_comma last a (b ∷ bs) some = refl

-- what comes before an item, by whether it is the last
pub following_next : (last before item : List ℕ) (items : List (List ℕ)) (i : ℕ) → i < length items → get_or items i item ≡ item
    → (i + 1 ≡ length items → before ≡ last) → (i + 1 ≢ length items → before ≡ codes ", ")
    → rest_of_items last (drop i items) ≡ before ++ (item ++ rest_of_items last (drop (i + 1) items))
following_next last before item items i within is ends goes =
    let rest = drop (i + 1) items in
    let counted : length rest ≡ length items - (i + 1) = length-drop (i + 1) items in
    let parts : drop i items ≡ item ∷ rest = drop_one items i item within ∙ ap (λ a. a ∷ rest) is in
    ap (rest_of_items last) parts ∙ elim (eq-or-lt_of_le {n = i + 1} {m = length items} (omega arith)) [
      | inl same ↦ following_last last item rest (omega arith) ∙ ap (λ t. t ++ (item ++ rest_of_items last rest)) (sym (ends same))
      | inr less ↦ following_comma last item rest (omega arith) ∙ ap (λ t. t ++ (item ++ rest_of_items last rest)) (sym (goes (λ e. omega arith)))
    ]
