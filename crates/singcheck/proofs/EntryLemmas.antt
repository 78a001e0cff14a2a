-- Names that are compared piece by piece, and the first one that matches.
use Rattle.std.proofs.Common.{◌≡◌, ◌≢◌, ◌<◌, ◌≤◌, ◌+◌, ℕ, zero, suc, true, false, Option, Some, None, refl, List, [], ◌∷◌, ◌++◌, length, map, take, drop, get_or, ap, ap₂, sym, ◌∙◌, subst, arith, append_assoc, append-nil, length-append, take-append-drop, drop-cons}
use Rattle.std.proofs.Math.Seq.{take-append_seam, drop-append_seam}
use Rattle.std.proofs.lemmas.Grind.{flat_map-append}
use Rattle.std.proofs.lemmas.List.{length-map, map-append, take_more}
use Rattle.std.specs.Prelude.{nat_eq, slice_get, IfNone, IfSome}
use Rattle.std.specs.Cmp.Lexicographic.{pointwise, same_text, other_text}
use Rattle.std.specs.List.{enumerate_from, flat_map}
use Rattle.program.specs.Lists.{Each}
use Rattle.declarations.specs.ItemMistakes.{methods_in}
use Rattle.declarations.specs.Program.{ProgramText}
use Rattle.resolving.specs.Methods.{item_told, method_told}
use Rattle.tree.specs.Trees.{DefinitionTree, Contract, Struct, Class, ItemTree}
use Rattle.singcheck.specs.Replays.{IsFirstAt, full_name, method_names, names_in}
use Rattle.sound.proofs.Lists.{each_append}

-- a list whose front matches a piece is that piece and the rest
pub strip_there : (e a r : List ℕ) → pointwise nat_eq (take (length a) e) a ≡ true → r ≡ drop (length a) e → e ≡ a ++ r
strip_there e a r h is = sym (take-append-drop (length a) e) ∙ ap₂ (λ x y. x ++ y) (same_text (take (length a) e) a (sym h)) (sym is)

pub strip_not : (e a r : List ℕ) → pointwise nat_eq (take (length a) e) a ≡ false → a ++ r ≡ e → ⊥
strip_not e a r h is = other_text (take (length a) e) a (sym h) (ap (take (length a)) (sym is) ∙ take-append_seam a r)

pub strip_rest : (e a r x : List ℕ) → r ≡ drop (length a) e → a ++ x ≡ e → r ≡ x
strip_rest e a r x is whole = is ∙ ap (drop (length a)) (sym whole) ∙ drop-append_seam a x

-- a list, split around the element at an index
round : {A B : Type 0} (view : A → B) (xs : List A) (i : ℕ) (x : A) → i < length xs → x ≡ get_or xs i x → map view xs ≡ map view (take i xs) ++ view x ∷ map view (drop (suc i) xs)
round view xs i x lt is = ap (map view) (sym (take-append-drop i xs) ∙ ap (λ l. take i xs ++ l) (drop-cons xs i x lt))
    ∙ map-append view (take i xs) (get_or xs i x ∷ drop (suc i) xs)
    ∙ ap (λ y. map view (take i xs) ++ view y ∷ map view (drop (suc i) xs)) (sym is)

-- the names, split around the first one that is this name
record Round (names : List (List ℕ)) (name : List ℕ) (n : ℕ) : Type 0 where
  before : List (List ℕ)
  behind : List (List ℕ)
  are : names ≡ before ++ name ∷ behind
  counted : n ≡ length before
  others : Each (λ y. y ≢ name) before

there_is : (before behind : List (List ℕ)) (name : List ℕ) → slice_get (before ++ name ∷ behind) (length before) ≡ Some name
there_is [] behind name = refl
there_is (y ∷ before) behind name = there_is before behind name

first_of : (names : List (List ℕ)) (name : List ℕ) (n : ℕ) → Round names name n → IsFirstAt names name n
first_of names name n r = (
  ap₂ (λ l k. slice_get l k) r.are r.counted ∙ there_is r.before r.behind name,
  subst (Each (λ (y : List ℕ). y ≢ name)) (sym (ap₂ (λ k l. take k l) r.counted r.are ∙ take-append_seam r.before (name ∷ r.behind))) r.others,
)

parts_at : (names : List (List ℕ)) (n : ℕ) (name : List ℕ) → slice_get names n ≡ Some name
    → (names ≡ take n names ++ name ∷ drop (suc n) names) × (n ≡ length (take n names))
parts_at [] n name is = absurd (cc)
parts_at (y ∷ names) zero name is = let same : y ≡ name = cc in (ap (λ x. x ∷ names) same, refl)
parts_at (y ∷ names) (suc n) name is = let p = parts_at names n name is in (ap (λ l. y ∷ l) p.0, ap suc p.1)

round_of : (names : List (List ℕ)) (name : List ℕ) (n : ℕ) → IsFirstAt names name n → Round names name n
round_of names name n f =
    let p = parts_at names n name f.0 in
    record { before = take n names; behind = drop (suc n) names; are = p.0; counted = p.1; others = f.1 }

-- the name at an index is the first match if none before it matches
pub first_here : {A : Type 0} (view : A → List ℕ) (xs : List A) (name : List ℕ) (i : ℕ) (x : A) → i < length xs → x ≡ get_or xs i x → view x ≡ name → length (map view (take i xs)) ≡ i → Each (λ y. y ≢ name) (map view (take i xs))
    → IsFirstAt (map view xs) name i
first_here view xs name i x lt is same size others = first_of (map view xs) name i (record {
  before = map view (take i xs);
  behind = map view (drop (suc i) xs);
  are = round view xs i x lt is ∙ ap (λ n. map view (take i xs) ++ n ∷ map view (drop (suc i) xs)) same;
  counted = sym size;
  others = others;
})

-- one more name does not match
pub others_more : {A : Type 0} (view : A → List ℕ) (xs : List A) (name : List ℕ) (i : ℕ) (x : A) → i < length xs → x ≡ get_or xs i x → view x ≢ name → Each (λ y. y ≢ name) (map view (take i xs)) → Each (λ y. y ≢ name) (map view (take (i + 1) xs))
others_more view xs name i x lt is differ others =
    subst (Each (λ (y : List ℕ). y ≢ name)) (sym (ap (map view) (take_more xs i x lt) ∙ map-append view (take i xs) (get_or xs i x ∷ []) ∙ ap (λ y. map view (take i xs) ++ view y ∷ []) (sym is)))
    (each_append (λ (y : List ℕ). y ≢ name) (map view (take i xs)) (view x ∷ []) others (differ, tt))

-- one more list in a concatenation
pub rows_more : {A B : Type 0} (row : A → List B) (xs : List A) (i : ℕ) (x : A) → i < length xs → x ≡ get_or xs i x → flat_map row (take (i + 1) xs) ≡ flat_map row (take i xs) ++ row x
rows_more row xs i x lt is = ap (flat_map row) (take_more xs i x lt) ∙ flat_map-append row (take i xs) (get_or xs i x ∷ [])
    ∙ ap (λ l. flat_map row (take i xs) ++ l) (append-nil (row (get_or xs i x)) ∙ ap row (sym is))

-- a concatenation of lists, split around the list at an index
pub rows_round : {A B : Type 0} (row : A → List B) (xs : List A) (i : ℕ) (x : A) → i < length xs → x ≡ get_or xs i x → flat_map row xs ≡ flat_map row (take i xs) ++ (row x ++ flat_map row (drop (suc i) xs))
rows_round row xs i x lt is = ap (flat_map row) (sym (take-append-drop i xs) ∙ ap (λ l. take i xs ++ l) (drop-cons xs i x lt))
    ∙ flat_map-append row (take i xs) (get_or xs i x ∷ drop (suc i) xs)
    ∙ ap (λ y. flat_map row (take i xs) ++ (row y ++ flat_map row (drop (suc i) xs))) (sym is)

-- the first match within one of the lists is the first of all, if none before that list matches
pub first_in : (names before inner rest : List (List ℕ)) (name : List ℕ) (n : ℕ) → names ≡ before ++ (inner ++ rest) → Each (λ y. y ≢ name) before → IsFirstAt inner name n → IsFirstAt names name (length before + n)
first_in names before inner rest name n are others f =
    let r = round_of inner name n f in
    first_of names name (length before + n) (record {
      before = before ++ r.before;
      behind = r.behind ++ rest;
      are = are ∙ ap (λ l. before ++ (l ++ rest)) r.are ∙ ap (λ l. before ++ l) (append_assoc r.before (name ∷ r.behind) rest) ∙ sym (append_assoc before r.before (name ∷ (r.behind ++ rest)));
      counted = ap (λ k. length before + k) r.counted ∙ sym (length-append before r.before);
      others = each_append (λ (y : List ℕ). y ≢ name) before r.before others r.others;
    })

-- the index of the first match is within the list
pub first_within : (names : List (List ℕ)) (name : List ℕ) (n : ℕ) → IsFirstAt names name n → n < length names
first_within names name n f =
    let r = round_of names name n f in
    omega (arith, r.counted, ap (λ l. length l) r.are, length-append r.before (name ∷ r.behind))

-- the index of a match is less than the number of all names
pub fits_first : {A : Type 0} (row : A → List (List ℕ)) (xs : List A) (i : ℕ) (x : A) (name : List ℕ) (n before : ℕ) → i < length xs → x ≡ get_or xs i x → before ≡ length (flat_map row (take i xs)) → IsFirstAt (row x) name n
    → before + n < length (flat_map row xs)
fits_first row xs i x name n before lt is counted f =
    let size = ap (λ l. length l) (rows_round row xs i x lt is) ∙ length-append (flat_map row (take i xs)) (row x ++ flat_map row (drop (suc i) xs)) in
    omega (arith, size, counted, length-append (row x) (flat_map row (drop (suc i) xs)), first_within (row x) name n f)

pub fits_row : {A : Type 0} (row : A → List (List ℕ)) (xs : List A) (i : ℕ) (x : A) (before : ℕ) → i < length xs → x ≡ get_or xs i x → before ≡ length (flat_map row (take i xs)) → before + length (row x) ≤ length (flat_map row xs)
fits_row row xs i x before lt is counted =
    let size = ap (λ l. length l) (rows_round row xs i x lt is) ∙ length-append (flat_map row (take i xs)) (row x ++ flat_map row (drop (suc i) xs)) in
    omega (arith, size, counted, length-append (row x) (flat_map row (drop (suc i) xs)))

-- there is no first match if all names differ
pub none_first : (names : List (List ℕ)) (name : List ℕ) (n : ℕ) → Each (λ y. y ≢ name) names → IsFirstAt names name n → ⊥
none_first names name n others f = let r = round_of names name n f in at r.before r.behind (subst (Each (λ (y : List ℕ). y ≢ name)) r.are others)
  where
    at : (before behind : List (List ℕ)) → Each (λ y. y ≢ name) (before ++ name ∷ behind) → ⊥
    at [] behind h = h.0 refl
    at (y ∷ before) behind h = at before behind h.1

same_before : (a b x y : List (List ℕ)) (name : List ℕ) → a ++ name ∷ x ≡ b ++ name ∷ y → Each (λ n. n ≢ name) a → Each (λ n. n ≢ name) b → length a ≡ length b
same_before [] [] x y name e h k = refl
same_before [] (m ∷ b) x y name e h k = absurd (let s : m ≡ name = cc in k.0 s)
same_before (m ∷ a) [] x y name e h k = absurd (let s : m ≡ name = cc in h.0 s)
same_before (m ∷ a) (n ∷ b) x y name e h k = let tails : a ++ name ∷ x ≡ b ++ name ∷ y = cc in ap suc (same_before a b x y name tails h.1 k.1)

-- the index of the first match is unique
pub first_once : (names : List (List ℕ)) (name : List ℕ) (m n : ℕ) → IsFirstAt names name m → IsFirstAt names name n → m ≡ n
first_once names name m n f g =
    let r = round_of names name m f in
    let s = round_of names name n g in
    r.counted ∙ same_before r.before s.before r.behind s.behind name (sym r.are ∙ s.are) r.others s.others ∙ sym s.counted

-- the result of looking for a name
pub record IsLooked (names : List (List ℕ)) (name : List ℕ) (place : Option ℕ) : Type 0 where
  pub some : IfSome place (IsFirstAt names name)
  pub none : IfNone place (Each (λ y. y ≢ name) names)

pub looked_at : (names : List (List ℕ)) (name : List ℕ) (place : Option ℕ) (n : ℕ) → IsLooked names name place → place ≡ Some n → IsFirstAt names name n
looked_at names name None n l e = absurd (cc)
looked_at names name (Some k) n l e = let same : k ≡ n = cc in subst (IsFirstAt names name) same l.some

pub looked_only : (names : List (List ℕ)) (name : List ℕ) (place : Option ℕ) (n : ℕ) → IsLooked names name place → IsFirstAt names name n → place ≡ Some n
looked_only names name None n l f = absurd (none_first names name n l.none f)
looked_only names name (Some k) n l f = ap Some (first_once names name k n l.some f)

-- each method has one name
named_in : (p : ProgramText) (n : ℕ) (d : DefinitionTree) → length (names_in p.text d) ≡ length (map (method_told p n) (methods_in d))
named_in p n (Contract c) = refl
named_in p n (Struct s) = refl
named_in p n (Class c) = length-map c.methods (full_name p.text c.name) ∙ sym (length-map c.methods (method_told p n))

pub all_named : (p : ProgramText) (n : ℕ) (items : List ItemTree) → length (method_names p.text items) ≡ length (flat_map (item_told p) (enumerate_from n items))
all_named p n [] = refl
all_named p n (i ∷ items) =
    length-append (names_in p.text i.definition) (method_names p.text items) ∙ ap₂ (λ a b. a + b) (named_in p n i.definition) (all_named p (n + 1) items)
    ∙ sym (length-append (map (method_told p n) (methods_in i.definition)) (flat_map (item_told p) (enumerate_from (n + 1) items)))
