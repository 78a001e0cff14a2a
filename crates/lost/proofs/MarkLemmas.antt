-- What marking some addresses after others changes.
use Rattle.std.proofs.Common.{◌≡◌, ◌⊎◌, ◌∷◌, ◌++◌, ◌∙◌, ◌+◌, ◌<◌, ℕ, zero, suc, Bool, true, false, List, [], Contains, Option, Some}
use Rattle.std.proofs.Common.{ap, arith, count_by, get_or, inl, inr, length, length-append, map, not, refl, subst, sym, take, ⊎_elim}
use Rattle.std.proofs.Math.ListN.{set, length-set}
use Rattle.std.proofs.lemmas.Bool.{cases_eq, true≢false}
use Rattle.std.proofs.lemmas.List.{get_or-set_same, get_or-set_other, map-append, take_more}
use Rattle.std.proofs.lemmas.List.Elements.{Contains-append_cases, Contains-append_left, Contains-append_right, Contains-push}
use Rattle.std.proofs.lemmas.List.Elements.{Contains-push_cases}
use Rattle.contracts.specs.Marking.{IsMarked}
use Rattle.contracts.proofs.MarkLemmas.{marked_in, unmarked_set}
use Rattle.machine.specs.World.{Block}
use Rattle.lost.specs.Marks.{AddsMarks, BlockHolds, Brings, IsMarkedIfThere, OneHas, to_do}
use Rattle.lost.specs.declared.marking.Reach.{Reach}

-- an address without a mark, at which there is a block
pub unknown_below : (marks : List Bool) (a : ℕ) → get_or marks a true ≡ false → a < length marks
unknown_below [] a unknown = absurd (true≢false unknown)
unknown_below (b ∷ bs) zero unknown = omega arith
unknown_below (b ∷ bs) (suc a) unknown = let less : a < length bs = unknown_below bs a unknown in omega arith

-- where there is a block, it does not matter what is read past the end
pub any_default : (marks : List Bool) (a : ℕ) → a < length marks → get_or marks a true ≡ get_or marks a false
any_default [] a less = absurd (omega arith)
any_default (b ∷ bs) zero less = refl
any_default (b ∷ bs) (suc a) less = any_default bs a (omega arith)

-- what is marked is known
pub marked_known : (marks : List Bool) (a : ℕ) → IsMarked marks a → IsMarkedIfThere marks a
marked_known marks a is = any_default marks a (marked_in marks a is) ∙ is

-- nothing has to be marked
pub marks_none : (Of : ℕ → Type 0) (r : Reach) → ((a : ℕ) → Of a → IsMarkedIfThere r.marks.items a) → AddsMarks Of r r
marks_none Of r all = record {
  all = all;
  keeps = λ a is. is;
  only = λ a is. inl is;
  waits = λ a is. is;
  pending = λ a is. inl is;
  long = refl;
  count = refl;
}

-- one set of addresses is marked, then another
pub marks_then : (A B C : ℕ → Type 0) (r s t : Reach) → ((a : ℕ) → C a → A a ⊎ B a) → ((a : ℕ) → A a → C a) → ((a : ℕ) → B a → C a)
    → AddsMarks A r s → AddsMarks B s t → AddsMarks C r t
marks_then A B C r s t split first second one two = record {
  all = λ a is. ⊎_elim (λ x. two.keeps a (one.all a x)) (λ y. two.all a y) (split a is);
  keeps = λ a is. two.keeps a (one.keeps a is);
  only = λ a is. ⊎_elim
      (λ was. ⊎_elim (λ old. inl old) (λ waits. inr (two.waits a waits)) (one.only a was))
      (λ waits. inr waits)
      (two.only a is);
  waits = λ a is. two.waits a (one.waits a is);
  pending = λ a is. ⊎_elim
      (λ was. ⊎_elim (λ old. inl old) (λ x. inr (first a x)) (one.pending a was))
      (λ y. inr (second a y))
      (two.pending a is);
  long = two.long ∙ one.long;
  count = two.count ∙ one.count;
}

-- a block gets a mark, and is pending then
module _ (r s : Reach) (v : ℕ) (unknown : get_or r.marks.items v true ≡ false) (marks : s.marks.items ≡ set r.marks.items v true)
    (pending : s.pending.items ≡ r.pending.items ++ v ∷ []) where
  below : v < length r.marks.items
  below = unknown_below r.marks.items v unknown

  this : IsMarked s.marks.items v
  this = ap (λ l. get_or l v false) marks ∙ get_or-set_same r.marks.items v true false below

  others : (a : ℕ) (d : Bool) → get_or s.marks.items a d ≡ true → (a ≡ v) ⊎ (get_or r.marks.items a d ≡ true)
  others a d is = ⊎_elim
      (λ same. inl same)
      (λ other. inr (sym (ap (λ l. get_or l a d) marks ∙ get_or-set_other r.marks.items v a true d other) ∙ is))
      (cases_eq a v)

  keeps : (a : ℕ) → IsMarkedIfThere r.marks.items a → IsMarkedIfThere s.marks.items a
  keeps a is = ⊎_elim
      (λ same. subst (IsMarkedIfThere s.marks.items) (sym same) (marked_known s.marks.items v this))
      (λ other. ap (λ l. get_or l a true) marks ∙ get_or-set_other r.marks.items v a true true other ∙ is)
      (cases_eq a v)

  listed : Contains s.pending.items v
  listed = subst (λ l. Contains l v) (sym pending) (Contains-push r.pending.items v)

  count : to_do s ≡ to_do r
  count =
      let e = ap (λ l. length l) pending in
      let f = length-append r.pending.items (v ∷ []) in
      let g = unmarked_set r.marks.items v below (sym (any_default r.marks.items v below) ∙ unknown) in
      subst (λ l. count_by not l + length s.pending.items ≡ to_do r) (sym marks) (omega (arith, e, f, g))

  pub marks_one : AddsMarks (λ a. v ≡ a) r s
  marks_one = record {
    all = λ a is. subst (IsMarkedIfThere s.marks.items) is (marked_known s.marks.items v this);
    keeps = keeps;
    only = λ a is. ⊎_elim
        (λ same. inr (subst (Contains s.pending.items) (sym same) listed))
        (λ old. inl old)
        (others a false is);
    waits = λ a is. subst (λ l. Contains l a) (sym pending) (Contains-append_left r.pending.items (v ∷ []) a is);
    pending = λ a is. Contains-push_cases r.pending.items v a (subst (λ l. Contains l a) pending is);
    long = ap length marks ∙ length-set r.marks.items v true;
    count = count;
  }

-- the same addresses, told in another way
pub marks_as : (A B : ℕ → Type 0) (r s : Reach) → ((a : ℕ) → B a → A a) → ((a : ℕ) → A a → B a) → AddsMarks A r s → AddsMarks B r s
marks_as A B r s back on step = record {
  all = λ a is. step.all a (back a is);
  keeps = step.keeps;
  only = step.only;
  waits = step.waits;
  pending = λ a is. ⊎_elim (λ old. inl old) (λ x. inr (on a x)) (step.pending a is);
  long = step.long;
  count = step.count;
}

-- the address that a variable has
pub marks_any : (has : Option ℕ) (v : ℕ) (r s : Reach) → has ≡ Some v → AddsMarks (λ a. v ≡ a) r s → AddsMarks (λ a. has ≡ Some a) r s
marks_any has v r s is step =
    marks_as (λ a. v ≡ a) (λ a. has ≡ Some a) r s (λ a same. let e : Some v ≡ Some a = sym is ∙ same in cc)
    (λ a same. is ∙ ap Some same) step

-- nothing is in an empty list
pub none_in : {X : Type 0} (xs : List X) (x : X) → xs ≡ [] → Contains xs x → ⊥
none_in xs x none has =
    let short = has.1 in
    let long : length xs ≡ 0 = ap (λ l. length l) none in
    absurd (omega (arith, short, long))

-- the blocks of the first items of a list are marked, then that of the next one
pub marks_item : {X : Type 0} (at : ℕ → X) (xs : List X) (i : ℕ) (y d : X) (r s t : Reach) → i < length xs → y ≡ get_or xs i d
    → AddsMarks (λ a. Contains (take i xs) (at a)) r s → AddsMarks (λ a. y ≡ at a) s t
    → AddsMarks (λ a. Contains (take (i + 1) xs) (at a)) r t
marks_item at xs i y d r s t short there before step =
    subst (λ l. AddsMarks (λ a. Contains l (at a)) r t)
    (sym (take_more xs i d short ∙ ap (λ z. take i xs ++ z ∷ []) (sym there)))
    (marks_then (λ a. Contains (take i xs) (at a)) (λ a. y ≡ at a) (λ a. Contains (take i xs ++ y ∷ []) (at a)) r s t
    (λ a is. Contains-push_cases (take i xs) y (at a) is)
    (λ a is. Contains-append_left (take i xs) (y ∷ []) (at a) is)
    (λ a is. subst (Contains (take i xs ++ y ∷ [])) is (Contains-push (take i xs) y))
    before step)

-- the same for what each value of a list has
marks_last : {B : Type 0} (Has : B → ℕ → Type 0) (ys : List B) (y : B) (r s t : Reach) → AddsMarks (OneHas Has ys) r s
    → AddsMarks (Has y) s t → AddsMarks (OneHas Has (ys ++ y ∷ [])) r t
marks_last {B} Has ys y r s t before step =
    marks_then (OneHas Has ys) (Has y) (OneHas Has (ys ++ y ∷ [])) r s t
    (λ a is. ⊎_elim (λ old. inl (is.0, old, is.2)) (λ same. inr (subst (λ z. Has z a) (sym same) is.2))
    (Contains-push_cases ys y is.0 is.1))
    (λ a is. (is.0, Contains-append_left ys (y ∷ []) is.0 is.1, is.2))
    (λ a is. (y, Contains-push ys y, is))
    before step

pub marks_more : {A B : Type 0} (Has : B → ℕ → Type 0) (v : A → B) (xs : List A) (i : ℕ) (x d : A) (r s t : Reach) → i < length xs
    → x ≡ get_or xs i d → AddsMarks (OneHas Has (map v (take i xs))) r s → AddsMarks (Has (v x)) s t
    → AddsMarks (OneHas Has (map v (take (i + 1) xs))) r t
marks_more Has v xs i x d r s t short there before step =
    subst (λ l. AddsMarks (OneHas Has l) r t)
    (sym (ap (map v) (take_more xs i d short)
    ∙ (map-append v (take i xs) (get_or xs i d ∷ []) ∙ ap (λ y. map v (take i xs) ++ v y ∷ []) (sym there))))
    (marks_last Has (map v (take i xs)) (v x) r s t before step)

-- the first value of a list, or one of the others
pub first_or : {X : Type 0} (x : X) (xs : List X) (y : X) → Contains (x ∷ xs) y → (x ≡ y) ⊎ Contains xs y
first_or x xs y is = ⊎_elim
    (λ one. ⊎_elim (λ none. absurd (none_in [] y refl none)) (λ same. inl same) (Contains-push_cases [] x y one))
    (λ more. inr more)
    (Contains-append_cases (x ∷ []) xs y is)

-- what the first value of a list has is marked, then what the others have
pub marks_first : {B : Type 0} (Has : B → ℕ → Type 0) (y : B) (ys : List B) (r s t : Reach) → AddsMarks (Has y) r s
    → AddsMarks (OneHas Has ys) s t → AddsMarks (OneHas Has (y ∷ ys)) r t
marks_first {B} Has y ys r s t top rest =
    marks_then (Has y) (OneHas Has ys) (OneHas Has (y ∷ ys)) r s t
    (λ a is. ⊎_elim (λ same. inl (subst (λ z. Has z a) (sym same) is.2)) (λ more. inr (is.0, more, is.2)) (first_or y ys is.0 is.1))
    (λ a is. (y, Contains-append_left (y ∷ []) ys y (Contains-push [] y), is))
    (λ a is. (is.0, Contains-append_right (y ∷ []) ys is.0 is.1, is.2))
    top rest

-- the fields of a block and its queue
pub marks_held : (b : Block) (r s t : Reach) → AddsMarks (Contains b.fields) r s → AddsMarks (Brings b.queue) s t
    → AddsMarks (BlockHolds b) r t
marks_held b r s t fields queue =
    marks_then (Contains b.fields) (Brings b.queue) (BlockHolds b) r s t (λ a is. is) (λ a field. inl field) (λ a message. inr message)
    fields queue

-- a process that has ended has no variables
pub marks_ended : {B : Type 0} (Has : B → ℕ → Type 0) (r : Reach) → AddsMarks (OneHas Has []) r r
marks_ended {B} Has r = marks_none (OneHas Has []) r (λ a is. absurd (none_in [] is.0 refl is.1))
