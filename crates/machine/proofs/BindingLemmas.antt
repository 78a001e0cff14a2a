-- Bindings: what a search among them finds, and how an edit changes what variables have.
use Rattle.std.proofs.Common.{◌≡◌, ℕ, zero, suc, ◌+◌, ◌-◌, ◌<◌, ◌≤◌, eqb, ◌≢◌, List, [], ◌∷◌, ◌++◌, length, get_or, map, set, Some, None, Result, Ok, Err, IfOk, IfErr, refl, sym, ap, ◌∙◌, subst, inl, inr, arith}
use Rattle.std.specs.Prelude.{Bool, Option, if◌then◌else◌, true, false}
use Rattle.std.specs.List.{insert, range_with_len}
use Rattle.std.specs.List.Sorted.{IsSearchInRange, IsBinarySearchResult, IsNonDecreasingBy}
use Rattle.std.specs.Ordering.{nat_cmp, ordering_index}
use Rattle.std.proofs.lemmas.Bool.{cases_eq, cases_lt}
use Rattle.std.proofs.lemmas.Bool.Decides.{nat_tests}
use Rattle.std.proofs.lemmas.Cmp.{ranked}
use Rattle.std.proofs.lemmas.List.{ext_get_or, get_or-set_other, get_or-set_same, get_or_past, length-set, set-get_or, set_past}
use Rattle.std.proofs.lemmas.List.Edits.{get_or-insert_above, get_or-insert_at, get_or-insert_below, length-insert}
use Rattle.std.proofs.lemmas.List.FromFn.{get_or-map-range_with_len, length-map-range_with_len, map-range_with_len_more}
use Rattle.std.proofs.lemmas.List.Sorted.{IsNonDecreasingBy-from_default}
use Rattle.machine.specs.Bindings.{AreSorted, IsAt, IsGap, MayTake, has_binding, no_variable, address_of, address_in, no_binding, variable_at, variables_in}
use Rattle.machine.specs.World.{read}
use Rattle.machine.specs.declared.variables.Binding.{Binding}

-- no binding before an index is the variable's
abbrev pub NoneBefore : List Binding → ℕ → ℕ → Type 0
NoneBefore l v i = (j : ℕ) → j < i → variable_at l j ≢ v

-- with the new bindings v has x, and any other variable has what it had
abbrev pub AddressAfter : List Binding → List Binding → ℕ → Option ℕ → Type 0
AddressAfter old new v x = (q : ℕ) → address_in new q ≡ (if eqb v q then x else address_in old q)

none_before_tail : (b : Binding) (l : List Binding) (v i : ℕ) → NoneBefore (b ∷ l) v (suc i) → NoneBefore l v i
none_before_tail b l v i none j lt = none (suc j) (omega arith)

at_tail : (b : Binding) (l : List Binding) (v i : ℕ) → IsAt (b ∷ l) v (suc i) → IsAt l v i
at_tail b l v i at = record { within = omega (arith, at.within); same = at.same }

-- a variable without a binding has nothing
pub address_absent : (l : List Binding) (v : ℕ) → NoneBefore l v (length l) → address_in l v ≡ None
address_absent [] v none = refl
address_absent (b ∷ l) v none = grind (arith, nat_tests, none 0 (omega arith), address_absent l v (none_before_tail b l v _ none))

-- a variable has what its first binding says
pub address_present : (l : List Binding) (v i : ℕ) → IsAt l v i → NoneBefore l v i → address_in l v ≡ address_of (get_or l i no_binding)
address_present [] v i at none = absurd (omega (arith, at.within))
address_present (b ∷ l) v zero at none = grind (arith, nat_tests, at.same)
address_present (b ∷ l) v (suc i) at none = grind (arith, nat_tests, none 0 (omega arith), address_present l v i (at_tail b l v i at) (none_before_tail b l v i none))

-- the first binding of a variable is overwritten
pub address_set : (l : List Binding) (v i : ℕ) (b : Binding) → b.variable ≡ v → IsAt l v i → NoneBefore l v i → AddressAfter l (set l i b) v (address_of b)
address_set [] v i b is at none q = absurd (omega (arith, at.within))
address_set (x ∷ l) v zero b is at none q = grind (arith, nat_tests, at.same)
address_set (x ∷ l) v (suc i) b is at none q = grind (arith, nat_tests, none 0 (omega arith), address_set l v i b is (at_tail x l v i at) (none_before_tail x l v i none) q)

-- a new binding is inserted before all others of its variable
pub address-insert : (l : List Binding) (v i : ℕ) (b : Binding) → b.variable ≡ v → NoneBefore l v i → AddressAfter l (insert l i b) v (address_of b)
address-insert l v zero b is none q = grind (arith, nat_tests)
address-insert [] v (suc i) b is none q = grind (arith, nat_tests)
address-insert (x ∷ l) v (suc i) b is none q = grind (arith, nat_tests, none 0 (omega arith), address-insert l v i b is (none_before_tail x l v i none) q)

-- the list of what variables have, in terms of each variable
pub length_variables : (count : ℕ) (l : List Binding) → length (variables_in count l) ≡ count
unfolding variables_in
length_variables count l = length-map-range_with_len (address_in l) 0 count

read_below : (count : ℕ) (l : List Binding) (v : ℕ) → v < count → read (variables_in count l) v ≡ address_in l v
unfolding variables_in
read_below count l v lt = get_or-map-range_with_len (address_in l) 0 count v v None lt (omega arith)

pub same_variables : (count : ℕ) (old new : List Binding) → ((q : ℕ) → address_in new q ≡ address_in old q) → variables_in count new ≡ variables_in count old
same_variables count old new same =
    ext_get_or None (variables_in count new) (variables_in count old) (length_variables count new ∙ sym (length_variables count old)) (λ i lt.
    let below : i < count = omega (arith, length_variables count new) in
    read_below count new i below ∙ (same i ∙ sym (read_below count old i below)))

pub set_variables : (count : ℕ) (old new : List Binding) (v : ℕ) (x : Option ℕ) → AddressAfter old new v x
    → variables_in count new ≡ set (variables_in count old) v x
set_variables count old new v x after =
    ext_get_or None (variables_in count new) (set (variables_in count old) v x)
    (length_variables count new ∙ sym (length-set (variables_in count old) v x ∙ length_variables count old)) (λ i lt.
    let below : i < count = omega (arith, length_variables count new) in
    let here = read_below count new i below ∙ after i in
    elim (cases_eq v i) [
      | inl is ↦ grind (arith, nat_tests, get_or-set_same (variables_in count old) v x None (omega (arith, length_variables count old)))
      | inr isnt ↦ grind (arith, nat_tests, read_below count old i below, get_or-set_other (variables_in count old) v i x None)
    ])

-- no variables
pub variables_none : (l : List Binding) (count : ℕ) → count ≡ 0 → variables_in count l ≡ []
unfolding variables_in
variables_none l count is = ap (λ n. map (address_in l) (range_with_len 0 n)) is

-- one more variable
more_variables : (count : ℕ) (l : List Binding) → variables_in (count + 1) l ≡ variables_in count l ++ address_in l count ∷ []
unfolding variables_in
more_variables count l = map-range_with_len_more (address_in l) 0 count count (omega arith)

one_on : (count : ℕ) (b : Binding) (l : List Binding) (v : ℕ) → MayTake count l v → MayTake count (b ∷ l) v
one_on count b l v (has_binding i at) = has_binding (suc i) record { within = omega (arith, at.within); same = at.same }
one_on count b l v (no_variable past) = no_variable past

-- a variable that has something has a binding
has_some : (count : ℕ) (l : List Binding) (v a : ℕ) → address_in l v ≡ Some a → MayTake count l v
has_some count [] v a is = absurd (cc)
has_some count (b ∷ l) v a is = elim (cases_eq b.variable v) [
  | inl same ↦ has_binding 0 record { within = omega arith; same = same }
  | inr other ↦ one_on count b l v (has_some count l v a (grind (arith, nat_tests)))
]

-- a binding is overwritten by one of the same variable
pub set_at_same : (l : List Binding) (at : ℕ) (b : Binding) → at < length l → variable_at l at ≡ b.variable → (i : ℕ) → variable_at (set l at b) i ≡ variable_at l i
set_at_same l at b lt same i = elim (cases_eq i at) [
  | inl is ↦ subst (λ n. variable_at (set l at b) n ≡ variable_at l n) (sym is) (ap (λ (x : Binding). x.variable) (get_or-set_same l at b no_binding lt) ∙ sym same)
  | inr isnt ↦ ap (λ (x : Binding). x.variable) (get_or-set_other l at i b no_binding isnt)
]

-- the variables of the bindings after an insertion
pub insert_below : (l : List Binding) (at : ℕ) (b : Binding) → at ≤ length l → (i : ℕ) → i < at → variable_at (insert l at b) i ≡ variable_at l i
insert_below l at b le i lt = ap (λ (x : Binding). x.variable) (get_or-insert_below l at b no_binding i lt le)

pub insert_here : (l : List Binding) (at : ℕ) (b : Binding) → at ≤ length l → (i : ℕ) → i ≡ at → variable_at (insert l at b) i ≡ b.variable
insert_here l at b le i is = rw is (ap (λ (x : Binding). x.variable) (get_or-insert_at l at b no_binding le))

insert_above : (l : List Binding) (at : ℕ) (b : Binding) → at ≤ length l → (i : ℕ) → at < i → variable_at (insert l at b) i ≡ variable_at l (i - 1)
insert_above l at b le i lt =
    subst (λ q. variable_at (insert l at b) q ≡ variable_at l (i - 1)) {x = i - 1 + 1} (omega arith)
    (ap (λ (x : Binding). x.variable) (get_or-insert_above l at b no_binding (i - 1) (omega arith) le))

module _ (count : ℕ) (l : List Binding) (sorted : AreSorted count l) where
  -- the comparisons with a variable never decrease along the list, as a binary search requires
  comparisons_rise : (v : ℕ) → IsNonDecreasingBy (λ (b : Binding). ordering_index (nat_cmp b.variable v)) l
  comparisons_rise v = IsNonDecreasingBy-from_default (λ (b : Binding). ordering_index (nat_cmp b.variable v)) l no_binding (λ i j le within.
      let variables_rise : variable_at l i ≤ variable_at l j = grind (arith, sorted.rise i j, λ (same : i ≡ j). ap (variable_at l) same) in
      grind (arith, nat_tests))

  -- a binary search ends at the variable's binding, or at the gap for it
  pub search_found : (v : ℕ) (r : Result ℕ ℕ) → IsSearchInRange r (length l) → IsBinarySearchResult (λ (b : Binding). nat_cmp b.variable v) l r → IfOk r (IsAt l v)
  search_found v (Ok at) within equal = record { within = within; same = ranked _ v _ (sym (equal no_binding)) }
  search_found v (Err at) within parted = tt

  pub search_absent : (v : ℕ) (r : Result ℕ ℕ) → IsSearchInRange r (length l) → IsBinarySearchResult (λ (b : Binding). nat_cmp b.variable v) l r → IfErr r (IsGap l v)
  search_absent v (Ok at) within equal = tt
  search_absent v (Err at) within parted = record {
    within = within;
    smaller = λ j lt. ranked _ v _ (sym ((parted (comparisons_rise v)).0 j no_binding (omega arith) lt));
    greater = λ j le lt. ranked _ v _ (sym ((parted (comparisons_rise v)).1 j no_binding le lt));
  }

  -- a variable has what its first binding says; one past the number of variables has no binding
  past_absent : (v : ℕ) → count ≤ v → address_in l v ≡ None
  past_absent v past = address_absent l v (λ j lt same. omega (arith, sorted.below j lt))

  pub read_is : (v : ℕ) → read (variables_in count l) v ≡ address_in l v
  read_is v = elim (cases_lt v count) [
    | inl lt ↦ read_below count l v lt
    | inr past ↦ get_or_past (variables_in count l) v None (omega (arith, length_variables count l)) ∙ sym (past_absent v past)
  ]

  none_before_at : (v at : ℕ) → IsAt l v at → NoneBefore l v at
  none_before_at v at is j lt same = omega (arith, sorted.rise j at lt is.within, is.same)

  -- what a variable has, with a binding and without one
  pub read_at : (v at : ℕ) (b : Binding) → IsAt l v at → b ≡ get_or l at no_binding → read (variables_in count l) v ≡ address_of b
  read_at v at b is here = read_is v ∙ (address_present l v at is (none_before_at v at is) ∙ ap address_of (sym here))

  pub read_gap : (v at : ℕ) → IsGap l v at → read (variables_in count l) v ≡ None
  read_gap v at gap = read_is v ∙ address_absent l v (λ j lt same. grind (arith, gap.smaller j, gap.greater j))

  -- a variable that has something has a binding
  pub read_may : (v a : ℕ) → read (variables_in count l) v ≡ Some a → MayTake count l v
  read_may v a is = has_some count l v a (sym (read_is v) ∙ is)

  -- a binding is overwritten
  pub put_variables : (v at : ℕ) (b : Binding) → IsAt l v at → b.variable ≡ v → variables_in count (set l at b) ≡ set (variables_in count l) v (address_of b)
  put_variables v at b is same = set_variables count l (set l at b) v (address_of b) (address_set l v at b same is (none_before_at v at is))

  pub put_sorted : (v at : ℕ) (b : Binding) → IsAt l v at → b.variable ≡ v → AreSorted count (set l at b)
  put_sorted v at b is same =
      let here = set_at_same l at b is.within (is.same ∙ sym same) in
      record {
        rise = λ i j lt within. rw (here i, here j) (sorted.rise i j lt (omega (arith, length-set l at b)));
        below = λ i within. rw (here i) (sorted.below i (omega (arith, length-set l at b)));
      }

  -- nothing is written if the variable has no binding and needs none
  pub put_gap : (v at : ℕ) (x : Option ℕ) → IsGap l v at → ((a : ℕ) → x ≡ Some a → MayTake count l v) → variables_in count l ≡ set (variables_in count l) v x
  put_gap v at None gap listed = sym (set_same (read_gap v at gap))
    where
      set_same : read (variables_in count l) v ≡ None → set (variables_in count l) v None ≡ variables_in count l
      set_same none = ap (set (variables_in count l) v) (sym none) ∙ set-get_or (variables_in count l) v None
  put_gap v at (Some a) gap listed = past (listed a refl)
    where
      past : MayTake count l v → variables_in count l ≡ set (variables_in count l) v (Some a)
      past (has_binding i at_i) = absurd (grind (arith, gap.smaller i, gap.greater i, at_i.within, at_i.same))
      past (no_variable le) = sym (set_past (variables_in count l) v (Some a) (omega (arith, length_variables count l)))

  -- a new binding is inserted
  pub list_sorted : (v at : ℕ) (b : Binding) → IsGap l v at → v < count → b.variable ≡ v → AreSorted count (insert l at b)
  list_sorted v at b gap below same =
      let longer = length-insert l at b gap.within in
      let low = insert_below l at b gap.within in
      let mid = insert_here l at b gap.within in
      let high = insert_above l at b gap.within in
      record {
        rise = λ i j lt within. grind (arith, low i, mid i, high i, low j, mid j, high j, sorted.rise i j, sorted.rise i (j - 1), sorted.rise (i - 1) (j - 1), gap.smaller i, gap.greater (j - 1));
        below = λ i within. grind (arith, low i, mid i, high i, sorted.below i, sorted.below (i - 1));
      }

-- the bindings are sorted whether the new one could be stored or not
pub either_sorted : (count : ℕ) (made : Bool) (new old : List Binding) → AreSorted count new → AreSorted count old → AreSorted count (if made then new else old)
either_sorted count true new old is was = is
either_sorted count false new old is was = was

-- a new binding without an address changes nothing
pub list_variables : (count : ℕ) (l : List Binding) (v at : ℕ) (b : Binding) → IsGap l v at → b.variable ≡ v → address_of b ≡ None → variables_in count (insert l at b) ≡ variables_in count l
list_variables count l v at b gap same nothing =
    same_variables count l (insert l at b) (λ q.
    let none = address_absent l v (λ j lt e. grind (arith, gap.smaller j, gap.greater j)) in
    let after = address-insert l v at b same (λ j lt e. omega (arith, gap.smaller j lt)) q in
    elim (cases_eq v q) [
      | inl is ↦ grind (arith, nat_tests)
      | inr isnt ↦ grind (arith, nat_tests)
    ])

-- the binding of one more variable goes to the end of the list
pub pushed_some : (count : ℕ) (l : List Binding) (b : Binding) (x : Option ℕ) → AreSorted count l → b.variable ≡ count → address_of b ≡ x
    → variables_in (count + 1) (insert l (length l) b) ≡ variables_in count l ++ x ∷ []
pushed_some count l b x sorted same is =
    let new = insert l (length l) b in
    let after : AddressAfter l new count (address_of b) = address-insert l count (length l) b same (λ j lt e. omega (arith, sorted.below j lt)) in
    let here : address_in new count ≡ address_of b = grind (arith, nat_tests, after count) in
    let rest : variables_in count new ≡ variables_in count l =
    set_variables count l new count (address_of b) after ∙ set_past (variables_in count l) count (address_of b) (omega (arith, length_variables count l)) in
    more_variables count new ∙ (ap (λ ys. ys ++ address_in new count ∷ []) rest ∙ ap (λ y. variables_in count l ++ y ∷ []) (here ∙ is))

pub pushed_none : (count : ℕ) (l : List Binding) (x : Option ℕ) → AreSorted count l → x ≡ None → variables_in (count + 1) l ≡ variables_in count l ++ x ∷ []
pushed_none count l x sorted is = more_variables count l ∙ ap (λ y. variables_in count l ++ y ∷ []) (past_absent count l sorted count (omega arith) ∙ sym is)
