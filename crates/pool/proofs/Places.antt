-- Lists of owners in which one owner, or one owner after another, has changed.
use Rattle.std.proofs.Common.{zero, suc, drop, ◌≤◌, ◌≡◌, ℕ, ◌+◌, ◌<◌, List, [], ◌∷◌, ◌++◌, length, set, get_or, All, refl, sym, ap, ◌∙◌, subst, arith, length-set, get_or-set_same, get_or-set_other, sum_by, take, ⊎_elim}
use Rattle.std.specs.List.{remove}
use Rattle.std.proofs.lemmas.List.Sums.{sum_by-cons, sum_by-set}
use Rattle.std.proofs.Math.Nat.{eq-or-lt_of_le}
use Rattle.std.proofs.lemmas.List.{get_or_append_left, get_or_push}
use native.Mathlib.Decide.{ℕ_discrete}
use Rattle.crossbeam_deque.specs.Handles.{IsPassOf}
use Rattle.pool.specs.Counts.{DequeOwner, Ticket}
use Rattle.pool.specs.Owners.{EachChanges, GotParts, Keeps, LostParts, OneChanges}
use Rattle.pool.specs.Rounds.{AreCutOff, AreNew, AreOf}

-- the next element of a list, after the first d
pub next_is : {X : Type 0} (xs : List X) (d : ℕ) (x e : X) (rest : List X) → drop d xs ≡ x ∷ rest → (get_or xs d e ≡ x) × (rest ≡ drop (suc d) xs)
next_is [] zero x e rest h = absurd (cc)
next_is [] (suc d) x e rest h = absurd (cc)
next_is (y ∷ ys) zero x e rest h = ((cc), (cc))
next_is (y ∷ ys) (suc d) x e rest h = next_is ys d x e rest h

-- a list of length 0 is empty
pub no_items : {X : Type 0} (xs : List X) → length xs ≡ 0 → xs ≡ []
no_items [] e = refl
no_items (x ∷ xs) e = absurd (omega (arith, e))

-- the sum after one owner has changed
pub sum_one : (f : DequeOwner → ℕ) (d : ℕ) (change : DequeOwner → DequeOwner → Type 0) (os os' : List DequeOwner) → d < length os → (one : OneChanges d change os os')
    → sum_by f os' + f one.old ≡ sum_by f os + f one.new
sum_one f d change os os' in_place one =
    let e : f (get_or os d one.old) ≡ f one.old = ap f (one.was one.old) in
    let k : sum_by f os' ≡ sum_by f (set os d one.new) = ap (sum_by f) one.now in
    omega (arith, sum_by-set f os d one.new one.old in_place)

pub length_one : (d : ℕ) (change : DequeOwner → DequeOwner → Type 0) (os os' : List DequeOwner) → OneChanges d change os os' → length os' ≡ length os
length_one d change os os' one = ap length one.now ∙ length-set os d one.new

module _ (d : ℕ) (change : DequeOwner → DequeOwner → Type 0) (start os os' : List DequeOwner) (in_place : d < length os) (one : OneChanges d change os os') where
  -- the owners below d + 1 have changed so, if those below d had and this one has
  pub done_more : (Rel : ℕ → DequeOwner → DequeOwner → Type 0) → ((o : DequeOwner) → get_or os d o ≡ get_or start d o) → Rel d one.old one.new
      → ((i : ℕ) (o : DequeOwner) → i < d → Rel i (get_or start i o) (get_or os i o))
      → (i : ℕ) (o : DequeOwner) → i < d + 1 → Rel i (get_or start i o) (get_or os' i o)
  done_more Rel same this before i o below = at (ℕ_discrete i d)
    where
      at : Dec (i ≡ d) → Rel i (get_or start i o) (get_or os' i o)
      at (yes e) =
          let now : get_or os' d o ≡ one.new = ap (λ (l : List DequeOwner). get_or l d o) one.now ∙ get_or-set_same os d one.new o in_place in
          let was : get_or start d o ≡ one.old = sym (same o) ∙ one.was o in
          subst (λ (k : ℕ). Rel k (get_or start k o) (get_or os' k o)) (sym e)
          (subst (λ (x : DequeOwner). Rel d x (get_or os' d o)) (sym was) (subst (λ (x : DequeOwner). Rel d one.old x) (sym now) this))
      at (no n) =
          let now : get_or os' i o ≡ get_or os i o = ap (λ (l : List DequeOwner). get_or l i o) one.now ∙ get_or-set_other os d i one.new o n in
          subst (λ (x : DequeOwner). Rel i (get_or start i o) x) (sym now) (before i o (omega arith))

  -- the owners after it are as they were
  pub left_more : ((i : ℕ) (o : DequeOwner) → d ≤ i → get_or os i o ≡ get_or start i o) → (i : ℕ) (o : DequeOwner) → d + 1 ≤ i → get_or os' i o ≡ get_or start i o
  left_more same i o above =
      ap (λ (l : List DequeOwner). get_or l i o) one.now ∙ get_or-set_other os d i one.new o (λ e. omega arith) ∙ same i o (omega arith)

-- two changes of each owner
pub each_twice : (one two both : DequeOwner → DequeOwner → Type 0) → ((a b c : DequeOwner) → one a b → two b c → both a c)
    → (os ps qs : List DequeOwner) → EachChanges one os ps → EachChanges two ps qs → EachChanges both os qs
each_twice one two both put os ps qs h k = record {
  lengths = k.lengths ∙ h.lengths;
  each = λ d o below. put _ _ _ (h.each d o below) (k.each d o (omega (arith, h.lengths)));
}

-- what holds of each owner before, and of each change, holds of each owner after
pub all_after : (change : DequeOwner → DequeOwner → Type 0) (P Q : DequeOwner → Type 0) → ((a b : DequeOwner) → change a b → P a → Q b)
    → (os ps : List DequeOwner) → EachChanges change os ps → All P os → All Q ps
all_after change P Q step os ps h all d o below = step _ _ (h.each d o (omega (arith, h.lengths))) (all d o (omega (arith, h.lengths)))

-- a sum over owners stays the same if no term changes
pub sum_kept : (f : DequeOwner → ℕ) (os ps : List DequeOwner) → length ps ≡ length os → ((d : ℕ) (o : DequeOwner) → d < length os → f (get_or os d o) ≡ f (get_or ps d o))
    → sum_by f os ≡ sum_by f ps
sum_kept f [] [] same each = refl
sum_kept f [] (p ∷ ps) same each = absurd (omega arith)
sum_kept f (o ∷ os) [] same each = absurd (omega arith)
sum_kept f (o ∷ os) (p ∷ ps) same each =
    let head : f o ≡ f p = each 0 o (omega arith) in
    let tail : sum_by f os ≡ sum_by f ps = sum_kept f os ps (omega arith) (λ d x below. each (suc d) x (omega arith)) in
    omega (arith, sum_by-cons f o os, sum_by-cons f p ps)

-- kept by two changes
pub keeps_twice : (a b c : DequeOwner) → Keeps a b → Keeps b c → Keeps a c
keeps_twice a b c h k = record {
  deque = k.deque ∙ h.deque;
  flavor = k.flavor ∙ h.flavor;
  put = k.put ∙ h.put;
}

-- no pass was taken in yet
pub got_none : (os : List DequeOwner) → EachChanges (GotParts 0) os os
got_none os = record {
  lengths = refl;
  each = λ d o below. record { keeps = record { deque = refl; flavor = refl; put = refl }; parts = omega arith };
}

-- one more pass was taken in
pub got_more : (k : ℕ) (a b c : DequeOwner) → GotParts k a b → GotParts 1 b c → GotParts (k + 1) a c
got_more k a b c h j = record {
  keeps = keeps_twice a b c h.keeps j.keeps;
  parts = let e = h.parts in let f = j.parts in omega arith;
}

-- no pass was cut off yet
pub lost_none : (os : List DequeOwner) → EachChanges (LostParts 0) os os
lost_none os = record {
  lengths = refl;
  each = λ d o below. record { keeps = record { deque = refl; flavor = refl; put = refl }; parts = omega arith; taken = refl };
}

-- the passes are of the same deques after the change
pub of_kept : (k : ℕ) (os os' : List DequeOwner) (ps : List Ticket) → EachChanges (GotParts k) os os' → AreOf os ps → AreOf os' ps
of_kept k os os' ps h are = record {
  lengths = are.lengths ∙ sym h.lengths;
  passes = λ d o p below. subst (λ x. IsPassOf x (get_or ps d p)) (sym (h.each d o (omega (arith, h.lengths))).keeps.deque) (are.passes d o p (omega (arith, h.lengths)));
  parts = are.parts;
}

-- the first element of a list that is not empty
pub some_of : {X : Type 0} (xs : List X) (d : ℕ) → d < length xs → X
some_of [] d below = absurd (omega (arith, below))
some_of (x ∷ xs) d below = x

-- one more pass of each deque was cut off
pub cut_more : (k : ℕ) (os ps qs : List DequeOwner) (passes : List Ticket) → EachChanges (LostParts k) os ps → AreCutOff ps qs passes → EachChanges (LostParts (k + 1)) os qs
cut_more k os ps qs passes h cut = record {
  lengths = cut.lengths ∙ h.lengths;
  each = λ d o below.
      let was = h.each d o below in
      let now = cut.each d o (some_of passes d (omega (arith, h.lengths, cut.count))) (omega (arith, h.lengths)) in
      record {
        keeps = keeps_twice _ _ _ was.keeps now.keeps;
        parts = (let e = was.parts in let f = now.parts in omega arith);
        taken = now.taken ∙ was.taken;
      };
}

-- the passes that were cut off are new
pub new_more : (k : ℕ) (os ps qs : List DequeOwner) (passes : List Ticket) → EachChanges (LostParts k) os ps → AreCutOff ps qs passes → AreNew os passes
new_more k os ps qs passes h cut = record {
  lengths = cut.count ∙ h.lengths;
  each = λ d o p below.
      let was = h.each d o below in
      let now = cut.each d o p (omega (arith, h.lengths)) in
      record {
        pass = subst (λ x. IsPassOf x (get_or passes d p)) was.keeps.deque now.pass;
        part = now.part;
        none = now.none;
        put = now.put ∙ was.keeps.put;
      };
}

-- if something is left after the first k elements, there are more than k
pub below_of_next : {X : Type 0} (xs : List X) (k : ℕ) (x : X) (rest : List X) → drop k xs ≡ x ∷ rest → k < length xs
below_of_next [] zero x rest e = absurd (cc)
below_of_next [] (suc k) x rest e = absurd (cc)
below_of_next (y ∷ ys) zero x rest e = omega arith
below_of_next (y ∷ ys) (suc k) x rest e = let h = below_of_next ys k x rest e in omega arith

-- one element more
pub take_next : {X : Type 0} (xs : List X) (k : ℕ) (d : X) → k < length xs → take k xs ++ get_or xs k d ∷ [] ≡ take (suc k) xs
take_next [] k d below = absurd (omega (arith, below))
take_next (x ∷ xs) zero d below = refl
take_next (x ∷ xs) (suc k) d below = ap (λ l. x ∷ l) (take_next xs k d (omega (arith, below)))

-- if nothing is left of a list of the same length, all elements are taken
pub take_all : {X Y : Type 0} (xs : List X) (ys : List Y) (k : ℕ) → length ys ≡ length xs → drop k xs ≡ [] → take k ys ≡ ys
take_all [] [] zero same none = refl
take_all [] [] (suc k) same none = refl
take_all [] (y ∷ ys) k same none = absurd (omega arith)
take_all (x ∷ xs) [] k same none = absurd (omega arith)
take_all (x ∷ xs) (y ∷ ys) zero same none = absurd (cc)
take_all (x ∷ xs) (y ∷ ys) (suc k) same none = ap (λ l. y ∷ l) (take_all xs ys k (omega arith) none)

-- a property of the first n pairs, and of one more
pub pairs_more : {H T : Type 0} (P : H → T → Type 0) (hs hs' : List H) (ts : List T) (h : H) (t : T) (n : ℕ) → length hs ≡ n → hs' ≡ hs ++ h ∷ []
    → ((s : T) → get_or ts n s ≡ t) → P h t → ((k : ℕ) (d : H) (s : T) → k < n → P (get_or hs k d) (get_or ts k s))
    → (k : ℕ) (d : H) (s : T) → k < suc n → P (get_or hs' k d) (get_or ts k s)
pairs_more P hs hs' ts h t n size is here this before k d s below = ⊎_elim
    (λ (last : k ≡ n).
    let a : get_or hs' k d ≡ h = ap (λ l. get_or l k d) is ∙ get_or_push hs h d k (size ∙ sym last) in
    let b : get_or ts k s ≡ t = ap (λ (i : ℕ). get_or ts i s) last ∙ here s in
    subst (λ x. P x (get_or ts k s)) (sym a) (subst (P h) (sym b) this))
    (λ (less : k < n).
    let a : get_or hs' k d ≡ get_or hs k d = ap (λ l. get_or l k d) is ∙ get_or_append_left hs (h ∷ []) d k (omega (arith, size, less)) in
    subst (λ x. P x (get_or ts k s)) (sym a) (before k d s less))
    (eq-or-lt_of_le (omega (arith, below)))

-- the first element, and then the others
pub split_first : {X : Type 0} (xs rest : List X) (x : X) → 0 < length xs → x ≡ get_or xs 0 x → rest ≡ remove xs 0 → xs ≡ x ∷ rest
split_first [] rest x some first others = absurd (omega (arith, some))
split_first (y ∷ ys) rest x some first others = ap (λ z. z ∷ ys) (sym first) ∙ ap (λ l. x ∷ l) (sym others)
