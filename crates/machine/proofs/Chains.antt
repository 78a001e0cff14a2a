-- The owners from a block upward are a chain, which is no longer than the list of blocks. So whatever is inside
-- a block, directly or not, goes with it.
use Rattle.std.proofs.Common.{◌≡◌, ◌==◌, ℕ, zero, suc, ◌+◌, ◌<◌, ◌≤◌, Bool, true, false, List, [], ◌∷◌, length, refl, sym, ap, ◌∙◌}
use Rattle.std.proofs.Common.{subst, arith, inl, inr, ⊎_elim}
use Rattle.std.proofs.lemmas.Bool.{cases_Bool, cases_eq, cases_lt, eqb-true}
use Rattle.std.specs.Prelude.{◌⊎◌, ◌||◌}
use Rattle.machine.specs.Blocks.{goes_with, in_block_of, lies_in}
use Rattle.machine.specs.Heaps.{AreAllInside, Rooted, below, occurs, one_if, top}
use Rattle.machine.specs.World.{Block, block_at, is_inside}
use Rattle.machine.specs.declared.worlds.Owner.{Owner}
use Rattle.machine.specs.declared.worlds.Owner.TheVariants.{Process, Queue, Inside, Channel, Freed}
use Rattle.machine.proofs.ChangeLemmas.{eqb_apart, eqb_same, true≢false}
use Rattle.machine.proofs.HeapLemmas.{past}

-- ---- numbers below a bound
-- the number of elements of a list that are less than n
abbrev below_in : List ℕ → ℕ → ℕ
below_in xs zero = 0
below_in xs (suc n) = occurs xs n + below_in xs n

below_none : (n : ℕ) → below_in [] n ≡ 0
below_none zero = refl
below_none (suc n) = let e = below_none n in omega arith

-- one more element adds its own share
below_more : (x : ℕ) (xs : List ℕ) (n : ℕ) → below_in (x ∷ xs) n ≡ below_in (x ∷ []) n + below_in xs n
below_more x xs zero = refl
below_more x xs (suc n) = let e = below_more x xs n in omega arith

below_past : (x n : ℕ) → n ≤ x → below_in (x ∷ []) n ≡ 0
below_past x zero le = refl
below_past x (suc n) le =
    let less : n ≤ x = omega arith in
    let e = below_past x n less in
    let z : one_if (x == n) ≡ 0 = ap one_if (eqb_apart x n (λ s. omega arith)) in
    omega arith

below_one : (x n : ℕ) → x < n → below_in (x ∷ []) n ≡ 1
below_one x zero lt = absurd (omega arith)
below_one x (suc n) lt = ⊎_elim
    (λ e.
    let z : one_if (x == n) ≡ 1 = ap one_if (eqb_same x n e) in
    let same : n ≤ x = omega arith in
    let p = below_past x n same in
    omega arith)
    (λ other.
    let less : x < n = omega arith in
    let e = below_one x n less in
    let z : one_if (x == n) ≡ 0 = ap one_if (eqb_apart x n other) in
    omega arith)
    (cases_eq x n)

-- all elements are less than n
abbrev AllBelow : List ℕ → ℕ → Type 0
AllBelow [] n = Unit {0}
AllBelow (x ∷ xs) n = (x < n) × AllBelow xs n

below_all : (xs : List ℕ) (n : ℕ) → AllBelow xs n → below_in xs n ≡ length xs
below_all [] n h = below_none n
below_all (x ∷ xs) n h = let e = below_more x xs n in let o = below_one x n h.0 in let k = below_all xs n h.1 in omega arith

below_few : (xs : List ℕ) (n : ℕ) → ((x : ℕ) → occurs xs x ≤ 1) → below_in xs n ≤ n
below_few xs zero h = omega arith
below_few xs (suc n) h = let e = below_few xs n h in let o = h n in omega arith

-- a list without duplicates whose elements are less than n has at most n elements
few_below : (xs : List ℕ) (n : ℕ) → AllBelow xs n → ((x : ℕ) → occurs xs x ≤ 1) → length xs ≤ n
few_below xs n within once = let e = below_all xs n within in let f = below_few xs n once in omega arith

-- ---- owners
pub inside_same : (o : Owner) (b c : ℕ) → o ≡ Inside b → o ≡ Inside c → b ≡ c
inside_same o b c e f = let g : Inside b ≡ Inside c = sym e ∙ f in cc

pub is_inside_same : (b : ℕ) → is_inside (Inside b) b ≡ true
is_inside_same b = eqb_same b b refl

-- an owner is a block or not
pub inside_or : (o : Owner) → ((b : ℕ) × (o ≡ Inside b)) ⊎ ((b : ℕ) → is_inside o b ≡ false)
inside_or (Process n) = inr (λ b. refl)
inside_or (Queue n) = inr (λ b. refl)
inside_or (Inside n) = inl (n, refl)
inside_or Channel = inr (λ b. refl)
inside_or Freed = inr (λ b. refl)

pub is_inside_is : (o : Owner) (b : ℕ) → is_inside o b ≡ true → o ≡ Inside b
is_inside_is (Process n) b e = absurd (cc)
is_inside_is (Queue n) b e = absurd (cc)
is_inside_is (Inside n) b e = ap Inside (eqb-true n b e)
is_inside_is Channel b e = absurd (cc)
is_inside_is Freed b e = absurd (cc)

-- ---- chains
module _ (bs : List Block) where
  -- the number of blocks around an address
  abbrev pub depth : (x : ℕ) → Rooted bs x → ℕ
  depth x (top a out) = 0
  depth x (below a b is r) = suc (depth b r)

  -- it does not depend on the proof
  pub depth_one : (x y : ℕ) → x ≡ y → (r : Rooted bs x) (s : Rooted bs y) → depth x r ≡ depth y s
  depth_one x y e (top a out) (top c out2) = refl
  depth_one x y e (top a out) (below c d is s) =
      let k : (block_at bs x).owner ≡ Inside d = ap (λ (n : ℕ). (block_at bs n).owner) e ∙ is in
      absurd (true≢false (ap (λ (o : Owner). is_inside o d) k ∙ is_inside_same d) (out d))
  depth_one x y e (below a b is r) (top c out) =
      let k : (block_at bs y).owner ≡ Inside b = ap (λ (n : ℕ). (block_at bs n).owner) (sym e) ∙ is in
      absurd (true≢false (ap (λ (o : Owner). is_inside o b) k ∙ is_inside_same b) (out b))
  depth_one x y e (below a b is r) (below c d is2 s) =
      let k : (block_at bs x).owner ≡ Inside d = ap (λ (n : ℕ). (block_at bs n).owner) e ∙ is2 in
      ap suc (depth_one b d (inside_same (block_at bs x).owner b d is k) r s)

  -- the addresses from this one upward that are inside a block
  abbrev chain : (x : ℕ) → Rooted bs x → List ℕ
  chain x (top a out) = []
  chain x (below a b is r) = x ∷ chain b r

  chain_long : (x : ℕ) (r : Rooted bs x) → length (chain x r) ≡ depth x r
  chain_long x (top a out) = refl
  chain_long x (below a b is r) = ap suc (chain_long b r)

  -- an address that is inside a block exists
  pub inside_there : (x b : ℕ) → (block_at bs x).owner ≡ Inside b → x < length bs
  inside_there x b is = ⊎_elim (λ e. e)
      (λ long. absurd (let k : Channel ≡ Inside b = sym (ap (λ (y : Block). y.owner) (past bs x long)) ∙ is in cc))
      (cases_lt x (length bs))

  chain_within : (x : ℕ) (r : Rooted bs x) → AllBelow (chain x r) (length bs)
  chain_within x (top a out) = tt
  chain_within x (below a b is r) = (inside_there x b is, chain_within b r)

  -- no address of a chain is deeper than the first one
  chain_depth : (x y : ℕ) (r : Rooted bs x) → 0 < occurs (chain x r) y → (s : Rooted bs y) → depth y s ≤ depth x r
  chain_depth x y (top a out) some s = absurd (omega arith)
  chain_depth x y (below a b is r) some s = ⊎_elim
      (λ e. let k = depth_one y x (sym (eqb-true x y e)) s (below x b is r) in omega arith)
      (λ e.
      let z : one_if (x == y) ≡ 0 = ap one_if e in
      let more : 0 < occurs (chain b r) y = omega arith in
      let k = chain_depth b y r more s in
      omega arith)
      (cases_Bool (x == y))

  -- so no address is in the chain twice
  chain_once : (x : ℕ) (r : Rooted bs x) (y : ℕ) → occurs (chain x r) y ≤ 1
  chain_once x (top a out) y = omega arith
  chain_once x (below a b is r) y = ⊎_elim
      (λ e. let z : one_if (x == y) ≡ 1 = ap one_if e in
      let k = not_again (eqb-true x y e) in omega arith)
      (λ e. let z : one_if (x == y) ≡ 0 = ap one_if e in let k = chain_once b r y in omega arith)
      (cases_Bool (x == y))
    where
      not_again : x ≡ y → occurs (chain b r) y ≡ 0
      not_again e = ⊎_elim (λ less. absurd (
          let d = depth_one y x (sym e) (subst (λ (n : ℕ). Rooted bs n) e (below x b is r)) (below x b is r) in
          let k = chain_depth b y r less (subst (λ (n : ℕ). Rooted bs n) e (below x b is r)) in
          omega arith)) (λ le. omega arith) (cases_lt 0 (occurs (chain b r) y))

  -- no address is deeper than the number of blocks
  pub depth_few : (x : ℕ) (r : Rooted bs x) → depth x r ≤ length bs
  depth_few x r = let k = few_below (chain x r) (length bs) (chain_within x r) (chain_once x r) in let e = chain_long x r in omega arith

  -- ---- what is inside a block, by its chain
  abbrev pub reaches : (a x : ℕ) → Rooted bs x → Bool
  reaches a x (top y out) = x == a
  reaches a x (below y b is r) = (x == a) || reaches a b r

  or_none : (b : Bool) → b || false ≡ b
  or_none true = refl
  or_none false = refl

  not_inside : (o : Owner) (P : ℕ → Bool) → ((b : ℕ) → is_inside o b ≡ false) → in_block_of o P ≡ false
  not_inside (Process n) P out = refl
  not_inside (Queue n) P out = refl
  not_inside (Inside n) P out = absurd (true≢false (is_inside_same n) (out n))
  not_inside Channel P out = refl
  not_inside Freed P out = refl

  pub lies_reaches : (a x most : ℕ) (r : Rooted bs x) → depth x r ≤ most → lies_in bs most a x ≡ reaches a x r
  lies_reaches a x zero (top y out) le = refl
  lies_reaches a x (suc most) (top y out) le =
      ap (λ (t : Bool). (x == a) || t) (not_inside (block_at bs x).owner (lies_in bs most a) out) ∙ or_none (x == a)
  lies_reaches a x zero (below y b is r) le = absurd (omega arith)
  lies_reaches a x (suc most) (below y b is r) le =
      let less : depth b r ≤ most = omega arith in
      ap (λ (o : Owner). (x == a) || in_block_of o (lies_in bs most a)) is
      ∙ ap (λ (t : Bool). (x == a) || t) (lies_reaches a b most r less)

  module _ (rooted : (x : ℕ) → Rooted bs x) where
    pub goes_reaches : (a x : ℕ) → goes_with bs a x ≡ reaches a x (rooted x)
    goes_reaches a x = lies_reaches a x (length bs) (rooted x) (depth_few x (rooted x))

    -- the block itself goes
    pub goes_self : (a : ℕ) → goes_with bs a a ≡ true
    goes_self a = goes_reaches a a ∙ by (rooted a)
      where
        by : (r : Rooted bs a) → reaches a a r ≡ true
        by (top y out) = eqb_same a a refl
        by (below y b is r) = ap (λ (t : Bool). t || reaches a b r) (eqb_same a a refl)

    -- what is directly inside a block that goes, goes too
    pub goes_down : (a x b : ℕ) → (block_at bs x).owner ≡ Inside b → goes_with bs a b ≡ true → goes_with bs a x ≡ true
    goes_down a x b is goes =
        let r = below x b is (rooted b) in
        let e = lies_reaches a x (length bs) r (depth_few x r) in
        e ∙ (ap (λ (t : Bool). (x == a) || t) (sym (goes_reaches a b) ∙ goes) ∙ by (x == a))
      where
        by : (t : Bool) → t || true ≡ true
        by true = refl
        by false = refl

    -- nothing else goes
    pub goes_up : (a x : ℕ) → goes_with bs a x ≡ true
        → (x ≡ a) ⊎ ((b : ℕ) × ((block_at bs x).owner ≡ Inside b) × (goes_with bs a b ≡ true))
    goes_up a x goes = by (rooted x) (sym (goes_reaches a x) ∙ goes)
      where
        by : (r : Rooted bs x) → reaches a x r ≡ true
            → (x ≡ a) ⊎ ((b : ℕ) × ((block_at bs x).owner ≡ Inside b) × (goes_with bs a b ≡ true))
        by (top y out) e = inl (eqb-true x a e)
        by (below y b is r) e = ⊎_elim (λ t. inl (eqb-true x a t))
            (λ f. inr (b, is, lies_reaches a b (length bs) r (depth_few b r) ∙ (sym (ap (λ (t : Bool). t || reaches a b r) f) ∙ e)))
            (cases_Bool (x == a))

    pub all_inside : (a : ℕ) → AreAllInside bs a (goes_with bs a)
    all_inside a = record { itself = goes_self a; down = goes_down a; up = goes_up a }

    -- of two sets that are all that is inside a block, each contains the other
    among : (a : ℕ) (these those : ℕ → Bool) → AreAllInside bs a these → AreAllInside bs a those → (y : ℕ) → Rooted bs y → these y ≡ true
        → those y ≡ true
    among a these those h k y (top c out) t = ⊎_elim (λ e. ap those e ∙ k.itself)
        (λ u. absurd (true≢false (ap (λ (o : Owner). is_inside o u.0) u.1 ∙ is_inside_same u.0) (out u.0))) (h.up y t)
    among a these those h k y (below c b is r) t = ⊎_elim (λ e. ap those e ∙ k.itself)
        (λ u. k.down y b is (among a these those h k b r
        (subst (λ (n : ℕ). these n ≡ true) (inside_same (block_at bs y).owner u.0 b u.1 is) u.2)))
        (h.up y t)

    -- `goes_with` is the only such set
    pub goes_alone : (a : ℕ) (these : ℕ → Bool) → AreAllInside bs a these → (x : ℕ) → these x ≡ goes_with bs a x
    goes_alone a these h x = ⊎_elim
        (λ t. t ∙ sym (among a these (goes_with bs a) h (all_inside a) x (rooted x) t))
        (λ f. f ∙ sym (⊎_elim (λ g. absurd (true≢false (among a (goes_with bs a) these (all_inside a) h x (rooted x) g) f)) (λ g. g)
        (cases_Bool (goes_with bs a x))))
        (cases_Bool (these x))
