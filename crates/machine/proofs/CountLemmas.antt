-- Counts of the blocks that processes have.
use Rattle.std.proofs.Common.{◌≡◌, ◌==◌, ℕ, zero, suc, ◌+◌, ◌-◌, ◌<◌, ◌≤◌, Bool, true, false, List, [], ◌∷◌, ◌++◌, length, refl, sym, ap, ◌∙◌, arith, ⊎_elim, set, map, take}
use Rattle.std.specs.Prelude.{get_or, ◌&&◌, not, ◌^◌, Vec}
use Rattle.std.proofs.lemmas.Bool.Decides.{eqb_tells}
use Rattle.std.proofs.lemmas.List.{append-nil, append_assoc, get_or-set_same, get_or-set_other}
use Rattle.machine.specs.Blocks.{owns_none}
use Rattle.machine.specs.Heaps.{IsCounted, brings, one_if, owned_by}
use Rattle.machine.specs.World.{Block, block_at, change_each, is_process}
use Rattle.machine.specs.BlockViews.{blocks_model, held_model}
use Rattle.machine.specs.declared.worlds.Block as made_block
use Rattle.machine.specs.declared.worlds.Held as made_held
use Rattle.machine.proofs.ChangeLemmas.{eqb_apart, seen_length}

-- a count that is not 0 is in the list
pub some_in : (xs : List ℕ) (q : ℕ) → 0 < get_or xs q 0 → q < length xs
some_in [] q some = absurd (omega arith)
some_in (x ∷ xs) zero some = omega arith
some_in (x ∷ xs) (suc q) some = let less : q < length xs = some_in xs q some in omega arith

-- one count is decremented
pub one_less : (xs : List ℕ) (q p : ℕ) → 0 < get_or xs q 0 → get_or (set xs q (get_or xs q 0 - 1)) p 0 + one_if (q == p) ≡ get_or xs p 0
one_less xs q p some =
    let short : q < length xs = some_in xs q some in
    ⊎_elim
    (λ h.
    let same : q ≡ p = h.1 in
    let one : one_if (q == p) ≡ 1 = ap one_if h.0 in
    let here : get_or (set xs q (get_or xs q 0 - 1)) p 0 ≡ get_or xs q 0 - 1 = ap (λ j. get_or (set xs q (get_or xs q 0 - 1)) j 0) (sym same) ∙ get_or-set_same xs q (get_or xs q 0 - 1) 0 short in
    let there : get_or xs q 0 ≡ get_or xs p 0 = ap (λ j. get_or xs j 0) same in
    omega arith)
    (λ h.
    let none : one_if (q == p) ≡ 0 = ap one_if h.0 in
    let there : get_or (set xs q (get_or xs q 0 - 1)) p 0 ≡ get_or xs p 0 = get_or-set_other xs q p (get_or xs q 0 - 1) 0 (λ e. h.1 (sym e)) in
    omega arith)
    (eqb_tells q p)

-- one count is incremented
pub one_more : (xs : List ℕ) (q p : ℕ) → q < length xs → get_or (set xs q (get_or xs q 0 + 1)) p 0 ≡ get_or xs p 0 + one_if (q == p)
one_more xs q p short =
    ⊎_elim
    (λ h.
    let same : q ≡ p = h.1 in
    let one : one_if (q == p) ≡ 1 = ap one_if h.0 in
    let here : get_or (set xs q (get_or xs q 0 + 1)) p 0 ≡ get_or xs q 0 + 1 = ap (λ j. get_or (set xs q (get_or xs q 0 + 1)) j 0) (sym same) ∙ get_or-set_same xs q (get_or xs q 0 + 1) 0 short in
    let there : get_or xs q 0 ≡ get_or xs p 0 = ap (λ j. get_or xs j 0) same in
    omega arith)
    (λ h.
    let none : one_if (q == p) ≡ 0 = ap one_if h.0 in
    let there : get_or (set xs q (get_or xs q 0 + 1)) p 0 ≡ get_or xs p 0 = get_or-set_other xs q p (get_or xs q 0 + 1) 0 (λ e. h.1 (sym e)) in
    omega arith)
    (eqb_tells q p)

pub one_or_none : (b : Bool) → one_if b ≤ 1
one_or_none true = omega arith
one_or_none false = omega arith

-- no process owns more blocks than exist
pub owned_most : (bs : List Block) (q : ℕ) → owned_by bs q ≤ length bs
owned_most [] q = omega arith
owned_most (b ∷ bs) q =
    let one : one_if (is_process b.owner q) ≤ 1 = one_or_none (is_process b.owner q) in
    let more : owned_by bs q ≤ length bs = owned_most bs q in
    omega arith

-- a process that owns a block has a count of at least 1
pub owned_some : (bs : List Block) (a q : ℕ) → is_process (block_at bs a).owner q ≡ true → 0 < owned_by bs q
owned_some [] a q own = absurd (cc)
owned_some (b ∷ bs) zero q own = let one : one_if (is_process b.owner q) ≡ 1 = ap one_if own in omega arith
owned_some (b ∷ bs) (suc a) q own = let more : 0 < owned_by bs q = owned_some bs a q own in omega arith

-- a block is overwritten
pub owned_set : (bs : List Block) (a q : ℕ) (b : Block) → a < length bs
    → owned_by (set bs a b) q + one_if (is_process (block_at bs a).owner q) ≡ owned_by bs q + one_if (is_process b.owner q)
owned_set [] a q b short = absurd (omega arith)
owned_set (x ∷ bs) zero q b short = omega arith
owned_set (x ∷ bs) (suc a) q b short =
    let less : a < length bs = omega arith in
    let more : owned_by (set bs a b) q + one_if (is_process (block_at bs a).owner q) ≡ owned_by bs q + one_if (is_process b.owner q) = owned_set bs a q b less in
    omega arith

-- a block is appended
pub owned_added : (bs : List Block) (b : Block) (q : ℕ) → owned_by (bs ++ b ∷ []) q ≡ owned_by bs q + one_if (is_process b.owner q)
owned_added [] b q = omega arith
owned_added (x ∷ bs) b q = let more : owned_by (bs ++ b ∷ []) q ≡ owned_by bs q + one_if (is_process b.owner q) = owned_added bs b q in omega arith

-- a change that leaves owners as they are
pub owned_kept : (f : ℕ → Block → Block) (bs : List Block) (q : ℕ) → ((j : ℕ) (b : Block) → (f j b).owner ≡ b.owner) → owned_by (change_each f bs) q ≡ owned_by bs q
owned_kept f [] q kept = refl
owned_kept f (b ∷ bs) q kept =
    let one : one_if (is_process (f 0 b).owner q) ≡ one_if (is_process b.owner q) = ap (λ o. one_if (is_process o q)) (kept 0 b) in
    let more : owned_by (change_each (λ a. f (suc a)) bs) q ≡ owned_by bs q = owned_kept (λ a. f (suc a)) bs q (λ j. kept (suc j)) in
    omega arith

pub none_owned : (bs : List Block) (q : ℕ) → (owned_by bs q == 0) ≡ owns_none bs q
none_owned [] q = refl
none_owned (b ∷ bs) q = none_with (is_process b.owner q) (owned_by bs q) (owns_none bs q) (none_owned bs q)
  where
    none_with : (own : Bool) (n : ℕ) (rest : Bool) → (n == 0) ≡ rest → (one_if own + n == 0) ≡ (not own && rest)
    none_with true n rest is = eqb_apart (1 + n) 0 (λ e. absurd (let none : 1 + n ≡ 0 = e in omega arith))
    none_with false n rest is = let e : 0 + n ≡ n = omega arith in ap (λ k. k == 0) e ∙ is

-- ---- counts
pub counted_kept : (f : ℕ → Block → Block) (bs : List Block) (counts : List ℕ) → ((j : ℕ) (b : Block) → (f j b).owner ≡ b.owner) → IsCounted bs counts → IsCounted (change_each f bs) counts
counted_kept f bs counts kept is = record { counts_are = λ q. is.counts_are q ∙ sym (owned_kept f bs q kept) }

-- a block changes its owner
pub counted_moved : (bs : List Block) (olds mids news : List ℕ) (a : ℕ) (b : Block) → a < length bs → IsCounted bs olds
    → ((q : ℕ) → get_or mids q 0 + one_if (is_process (block_at bs a).owner q) ≡ get_or olds q 0)
    → ((q : ℕ) → get_or news q 0 ≡ get_or mids q 0 + one_if (is_process b.owner q))
    → IsCounted (set bs a b) news
counted_moved bs olds mids news a b short is less more = record {
  counts_are = λ q.
      let before : get_or olds q 0 ≡ owned_by bs q = is.counts_are q in
      let moved : owned_by (set bs a b) q + one_if (is_process (block_at bs a).owner q) ≡ owned_by bs q + one_if (is_process b.owner q) = owned_set bs a q b short in
      let fewer : get_or mids q 0 + one_if (is_process (block_at bs a).owner q) ≡ get_or olds q 0 = less q in
      let many : get_or news q 0 ≡ get_or mids q 0 + one_if (is_process b.owner q) = more q in
      omega arith;
}

pub counted_added : (bs : List Block) (olds news : List ℕ) (b : Block) → IsCounted bs olds → ((q : ℕ) → get_or news q 0 ≡ get_or olds q 0 + one_if (is_process b.owner q)) → IsCounted (bs ++ b ∷ []) news
counted_added bs olds news b is more = record { counts_are = λ q. more q ∙ (ap (λ n. n + one_if (is_process b.owner q)) (is.counts_are q) ∙ sym (owned_added bs b q)) }

-- a process that owns a block has a positive count
pub some_counted : (bs : List Block) (counts : List ℕ) (a q : ℕ) → IsCounted bs counts → is_process (block_at bs a).owner q ≡ true → 0 < get_or counts q 0
some_counted bs counts a q is own =
    let some : 0 < owned_by bs q = owned_some bs a q own in
    let same : get_or counts q 0 ≡ owned_by bs q = is.counts_are q in
    omega arith

pub listed_own : (bs : List Block) (counts : List ℕ) (a q : ℕ) → IsCounted bs counts → is_process (block_at bs a).owner q ≡ true → q < length counts
listed_own bs counts a q is own = some_in counts q (some_counted bs counts a q is own)

-- a count of 0 is appended
pub counted_listed : (bs : List Block) (counts : List ℕ) → IsCounted bs counts → IsCounted bs (counts ++ 0 ∷ [])
counted_listed bs counts is = record { counts_are = λ q. with_zero counts q ∙ is.counts_are q }
  where
    with_zero : (xs : List ℕ) (q : ℕ) → get_or (xs ++ 0 ∷ []) q 0 ≡ get_or xs q 0
    with_zero [] zero = refl
    with_zero [] (suc q) = refl
    with_zero (x ∷ xs) zero = refl
    with_zero (x ∷ xs) (suc q) = with_zero xs q

-- the blocks that were changed so far, with the counts
pub record Handed (f : ℕ → Block → Block) (old now : List made_block.Block) (olds counts : List ℕ) : Type 0 where
  pub seen : blocks_model now ≡ change_each f (blocks_model old)
  pub counted : IsCounted (blocks_model now) counts
  pub listed : length counts ≡ length olds

-- the addresses that the messages so far bring, and those of the next one
pub brings_more : (queue : List made_held.Held) (i : ℕ) (d : made_held.Held) → i < length queue
    → brings (map held_model (take (i + 1) queue)) ≡ brings (map held_model (take i queue)) ++ (get_or queue i d).payload.items
brings_more [] i d short = absurd (omega arith)
brings_more (h ∷ queue) zero d short = append-nil h.payload.items
brings_more (h ∷ queue) (suc i) d short =
    let less : i < length queue = omega arith in
    let e : suc i + 1 ≡ suc (i + 1) = omega arith in
    ap (λ k. brings (map held_model (take k (h ∷ queue)))) e
    ∙ (ap (λ l. h.payload.items ++ l) (brings_more queue i d less) ∙ sym (append_assoc h.payload.items (brings (map held_model (take i queue))) (get_or queue i d).payload.items))

-- a count is at most the number of blocks
pub counted_most : (blocks : List made_block.Block) (counts : List ℕ) → IsCounted (blocks_model blocks) counts → (q : ℕ) → get_or counts q 0 ≤ length blocks
counted_most blocks counts is q =
    let counted : get_or counts q 0 ≡ owned_by (blocks_model blocks) q = is.counts_are q in
    let most : owned_by (blocks_model blocks) q ≤ length (blocks_model blocks) = owned_most (blocks_model blocks) q in
    let long : length (blocks_model blocks) ≡ length blocks = seen_length blocks in
    omega arith

-- a count can be incremented without overflow
pub room_for : {Z : Type 0} (blocks : Vec made_block.Block Z) (counts : List ℕ) → IsCounted (blocks_model blocks.items) counts → (q : ℕ) → get_or counts q 0 < 2 ^ 63
room_for blocks counts is q =
    let most : get_or counts q 0 ≤ length blocks.items = counted_most blocks.items counts is q in
    let all : blocks.len ≡ length blocks.items = blocks.ok.0 in
    let fits : blocks.len ≤ blocks.cap = blocks.ok.1 in
    let small : blocks.cap < 2 ^ 63 = blocks.small in
    omega arith
