-- A block is freed with all that is inside it, without allocating: what each step of the path preserves.
use Rattle.std.proofs.Common.{◌≡◌, ◌==◌, ℕ, zero, suc, ◌+◌, ◌<◌, ◌≤◌, Bool, true, false, List, [], length, refl, sym, ap}
use Rattle.std.proofs.Common.{◌∙◌, arith, ⊎_elim}
use Rattle.std.proofs.lemmas.Bool.{cases_Bool, eqb-true}
use Rattle.std.specs.Prelude.{◌||◌, ◌&&◌, if◌then◌else◌}
use Rattle.machine.specs.Blocks.{freed_block, goes_with, in_block_of, in_queue_of, lies_in}
use Rattle.machine.specs.Heaps.{FieldsHold, Rooted, below, occurs, of_process, one_if, top}
use Rattle.machine.specs.World.{Block, MessageHeld, block_at, change_each, is_freed_at, is_freed, is_inside, is_queue}
use Rattle.machine.specs.declared.worlds.Owner.{Owner}
use Rattle.machine.specs.declared.worlds.Owner.TheVariants.{Process, Queue, Inside, Channel, Freed}
use Rattle.machine.proofs.ChangeLemmas.{eqb_apart, true≢false}
use Rattle.machine.proofs.Chains.{depth, depth_few, depth_one, goes_reaches, goes_self, goes_up, inside_there, lies_reaches, reaches}
use Rattle.machine.proofs.HeapLemmas.{no_queue, own_there}
use Rattle.machine.proofs.Holding.{not_freed, not_inside}

-- ---- chains, one step at a time
module _ (bs : List Block) (rooted : (x : ℕ) → Rooted bs x) where
  pub goes_step : (c x b : ℕ) → (block_at bs x).owner ≡ Inside b → goes_with bs c x ≡ (x == c) || goes_with bs c b
  goes_step c x b is =
      let r = below x b is (rooted b) in
      lies_reaches bs c x (length bs) r (depth_few bs x r) ∙ ap (λ (t : Bool). (x == c) || t) (sym (goes_reaches bs rooted c b))

  pub goes_top : (c x : ℕ) → ((b : ℕ) → is_inside (block_at bs x).owner b ≡ false) → goes_with bs c x ≡ (x == c)
  goes_top c x out = lies_reaches bs c x (length bs) (top x out) (omega arith)

  -- an address that a chain reaches is no deeper than its start
  reaches_depth : (c x : ℕ) (r : Rooted bs x) (s : Rooted bs c) → reaches bs c x r ≡ true → depth bs c s ≤ depth bs x r
  reaches_depth c x (top y out) s e = let k = depth_one bs c x (sym (eqb-true x c e)) s (top x out) in omega arith
  reaches_depth c x (below y b is r) s e = ⊎_elim
      (λ t. let k = depth_one bs c x (sym (eqb-true x c t)) s (below x b is r) in omega arith)
      (λ f. let k = reaches_depth c b r s (sym (ap (λ (t : Bool). t || reaches bs c b r) f) ∙ e) in omega arith)
      (cases_Bool (x == c))

  -- nothing is inside what is directly inside it
  pub no_ring : (j x : ℕ) → (block_at bs j).owner ≡ Inside x → goes_with bs j x ≡ true → ⊥
  no_ring j x is goes =
      let s = below j x is (rooted x) in
      let k = reaches_depth j x (rooted x) s (sym (goes_reaches bs rooted j x) ∙ goes) in
      absurd (omega arith)

-- what is inside which block depends on owners alone
pub lies_same : (bs bs' : List Block) → ((j : ℕ) → (block_at bs' j).owner ≡ (block_at bs j).owner) → (n c j : ℕ)
    → lies_in bs' n c j ≡ lies_in bs n c j
lies_same bs bs' same zero c j = refl
lies_same bs bs' same (suc n) c j =
    ap (λ (o : Owner). (j == c) || in_block_of o (lies_in bs' n c)) (same j)
    ∙ by (block_at bs j).owner (λ q. lies_same bs bs' same n c q)
  where
    by : (o : Owner) → ((q : ℕ) → lies_in bs' n c q ≡ lies_in bs n c q)
        → (j == c) || in_block_of o (lies_in bs' n c) ≡ (j == c) || in_block_of o (lies_in bs n c)
    by (Process q) k = refl
    by (Queue q) k = refl
    by (Inside q) k = ap (λ (t : Bool). (j == c) || t) (k q)
    by Channel k = refl
    by Freed k = refl

-- ---- how a block changes
abbrev pub with_parts : Block → Owner → List MessageHeld → List ℕ → Block
with_parts b owner queue fields =
    record { ty = b.ty; owner = owner; peer = b.peer; state = b.state; queue = queue; fields = fields }

-- a block that goes or remains
abbrev pub freed_as : (goes : ℕ → Bool) → Bool → Block → Block
freed_as goes t b = with_parts b (if t then Freed else (if in_queue_of b.owner goes then Channel else b.owner)) (if t then [] else b.queue)
    (if t then [] else b.fields)

-- ---- what is preserved
-- The blocks were bs0, and are bs when the path is at x, which is inside a. The fields of each block hold all that is
-- inside it, except for the block through which the path came down. Freeing all that is inside a now has the same
-- result as freeing it in bs0.
pub record Frees (bs0 : List Block) (a : ℕ) (bs : List Block) (x : ℕ) : Type 0 where
  pub goes : goes_with bs a x ≡ true
  pub owned : of_process (block_at bs a).owner ≡ true
  pub holds : (b j : ℕ) → occurs (block_at bs b).fields j + one_if (is_inside (block_at bs j).owner b && goes_with bs j x)
      ≡ one_if (is_inside (block_at bs j).owner b)
  pub rooted : (j : ℕ) → Rooted bs j
  pub ends : change_each (freed_block (goes_with bs a)) bs ≡ change_each (freed_block (goes_with bs0 a)) bs0

pub and_false : (s t : Bool) → (s ≡ true → t ≡ false) → s && t ≡ false
and_false true t h = h refl
and_false false t h = refl

-- this holds at the beginning
pub begins : (bs : List Block) (a : ℕ) → FieldsHold bs → of_process (block_at bs a).owner ≡ true → Frees bs a bs a
begins bs a h own = record {
  goes = goes_self bs h.rooted a;
  owned = own;
  holds = λ b j.
      let none : is_inside (block_at bs j).owner b && goes_with bs j a ≡ false =
      and_false (is_inside (block_at bs j).owner b) (goes_with bs j a) (λ inside. apart j b inside) in
      let z : one_if (is_inside (block_at bs j).owner b && goes_with bs j a) ≡ 0 = ap one_if none in
      let e = h.holds_are b j in
      omega arith;
  rooted = h.rooted;
  ends = refl;
}
  where
    apart : (j b : ℕ) → is_inside (block_at bs j).owner b ≡ true → goes_with bs j a ≡ false
    apart j b inside = goes_top bs h.rooted j a (λ c. not_inside (block_at bs a).owner c own)
        ∙ eqb_apart a j (λ e. true≢false inside (ap (λ (n : ℕ). is_inside (block_at bs n).owner b) (sym e)
        ∙ not_inside (block_at bs a).owner b own))

-- the block at which the path is
module _ (bs0 : List Block) (a : ℕ) (bs : List Block) (x : ℕ) (h : Frees bs0 a bs x) where
  pub x_there : x < length bs
  x_there = ⊎_elim (λ e. let k = own_there bs a h.owned in omega arith) (λ k. inside_there bs x k.0 k.1) (goes_up bs h.rooted a x h.goes)

  pub x_lives : is_freed_at bs x ≡ false
  x_lives = ⊎_elim (λ e. ap (λ (n : ℕ). is_freed_at bs n) e ∙ not_freed (block_at bs a).owner h.owned) (λ k. ap is_freed k.1)
      (goes_up bs h.rooted a x h.goes)

  pub x_no_queue : (c : ℕ) → is_queue (block_at bs x).owner c ≡ false
  x_no_queue c = ⊎_elim
      (λ e. ap (λ (n : ℕ). is_queue (block_at bs n).owner c) e ∙ no_queue (block_at bs a).owner c h.owned)
      (λ k. ap (λ (o : Owner). is_queue o c) k.1) (goes_up bs h.rooted a x h.goes)
