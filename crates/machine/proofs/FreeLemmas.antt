-- A block is freed with all that is inside it, one step at a time.
use Rattle.std.proofs.Common.{◌≡◌, ◌≢◌, ◌==◌, ℕ, zero, suc, ◌+◌, ◌<◌, Bool, not, List, [], ◌∷◌, ◌++◌, Option, Some, None, length}
use Rattle.std.proofs.Common.{refl, sym, ap, ◌∙◌, subst, arith, false, true, inl, inr}
use Rattle.std.specs.Prelude.{if◌then◌else◌}
use Rattle.machine.specs.Blocks.{freed_block, goes_with}
use Rattle.machine.specs.Freeing.{IsStep, fields_left, freed_one}
use Rattle.machine.specs.Heaps.{QueuesBring, FieldsHold, of_process, one_if}
use Rattle.machine.specs.World.{Block, block_at, change_each, is_freed_at, is_freed}
use Rattle.machine.specs.declared.worlds.Owner.TheVariants.{Freed}
use Rattle.machine.proofs.ChangeLemmas.{eqb_apart, eqb_same}
use Rattle.machine.proofs.FreedQueues.{brought_freed}
use Rattle.machine.proofs.WayKept.{Frees, begins, with_parts, x_lives, x_no_queue, x_there}
use Rattle.machine.proofs.WayDown.{goes_down_into}
use Rattle.machine.proofs.WayUp.{goes_up_to, is_done}
use Rattle.machine.proofs.HeapLemmas.{brought_kept}
use Rattle.machine.proofs.Holding.{unqueued, unqueued_same}

-- ---- how much is left
abbrev weight : Block → ℕ
weight b = length b.fields + one_if (not (is_freed b.owner))

-- the number of addresses in fields, plus the number of blocks that are not freed
abbrev size : List Block → ℕ
size [] = 0
size (b ∷ bs) = weight b + size bs

size_same : (f : ℕ → Block → Block) (bs : List Block) → ((j : ℕ) (b : Block) → weight (f j b) ≡ weight b) → size (change_each f bs) ≡ size bs
size_same f [] same = refl
size_same f (b ∷ bs) same =
    let one = same 0 b in
    let more = size_same (λ a. f (suc a)) bs (λ j c. same (suc j) c) in
    omega arith

size_less : (f : ℕ → Block → Block) (bs : List Block) (x : ℕ) → x < length bs → ((j : ℕ) (b : Block) → j ≢ x → weight (f j b) ≡ weight b)
    → weight (f x (block_at bs x)) + 1 ≡ weight (block_at bs x) → size (change_each f bs) + 1 ≡ size bs
size_less f [] x short same less = absurd (omega arith)
size_less f (b ∷ bs) zero short same less =
    let more = size_same (λ a. f (suc a)) bs (λ j c. same (suc j) c (λ e. omega arith)) in
    omega arith
size_less f (b ∷ bs) (suc x) short same less =
    let one = same 0 b (λ e. omega arith) in
    let shorter : x < length bs = omega arith in
    let more = size_less (λ a. f (suc a)) bs x shorter (λ j c n. same (suc j) c (λ e. n (omega arith))) less in
    omega arith

last_long : (xs : List ℕ) (y : ℕ) → length (xs ++ y ∷ []) ≡ length xs + 1
last_long [] y = refl
last_long (x ∷ xs) y = let e = last_long xs y in omega arith

size_popped : (bs : List Block) (x inner : ℕ) (rest : List ℕ) → x < length bs → (block_at bs x).fields ≡ rest ++ inner ∷ []
    → size (change_each (fields_left x rest) bs) + 1 ≡ size bs
size_popped bs x inner rest short fields = size_less (fields_left x rest) bs x short
    (λ j b n. ap (λ (t : Bool). length (if t then rest else b.fields) + one_if (not (is_freed b.owner))) (eqb_apart j x n))
    (let e : length (if x == x then rest else (block_at bs x).fields) ≡ length rest =
    ap (λ (t : Bool). length (if t then rest else (block_at bs x).fields)) (eqb_same x x refl) in
    let k : length (block_at bs x).fields ≡ length rest + 1 = ap length fields ∙ last_long rest inner in
    omega arith)

size_freed : (bs : List Block) (x : ℕ) → x < length bs → (block_at bs x).fields ≡ [] → is_freed_at bs x ≡ false
    → size (change_each (freed_one x) bs) + 1 ≡ size bs
size_freed bs x short empty lives = size_less (freed_one x) bs x short
    (λ j b n. ap (λ (t : Bool). length (if t then [] else b.fields)
    + one_if (not (is_freed (if t then Freed else unqueued (λ i. i == x) b.owner)))) (eqb_apart j x n)
    ∙ ap (λ (t : Bool). length b.fields + one_if (not t)) (unqueued_same is_freed (λ i. i == x) b.owner (λ q. refl)))
    (let e : weight (freed_one x x (block_at bs x)) ≡ 0 =
    ap (λ (t : Bool). length (if t then [] else (block_at bs x).fields)
    + one_if (not (is_freed (if t then Freed else unqueued (λ i. i == x) (block_at bs x).owner)))) (eqb_same x x refl) in
    let k : length (block_at bs x).fields ≡ 0 = ap length empty in
    let l : one_if (not (is_freed (block_at bs x).owner)) ≡ 1 = ap (λ (t : Bool). one_if (not t)) lives in
    omega arith)

-- ---- the path
-- what is true when the path has ended, or while it goes on
abbrev pub IsOnWay : List Block → ℕ → List Block → Option ℕ → Type 0
IsOnWay old a now None = (now ≡ change_each (freed_block (goes_with old a)) old) × QueuesBring now
IsOnWay old a now (Some x) = Frees old a now x × QueuesBring now

abbrev pub left_over : List Block → Option ℕ → ℕ
left_over now None = size now
left_over now (Some x) = size now + 1

pub way_begins : (bs : List Block) (a : ℕ) → FieldsHold bs → QueuesBring bs → of_process (block_at bs a).owner ≡ true → IsOnWay bs a bs (Some a)
way_begins bs a h is own = (begins bs a h own, is)

pub way_there : (old : List Block) (a : ℕ) (now : List Block) (x : ℕ) → IsOnWay old a now (Some x) → x < length now
way_there old a now x h = x_there old a now x h.0

-- after a step the path goes on or has ended
pub way_on : (old : List Block) (a : ℕ) (now new : List Block) (x : ℕ) (r : Option ℕ) → IsOnWay old a now (Some x) → IsStep now new x r
    → IsOnWay old a new r
way_on old a now new x None h s = (
  s.0.blocks ∙ (is_done old a now x h.0 s.0.empty s.1).1,
  subst QueuesBring (sym s.0.blocks) (brought_freed now x (x_there old a now x h.0) (x_no_queue old a now x h.0) h.1),
)
way_on old a now new x (Some y) h (inl s) =
    subst (λ (bs : List Block). Frees old a bs y × QueuesBring bs) (sym s.blocks) (
      goes_down_into old a now x h.0 s.rest y s.fields,
      brought_kept (fields_left x s.rest) now (λ j b. refl) (λ j b. refl) h.1,
    )
way_on old a now new x (Some y) h (inr s) =
    subst (λ (bs : List Block). Frees old a bs y × QueuesBring bs) (sym s.0.blocks) (
      goes_up_to old a now x h.0 s.0.empty y s.1,
      brought_freed now x (x_there old a now x h.0) (x_no_queue old a now x h.0) h.1,
    )

-- each step leaves less to do
pub way_less : (old : List Block) (a : ℕ) (now new : List Block) (x : ℕ) (r : Option ℕ) → IsOnWay old a now (Some x) → IsStep now new x r
    → left_over new r < left_over now (Some x)
way_less old a now new x None h s =
    let e = size_freed now x (x_there old a now x h.0) s.0.empty (x_lives old a now x h.0) in
    let k : size new ≡ size (change_each (freed_one x) now) = ap size s.0.blocks in
    omega arith
way_less old a now new x (Some y) h (inl s) =
    let e = size_popped now x y s.rest (x_there old a now x h.0) s.fields in
    let k : size new ≡ size (change_each (fields_left x s.rest) now) = ap size s.blocks in
    omega arith
way_less old a now new x (Some y) h (inr s) =
    let e = size_freed now x (x_there old a now x h.0) s.0.empty (x_lives old a now x h.0) in
    let k : size new ≡ size (change_each (freed_one x) now) = ap size s.0.blocks in
    omega arith

-- ---- a block with fewer fields
pub left_other : (x : ℕ) (rest : List ℕ) (j : ℕ) (b : Block) → j ≢ x → fields_left x rest j b ≡ b
left_other x rest j b apart = ap (λ (t : Bool). with_parts b b.owner b.queue (if t then rest else b.fields)) (eqb_apart j x apart)

pub left_here : (x : ℕ) (rest : List ℕ) (b : Block) → fields_left x rest x b ≡ with_parts b b.owner b.queue rest
left_here x rest b = ap (λ (t : Bool). with_parts b b.owner b.queue (if t then rest else b.fields)) (eqb_same x x refl)
