-- One block alone is freed: its queue is emptied, and all other queues bring what they own.
use Rattle.std.proofs.Common.{◌≡◌, ◌==◌, ℕ, suc, ◌<◌, Bool, true, false, List, [], ◌∷◌, length, refl, sym, ap, ◌∙◌, arith, ⊎_elim}
use Rattle.std.proofs.lemmas.Bool.{cases_Bool, cases_eq, eqb-true}
use Rattle.std.specs.Prelude.{if◌then◌else◌, ◌||◌}
use Rattle.program.specs.Lists.{is_among}
use Rattle.machine.specs.Answers.{left_in}
use Rattle.machine.specs.Blocks.{with_new_owner, in_queue_of}
use Rattle.machine.specs.Freeing.{freed_one}
use Rattle.machine.specs.Heaps.{QueuesBring, brings, occurs, one_if}
use Rattle.machine.specs.World.{Block, MessageHeld, block_at, change_each, is_queue}
use Rattle.machine.specs.declared.worlds.Owner.{Owner}
use Rattle.machine.specs.declared.worlds.Owner.TheVariants.{Process, Queue, Inside, Channel, Freed}
use Rattle.machine.proofs.ChangeLemmas.{changed_twice, eqb_apart, eqb_same, or_false}
use Rattle.machine.proofs.WayKept.{with_parts}
use Rattle.machine.proofs.HeapLemmas.{brought_by, eqb_swap, none_occurs, other_queue, queue_of_some, some_occurs}

-- ---- what the queue brought
changed_at : (f g : ℕ → Block → Block) (bs : List Block) → ((j : ℕ) → j < length bs → f j (block_at bs j) ≡ g j (block_at bs j))
    → change_each f bs ≡ change_each g bs
changed_at f g [] same = refl
changed_at f g (b ∷ bs) same =
    let one : f 0 b ≡ g 0 b = same 0 (omega arith) in
    let more : change_each (λ a. f (suc a)) bs ≡ change_each (λ a. g (suc a)) bs =
    changed_at (λ a. f (suc a)) (λ a. g (suc a)) bs (λ j short. same (suc j) (omega arith)) in
    cc

among_queue : (bs : List Block) (x j : ℕ) → QueuesBring bs → is_among (brings (block_at bs x).queue) j ≡ is_queue (block_at bs j).owner x
among_queue bs x j is = ⊎_elim
    (λ t. t ∙ sym (queue_of_some (is_queue (block_at bs j).owner x) (occurs (brings (block_at bs x).queue) j)
    (some_occurs (brings (block_at bs x).queue) j t) (is.brings_are x j)))
    (λ f. f ∙ sym (none_of (is_queue (block_at bs j).owner x) (sym (none_occurs (brings (block_at bs x).queue) j f) ∙ is.brings_are x j)))
    (cases_Bool (is_among (brings (block_at bs x).queue) j))
  where
    none_of : (t : Bool) → 0 ≡ one_if t → t ≡ false
    none_of true e = absurd (omega arith)
    none_of false e = refl

queue_one : (o : Owner) (x : ℕ) → is_queue o x ≡ in_queue_of o (λ j. j == x)
queue_one (Process n) x = refl
queue_one (Queue n) x = refl
queue_one (Inside n) x = refl
queue_one Channel x = refl
queue_one Freed x = refl

-- To free a block whose fields hold nothing: its queue is emptied, what that brought goes to the channel, and
-- nobody owns the block.
pub freed_is : (bs : List Block) (x : ℕ) → QueuesBring bs → (block_at bs x).fields ≡ []
    → change_each (with_new_owner Freed (x ∷ [])) (change_each (with_new_owner Channel (brings (block_at bs x).queue)) (change_each (left_in x []) bs))
    ≡ change_each (freed_one x) bs
freed_is bs x is empty =
    ap (change_each (with_new_owner Freed (x ∷ []))) (changed_twice (left_in x []) (with_new_owner Channel (brings (block_at bs x).queue)) bs)
    ∙ (changed_twice (λ j b. with_new_owner Channel (brings (block_at bs x).queue) j (left_in x [] j b)) (with_new_owner Freed (x ∷ [])) bs
    ∙ changed_at (λ j b. with_new_owner Freed (x ∷ []) j (with_new_owner Channel (brings (block_at bs x).queue) j (left_in x [] j b))) (freed_one x) bs
    (λ j short.
    ap (λ t. with_parts (block_at bs j) (if (x == j) || false then Freed else (if t then Channel else (block_at bs j).owner))
    (if j == x then [] else (block_at bs j).queue) (block_at bs j).fields)
    (among_queue bs x j is ∙ queue_one (block_at bs j).owner x)
    ∙ (ap (λ t. with_parts (block_at bs j)
    (if t then Freed else (if in_queue_of (block_at bs j).owner (λ i. i == x) then Channel else (block_at bs j).owner))
    (if j == x then [] else (block_at bs j).queue) (block_at bs j).fields) (or_false (x == j) ∙ eqb_swap x j)
    ∙ ap (λ fs. with_parts (block_at bs j)
    (if j == x then Freed else (if in_queue_of (block_at bs j).owner (λ i. i == x) then Channel else (block_at bs j).owner))
    (if j == x then [] else (block_at bs j).queue) fs) (fields j))))
  where
    fields : (j : ℕ) → (block_at bs j).fields ≡ (if j == x then [] else (block_at bs j).fields)
    fields j = ⊎_elim
        (λ e. ap (λ (n : ℕ). (block_at bs n).fields) e ∙ (empty ∙ sym (ap (λ (t : Bool). if t then [] else (block_at bs j).fields)
        (eqb_same j x e))))
        (λ n. sym (ap (λ (t : Bool). if t then [] else (block_at bs j).fields) (eqb_apart j x n))) (cases_eq j x)

-- ---- queues bring what they own
same_both : (t : Bool) (q : List MessageHeld) → (if t then q else q) ≡ q
same_both true q = refl
same_both false q = refl

freed_at : (here gone theirs : Bool) (a b j : ℕ) (q : List MessageHeld) (o : Owner) → (b == a) ≡ here → (gone ≡ true → is_queue o b ≡ false)
    → is_queue o a ≡ theirs → occurs (brings q) j ≡ one_if (is_queue o b)
    → occurs (brings (if here then [] else q)) j ≡ one_if (is_queue (if gone then Freed else (if theirs then Channel else o)) b)
freed_at true true theirs a b j q o e none queue is = refl
freed_at false true theirs a b j q o e none queue is = is ∙ ap one_if (none refl)
freed_at true false true a b j q o e none queue is = refl
freed_at false false true a b j q o e none queue is = is ∙ ap one_if (other_queue o a b queue e)
freed_at true false false a b j q o e none queue is =
    sym (ap (λ n. one_if (is_queue o n)) (eqb-true b a e) ∙ ap one_if queue)
freed_at false false false a b j q o e none queue is = is

-- if no queue owns the block, queues still bring what they own after it is freed
pub brought_freed : (bs : List Block) (x : ℕ) → x < length bs → ((c : ℕ) → is_queue (block_at bs x).owner c ≡ false) → QueuesBring bs
    → QueuesBring (change_each (freed_one x) bs)
brought_freed bs x short none is =
    brought_by (freed_one x) bs (λ j h. ap (λ t. if t then Freed else Channel) (eqb_apart j x (λ e. omega arith)))
    (λ b h. same_both (b == x) [])
    (λ b j. freed_at (b == x) (j == x) (in_queue_of (block_at bs j).owner (λ i. i == x)) x b j (block_at bs b).queue (block_at bs j).owner
    refl (λ t. ap (λ n. is_queue (block_at bs n).owner b) (eqb-true j x t) ∙ none b) (queue_one (block_at bs j).owner x) (is.brings_are b j))
