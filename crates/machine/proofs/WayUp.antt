-- A block whose fields hold nothing is freed, and the path goes up to the block that it was inside, or ends.
use Rattle.std.proofs.Common.{◌≡◌, ◌≢◌, ◌==◌, ℕ, zero, suc, ◌+◌, Bool, true, false, List, [], length, refl, sym, ap}
use Rattle.std.proofs.Common.{◌∙◌, subst, arith, ⊎_elim}
use Rattle.std.proofs.lemmas.Bool.{cases_Bool, cases_eq}
use Rattle.std.specs.Prelude.{◌||◌, ◌&&◌, if◌then◌else◌}
use Rattle.machine.specs.Blocks.{freed_block, goes_with, in_block_of, in_queue_of, lies_in}
use Rattle.machine.specs.Freeing.{freed_one}
use Rattle.machine.specs.Heaps.{Rooted, below, occurs, of_process, one_if, top}
use Rattle.machine.specs.World.{Block, block_at, change_each, is_inside, no_block}
use Rattle.machine.specs.declared.worlds.Owner.{Owner}
use Rattle.machine.specs.declared.worlds.Owner.TheVariants.{Process, Queue, Inside, Channel, Freed}
use Rattle.machine.proofs.ChangeLemmas.{changed_length, changed_same, changed_twice, eqb_apart, eqb_same, true≢false}
use Rattle.machine.proofs.Chains.{goes_self, goes_up, inside_same, is_inside_is, is_inside_same}
use Rattle.machine.proofs.WayKept.{Frees, freed_as, goes_step, goes_top, no_ring, with_parts, x_there}
use Rattle.machine.proofs.HeapLemmas.{changed_all, queue_of_some}
use Rattle.machine.proofs.Holding.{not_inside, rooted_less, unqueued, unqueued_same}

module _ (bs0 : List Block) (a : ℕ) (bs : List Block) (x : ℕ) (h : Frees bs0 a bs x) (empty : (block_at bs x).fields ≡ []) where
  abbrev without : List Block
  without = change_each (freed_one x) bs

  without_at : (j : ℕ) → block_at without j ≡ freed_one x j (block_at bs j)
  without_at j = changed_all (freed_one x) bs j (λ past.
      ap (λ (t : Bool). record {
        ty = no_block.ty;
        owner = if t then Freed else Channel;
        peer = 0;
        state = 0;
        queue = if t then [] else [];
        fields = if t then [] else [];
      }) (eqb_apart j x (λ e. let k = x_there bs0 a bs x h in omega arith)))

  without_long : length without ≡ length bs
  without_long = changed_length (freed_one x) bs

  -- nothing is inside x any more
  none_in : (j : ℕ) → is_inside (block_at bs j).owner x ≡ false
  none_in j = ⊎_elim
      (λ t.
      let k = h.holds x j in
      let f : occurs (block_at bs x).fields j ≡ 0 = ap (λ (xs : List ℕ). occurs xs j) empty in
      let z : one_if (is_inside (block_at bs j).owner x) ≡ 1 = ap one_if t in
      let p : one_if (is_inside (block_at bs j).owner x && goes_with bs j x) ≡ one_if (goes_with bs j x) =
      ap (λ (s : Bool). one_if (s && goes_with bs j x)) t in
      absurd (no_ring bs h.rooted j x (is_inside_is (block_at bs j).owner x t) (queue_of_some (goes_with bs j x) _ (omega arith) refl)))
      (λ f. f) (cases_Bool (is_inside (block_at bs j).owner x))

  owner_x : (j : ℕ) → j ≡ x → (block_at without j).owner ≡ Freed
  owner_x j e = ap (λ (b : Block). b.owner) (without_at j)
      ∙ ap (λ (t : Bool). if t then Freed else unqueued (λ i. i == x) (block_at bs j).owner) (eqb_same j x e)

  owner_others : (j : ℕ) → j ≢ x → (block_at without j).owner ≡ unqueued (λ i. i == x) (block_at bs j).owner
  owner_others j n = ap (λ (b : Block). b.owner) (without_at j)
      ∙ ap (λ (t : Bool). if t then Freed else unqueued (λ i. i == x) (block_at bs j).owner) (eqb_apart j x n)

  inside_others : (j b : ℕ) → j ≢ x → is_inside (block_at without j).owner b ≡ is_inside (block_at bs j).owner b
  inside_others j b n = ap (λ (o : Owner). is_inside o b) (owner_others j n)
      ∙ unqueued_same (λ (o : Owner). is_inside o b) (λ i. i == x) (block_at bs j).owner (λ q. refl)

  -- whatever is not x is inside the same blocks as before
  lies_others : (n c j : ℕ) → j ≢ x → lies_in without n c j ≡ lies_in bs n c j
  lies_others zero c j other = refl
  lies_others (suc n) c j other =
      ap (λ (o : Owner). (j == c) || in_block_of o (lies_in without n c)) (owner_others j other)
      ∙ by (block_at bs j).owner refl (λ q is. lies_others n c q is)
    where
      by : (o : Owner) → (block_at bs j).owner ≡ o → ((q : ℕ) → q ≢ x → lies_in without n c q ≡ lies_in bs n c q)
          → (j == c) || in_block_of (unqueued (λ i. i == x) o) (lies_in without n c)
          ≡ (j == c) || in_block_of o (lies_in bs n c)
      by (Process q) is k = refl
      by (Queue q) is k = queue (q == x)
        where
          queue : (t : Bool) → (j == c) || in_block_of (if t then Channel else Queue q) (lies_in without n c) ≡ (j == c) || false
          queue true = refl
          queue false = refl
      by (Inside q) is k = ap (λ (t : Bool). (j == c) || t) (k q (λ e. true≢false
          (ap (λ (o : Owner). is_inside o x) is ∙ eqb_same q x e) (none_in j)))
      by Channel is k = refl
      by Freed is k = refl

  goes_others : (c j : ℕ) → j ≢ x → goes_with without c j ≡ goes_with bs c j
  goes_others c j other = ap (λ (n : ℕ). lies_in without n c j) without_long ∙ lies_others (length bs) c j other

  rooted_then : (j : ℕ) → Rooted without j
  rooted_then j = rooted_less bs without (λ i b is. ⊎_elim
      (λ e. absurd (let k : Freed ≡ Inside b = sym (owner_x i e) ∙ is in cc))
      (λ n. is_inside_is (block_at bs i).owner b (sym (inside_others i b n)
      ∙ (ap (λ (o : Owner). is_inside o b) is ∙ is_inside_same b))) (cases_eq i x)) j (h.rooted j)

  -- x is inside no block: it is a itself, and everything is freed
  pub is_done : ((b : ℕ) → is_inside (block_at bs x).owner b ≡ false)
      → (x ≡ a) × (without ≡ change_each (freed_block (goes_with bs0 a)) bs0)
  is_done out = (same, ap (λ (goes : ℕ → Bool). change_each (freed_block goes) bs) (λ i j. alone j i) ∙ h.ends)
    where
      same : x ≡ a
      same = ⊎_elim (λ e. e) (λ k. absurd (true≢false (ap (λ (o : Owner). is_inside o k.0) k.1 ∙ is_inside_same k.0) (out k.0)))
          (goes_up bs h.rooted a x h.goes)

      alone : (j : ℕ) → (j == x) ≡ goes_with bs a j
      alone j = ⊎_elim
          (λ e. eqb_same j x e ∙ sym (ap (goes_with bs a) e ∙ h.goes))
          (λ n. eqb_apart j x n ∙ sym (⊎_elim (λ t. absurd (never j (h.rooted j) n t)) (λ f. f) (cases_Bool (goes_with bs a j))))
          (cases_eq j x)
        where
          never : (j : ℕ) → Rooted bs j → j ≢ x → goes_with bs a j ≡ true → ⊥
          never j (top y none) n t = ⊎_elim (λ e. n (e ∙ sym same))
              (λ k. true≢false (ap (λ (o : Owner). is_inside o k.0) k.1 ∙ is_inside_same k.0) (none k.0)) (goes_up bs h.rooted a j t)
          never j (below y c is r) n t = ⊎_elim (λ e. n (e ∙ sym same))
              (λ k. never c r (λ e. true≢false (ap (λ (o : Owner). is_inside o x) is ∙ eqb_same c x e) (none_in j))
              (subst (λ (i : ℕ). goes_with bs a i ≡ true) (inside_same (block_at bs j).owner k.0 c k.1 is) k.2))
              (goes_up bs h.rooted a j t)

  -- x is inside b: the path goes on there
  module _ (b : ℕ) (is : (block_at bs x).owner ≡ Inside b) where
    x_not_a : x ≢ a
    x_not_a e = true≢false (ap (λ (n : ℕ). is_inside (block_at bs n).owner b) (sym e) ∙ (ap (λ (o : Owner). is_inside o b) is
        ∙ is_inside_same b)) (not_inside (block_at bs a).owner b h.owned)

    b_not_x : b ≢ x
    b_not_x e = true≢false (ap (λ (o : Owner). is_inside o x) is ∙ eqb_same b x e) (none_in x)

    b_goes : goes_with bs a b ≡ true
    b_goes = ⊎_elim (λ e. absurd (x_not_a e))
        (λ k. subst (λ (n : ℕ). goes_with bs a n ≡ true) (inside_same (block_at bs x).owner k.0 b k.1 is) k.2)
        (goes_up bs h.rooted a x h.goes)

    fields_now : (c : ℕ) → (block_at without c).fields ≡ (block_at bs c).fields
    fields_now c = ap (λ (y : Block). y.fields) (without_at c) ∙ ⊎_elim
        (λ e. ap (λ (t : Bool). if t then [] else (block_at bs c).fields) (eqb_same c x e)
        ∙ sym (ap (λ (n : ℕ). (block_at bs n).fields) e ∙ empty))
        (λ n. ap (λ (t : Bool). if t then [] else (block_at bs c).fields) (eqb_apart c x n)) (cases_eq c x)

    holds_up : (c j : ℕ) → occurs (block_at without c).fields j
        + one_if (is_inside (block_at without j).owner c && goes_with without j b) ≡ one_if (is_inside (block_at without j).owner c)
    holds_up c j = ap (λ (xs : List ℕ). occurs xs j + one_if (is_inside (block_at without j).owner c && goes_with without j b))
        (fields_now c) ∙ ⊎_elim at_x others (cases_eq j x)
      where
        was : occurs (block_at bs c).fields j + one_if (is_inside (block_at bs j).owner c && goes_with bs j x)
            ≡ one_if (is_inside (block_at bs j).owner c)
        was = h.holds c j

        at_x : j ≡ x → occurs (block_at bs c).fields j + one_if (is_inside (block_at without j).owner c && goes_with without j b)
            ≡ one_if (is_inside (block_at without j).owner c)
        at_x e =
            let o : is_inside (block_at without j).owner c ≡ false = ap (λ (o : Owner). is_inside o c) (owner_x j e) in
            let z1 : one_if (is_inside (block_at without j).owner c) ≡ 0 = ap one_if o in
            let z2 : one_if (is_inside (block_at without j).owner c && goes_with without j b) ≡ 0 =
            ap (λ (t : Bool). one_if (t && goes_with without j b)) o in
            let w = was in
            let path : goes_with bs j x ≡ true = ap (λ (n : ℕ). goes_with bs n x) e ∙ goes_self bs h.rooted x in
            let q : one_if (is_inside (block_at bs j).owner c && goes_with bs j x) ≡ one_if (is_inside (block_at bs j).owner c) =
            ap one_if (ap (λ (t : Bool). is_inside (block_at bs j).owner c && t) path ∙ and_one (is_inside (block_at bs j).owner c)) in
            omega arith
          where
            and_one : (t : Bool) → t && true ≡ t
            and_one true = refl
            and_one false = refl

        others : j ≢ x → occurs (block_at bs c).fields j + one_if (is_inside (block_at without j).owner c && goes_with without j b)
            ≡ one_if (is_inside (block_at without j).owner c)
        others n =
            let path : goes_with bs j x ≡ goes_with without j b =
            goes_step bs h.rooted j x b is ∙ (ap (λ (t : Bool). t || goes_with bs j b) (eqb_apart x j (λ e. n (sym e)))
            ∙ sym (goes_others j b b_not_x)) in
            let z1 : one_if (is_inside (block_at without j).owner c) ≡ one_if (is_inside (block_at bs j).owner c) =
            ap one_if (inside_others j c n) in
            let z2 : one_if (is_inside (block_at without j).owner c && goes_with without j b)
            ≡ one_if (is_inside (block_at bs j).owner c && goes_with bs j x) =
            ap (λ (t : Bool). one_if (t && goes_with without j b)) (inside_others j c n)
            ∙ ap (λ (t : Bool). one_if (is_inside (block_at bs j).owner c && t)) (sym path) in
            let w = was in
            omega arith

    x_goes_no_more : goes_with without a x ≡ false
    x_goes_no_more = goes_top without rooted_then a x (λ c. ap (λ (o : Owner). is_inside o c) (owner_x x refl)) ∙ eqb_apart x a x_not_a

    freed_then : change_each (freed_block (goes_with without a)) without ≡ change_each (freed_block (goes_with bs a)) bs
    freed_then = changed_twice (freed_one x) (freed_block (goes_with without a)) bs
        ∙ changed_same (λ j y. freed_block (goes_with without a) j (freed_one x j y)) (freed_block (goes_with bs a))
        (λ j y. ⊎_elim (λ e. at_x j y e) (λ n. others j y n) (cases_eq j x)) bs
      where
        at_x : (j : ℕ) (y : Block) → j ≡ x → freed_block (goes_with without a) j (freed_one x j y) ≡ freed_block (goes_with bs a) j y
        at_x j y e =
            ap (λ (t : Bool). freed_as (goes_with without a) t (freed_one x j y)) (ap (goes_with without a) e ∙ x_goes_no_more)
            ∙ (ap (λ (t : Bool). freed_as (goes_with without a) false (freed_as (λ i. i == x) t y)) (eqb_same j x e)
            ∙ sym (ap (λ (t : Bool). freed_as (goes_with bs a) t y) (ap (goes_with bs a) e ∙ h.goes)))

        queues : (o : Owner) → unqueued (goes_with without a) (unqueued (λ i. i == x) o) ≡ unqueued (goes_with bs a) o
        queues (Process q) = refl
        queues (Queue q) = ⊎_elim
            (λ e. ap (λ (t : Bool). if in_queue_of (if t then Channel else Queue q) (goes_with without a) then Channel
            else (if t then Channel else Queue q)) (eqb_same q x e)
            ∙ sym (ap (λ (t : Bool). if t then Channel else Queue q) (ap (goes_with bs a) e ∙ h.goes)))
            (λ n. ap (λ (t : Bool). if in_queue_of (if t then Channel else Queue q) (goes_with without a) then Channel
            else (if t then Channel else Queue q)) (eqb_apart q x n)
            ∙ ap (λ (t : Bool). if t then Channel else Queue q) (goes_others a q n)) (cases_eq q x)
        queues (Inside q) = refl
        queues Channel = refl
        queues Freed = refl

        others : (j : ℕ) (y : Block) → j ≢ x → freed_block (goes_with without a) j (freed_one x j y) ≡ freed_block (goes_with bs a) j y
        others j y n =
            ap (λ (t : Bool). freed_as (goes_with without a) t (freed_one x j y)) (goes_others a j n)
            ∙ (ap (λ (t : Bool). freed_as (goes_with without a) (goes_with bs a j) (freed_as (λ i. i == x) t y)) (eqb_apart j x n)
            ∙ ap (λ (o : Owner). with_parts y (if goes_with bs a j then Freed else o) (if goes_with bs a j then [] else y.queue)
            (if goes_with bs a j then [] else y.fields)) (queues y.owner))

    -- the path goes up to the block that x was inside
    pub goes_up_to : Frees bs0 a without b
    goes_up_to = record {
      goes = goes_others a b b_not_x ∙ b_goes;
      owned = ap of_process (owner_others a (λ e. x_not_a (sym e)))
          ∙ (unqueued_same of_process (λ i. i == x) (block_at bs a).owner (λ q. refl) ∙ h.owned);
      holds = holds_up;
      rooted = rooted_then;
      ends = freed_then ∙ h.ends;
    }
