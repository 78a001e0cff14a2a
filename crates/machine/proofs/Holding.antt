-- Fields hold what is inside their block, and owners lead up in finitely many steps: how this is preserved.
use Rattle.std.proofs.Common.{◌≡◌, ◌≢◌, ℕ, ◌<◌, Bool, true, false, List, [], length}
use Rattle.std.proofs.Common.{refl, sym, ap, ◌∙◌, subst, arith, ⊎_elim}
use Rattle.std.proofs.lemmas.Bool.{cases_Bool}
use Rattle.std.specs.Prelude.{◌⊎◌, if◌then◌else◌}
use Rattle.machine.specs.Blocks.{freed_block, goes_with, in_queue_of}
use Rattle.machine.specs.Heaps.{FieldsHold, Rooted, below, occurs, of_process, one_if, top}
use Rattle.machine.specs.World.{Block, block_at, change_each, is_freed, is_freed_at, is_inside, is_process, is_queue, no_type, owns}
use Rattle.machine.specs.declared.worlds.Owner.{Owner}
use Rattle.machine.specs.declared.worlds.Owner.TheVariants.{Process, Queue, Inside, Channel, Freed}
use Rattle.machine.proofs.ChangeLemmas.{eqb_apart, true≢false}
use Rattle.machine.proofs.Chains.{goes_down, goes_up, inside_or, inside_same, inside_there, is_inside_is, is_inside_same}
use Rattle.machine.proofs.HeapLemmas.{changed_all, no_queue, of_some, own_there}

-- ---- owners
-- a block of a process is inside no other
pub not_inside : (o : Owner) (b : ℕ) → of_process o ≡ true → is_inside o b ≡ false
not_inside (Process n) b own = refl
not_inside (Queue n) b own = absurd (cc)
not_inside (Inside n) b own = absurd (cc)
not_inside Channel b own = refl
not_inside Freed b own = refl

-- a block of a process is not freed
pub not_freed : (o : Owner) → of_process o ≡ true → is_freed o ≡ false
not_freed (Process n) own = refl
not_freed (Queue n) own = refl
not_freed (Inside n) own = refl
not_freed Channel own = refl
not_freed Freed own = absurd (cc)

pub process_not_inside : (o : Owner) (q b : ℕ) → is_process o q ≡ true → is_inside o b ≡ false
process_not_inside o q b e = not_inside o b (of_some o q e)

pub process_not_freed : (o : Owner) (q : ℕ) → is_process o q ≡ true → is_freed o ≡ false
process_not_freed o q e = not_freed o (of_some o q e)

pub process_no_queue : (o : Owner) (q a : ℕ) → is_process o q ≡ true → is_queue o a ≡ false
process_no_queue o q a e = no_queue o a (of_some o q e)

pub queue_not_inside : (o : Owner) (a b : ℕ) → is_queue o a ≡ true → is_inside o b ≡ false
queue_not_inside (Process n) a b e = absurd (cc)
queue_not_inside (Queue n) a b e = refl
queue_not_inside (Inside n) a b e = absurd (cc)
queue_not_inside Channel a b e = absurd (cc)
queue_not_inside Freed a b e = absurd (cc)

pub queue_not_freed : (o : Owner) (a : ℕ) → is_queue o a ≡ true → is_freed o ≡ false
queue_not_freed (Process n) a e = refl
queue_not_freed (Queue n) a e = refl
queue_not_freed (Inside n) a e = refl
queue_not_freed Channel a e = refl
queue_not_freed Freed a e = absurd (cc)

pub inside_not_process : (o : Owner) (b q : ℕ) → o ≡ Inside b → is_process o q ≡ false
inside_not_process o b q e = ap (λ (x : Owner). is_process x q) e

pub inside_not_queue : (o : Owner) (b a : ℕ) → o ≡ Inside b → is_queue o a ≡ false
inside_not_queue o b a e = ap (λ (x : Owner). is_queue x a) e

-- a block of a process exists
pub owned_there : (bs : List Block) (q a : ℕ) → owns bs q a ≡ true → a < length bs
owned_there bs q a o = own_there bs a (of_some (block_at bs a).owner q o)

-- an owner after the queues of endpoints with this property were emptied
abbrev pub unqueued : (ℕ → Bool) → Owner → Owner
unqueued P o = if in_queue_of o P then Channel else o

-- a property that treats queues and the channel alike is unchanged
pub unqueued_same : {X : Type 0} (f : Owner → X) (P : ℕ → Bool) (o : Owner) → ((q : ℕ) → f Channel ≡ f (Queue q)) → f (unqueued P o) ≡ f o
unqueued_same f P (Process n) same = refl
unqueued_same f P (Queue n) same = by (P n)
  where
    by : (t : Bool) → f (if t then Channel else Queue n) ≡ f (Queue n)
    by true = same n
    by false = refl
unqueued_same f P (Inside n) same = refl
unqueued_same f P Channel same = refl
unqueued_same f P Freed same = refl

-- ---- chains remain finite
-- nothing is put inside a block
pub rooted_less : (bs bs' : List Block) → ((j b : ℕ) → (block_at bs' j).owner ≡ Inside b → (block_at bs j).owner ≡ Inside b)
    → (x : ℕ) → Rooted bs x → Rooted bs' x
rooted_less bs bs' less x (top a out) = top x (λ b. ⊎_elim
    (λ t. absurd (true≢false (ap (λ (o : Owner). is_inside o b) (less x b (is_inside_is (block_at bs' x).owner b t)) ∙ is_inside_same b)
    (out b))) (λ f. f) (cases_Bool (is_inside (block_at bs' x).owner b)))
rooted_less bs bs' less x (below a b is r) = ⊎_elim
    (λ k. below x k.0 k.1 (subst (λ (n : ℕ). Rooted bs' n) (inside_same (block_at bs x).owner b k.0 is (less x k.0 k.1))
    (rooted_less bs bs' less b r)))
    (λ out. top x out)
    (inside_or (block_at bs' x).owner)

-- Blocks are put inside one that is itself inside no other; the remaining owners are unchanged, or blocks come out
-- of blocks.
pub rooted_put : (bs bs' : List Block) (at : ℕ) → ((b : ℕ) → is_inside (block_at bs' at).owner b ≡ false)
    → ((j b : ℕ) → (block_at bs' j).owner ≡ Inside b → (b ≡ at) ⊎ ((block_at bs j).owner ≡ Inside b)) → (x : ℕ) → Rooted bs x → Rooted bs' x
rooted_put bs bs' at root put x (top a out) = ⊎_elim
    (λ k. ⊎_elim (λ e. below x k.0 k.1 (top k.0 (λ b. ap (λ (n : ℕ). is_inside (block_at bs' n).owner b) e ∙ root b)))
    (λ was. absurd (true≢false (ap (λ (o : Owner). is_inside o k.0) was ∙ is_inside_same k.0) (out k.0))) (put x k.0 k.1))
    (λ out. top x out) (inside_or (block_at bs' x).owner)
rooted_put bs bs' at root put x (below a c is s) = ⊎_elim
    (λ k. ⊎_elim (λ e. below x k.0 k.1 (top k.0 (λ b. ap (λ (n : ℕ). is_inside (block_at bs' n).owner b) e ∙ root b)))
    (λ was. below x k.0 k.1 (subst (λ (n : ℕ). Rooted bs' n) (inside_same (block_at bs x).owner c k.0 is was)
    (rooted_put bs bs' at root put c s))) (put x k.0 k.1))
    (λ out. top x out) (inside_or (block_at bs' x).owner)

-- ---- nothing goes into a block or comes out, and nothing is freed
pub held_same : (bs bs' : List Block) → ((a : ℕ) → (block_at bs' a).fields ≡ (block_at bs a).fields)
    → ((j a : ℕ) → is_inside (block_at bs' j).owner a ≡ is_inside (block_at bs j).owner a)
    → ((a : ℕ) → is_freed_at bs' a ≡ is_freed_at bs a) → FieldsHold bs → FieldsHold bs'
held_same bs bs' fields inside freed h = record {
  holds_are = λ a j. ap (λ (xs : List ℕ). occurs xs j) (fields a) ∙ (h.holds_are a j ∙ ap one_if (sym (inside j a)));
  rooted = λ x. rooted_less bs bs' (λ j b is. is_inside_is (block_at bs j).owner b
      (sym (inside j b) ∙ (ap (λ (o : Owner). is_inside o b) is ∙ is_inside_same b))) x (h.rooted x);
  alive = λ j a e. freed a ∙ h.alive j a (sym (inside j a) ∙ e);
}

-- ---- a block is freed with all that is inside it
module _ (bs : List Block) (a : ℕ) (h : FieldsHold bs) (own : of_process (block_at bs a).owner ≡ true) where
  abbrev goes : ℕ → Bool
  goes = goes_with bs a

  abbrev left : List Block
  left = change_each (freed_block goes) bs

  -- what goes is the block itself, or directly inside a block that goes
  up : (x : ℕ) → goes x ≡ true → (x ≡ a) ⊎ ((b : ℕ) × ((block_at bs x).owner ≡ Inside b) × (goes b ≡ true))
  up = goes_up bs h.rooted a

  goes_there : (x : ℕ) → goes x ≡ true → x < length bs
  goes_there x g = ⊎_elim (λ e. let k = own_there bs a own in omega arith) (λ k. inside_there bs x k.0 k.1) (up x g)

  pub left_at : (j : ℕ) → block_at left j ≡ freed_block goes j (block_at bs j)
  left_at j = changed_all (freed_block goes) bs j (λ past.
      ap (λ (b : Bool). record {
        ty = no_type;
        owner = if b then Freed else Channel;
        peer = 0;
        state = 0;
        queue = if b then [] else [];
        fields = if b then [] else [];
      }) (⊎_elim (λ t. absurd (let k = goes_there j t in omega arith)) (λ f. f) (cases_Bool (goes j))))

  abbrev owner_left : Bool → Owner → Owner
  owner_left t o = if t then Freed else unqueued goes o

  owner_then : (j : ℕ) → (block_at left j).owner ≡ owner_left (goes j) (block_at bs j).owner
  owner_then j = ap (λ (b : Block). b.owner) (left_at j)

  -- what remains is inside the same block as before
  inside_left : (j b : ℕ) → goes j ≡ false → is_inside (block_at left j).owner b ≡ is_inside (block_at bs j).owner b
  inside_left j b f = ap (λ (o : Owner). is_inside o b) (owner_then j)
      ∙ (ap (λ (t : Bool). is_inside (owner_left t (block_at bs j).owner) b) f
      ∙ unqueued_same (λ (o : Owner). is_inside o b) goes (block_at bs j).owner (λ q. refl))

  inside_gone : (j b : ℕ) → goes j ≡ true → is_inside (block_at left j).owner b ≡ false
  inside_gone j b t = ap (λ (o : Owner). is_inside o b) (owner_then j)
      ∙ ap (λ (s : Bool). is_inside (owner_left s (block_at bs j).owner) b) t

  fields_gone : (b : ℕ) → goes b ≡ true → (block_at left b).fields ≡ []
  fields_gone b t = ap (λ (y : Block). y.fields) (left_at b) ∙ ap (λ (s : Bool). if s then [] else (block_at bs b).fields) t

  pub fields_stay : (b : ℕ) → goes b ≡ false → (block_at left b).fields ≡ (block_at bs b).fields
  fields_stay b f = ap (λ (y : Block). y.fields) (left_at b) ∙ ap (λ (s : Bool). if s then [] else (block_at bs b).fields) f

  holds_left : (b j : ℕ) → occurs (block_at left b).fields j ≡ one_if (is_inside (block_at left j).owner b)
  holds_left b j = by (goes b) (goes j) refl refl
    where
      by : (s t : Bool) → goes b ≡ s → goes j ≡ t → occurs (block_at left b).fields j ≡ one_if (is_inside (block_at left j).owner b)
      by true true s t = ap (λ (xs : List ℕ). occurs xs j) (fields_gone b s) ∙ sym (ap one_if (inside_gone j b t))
      by true false s t = ap (λ (xs : List ℕ). occurs xs j) (fields_gone b s) ∙ sym (ap one_if (inside_left j b t ∙ none s t))
        where
          none : goes b ≡ true → goes j ≡ false → is_inside (block_at bs j).owner b ≡ false
          none s t = ⊎_elim
              (λ e. absurd (true≢false (goes_down bs h.rooted a j b (is_inside_is (block_at bs j).owner b e) s) t)) (λ f. f)
              (cases_Bool (is_inside (block_at bs j).owner b))
      by false true s t = ap (λ (xs : List ℕ). occurs xs j) (fields_stay b s) ∙ (h.holds_are b j ∙ (ap one_if (none s t)
          ∙ sym (ap one_if (inside_gone j b t))))
        where
          none : goes b ≡ false → goes j ≡ true → is_inside (block_at bs j).owner b ≡ false
          none s t = ⊎_elim
              (λ e. not_inside (block_at bs j).owner b (ap (λ (n : ℕ). of_process (block_at bs n).owner) e ∙ own))
              (λ k. ap (λ (o : Owner). is_inside o b) k.1 ∙ eqb_apart k.0 b (λ e. true≢false k.2 (ap goes e ∙ s))) (up j t)
      by false false s t = ap (λ (xs : List ℕ). occurs xs j) (fields_stay b s) ∙ (h.holds_are b j ∙ sym (ap one_if (inside_left j b t)))

  -- what remains is inside blocks that remain
  alive_left : (j b : ℕ) → is_inside (block_at left j).owner b ≡ true → is_freed_at left b ≡ false
  alive_left j b e = by (goes j) (goes b) refl refl
    where
      was : goes j ≡ false → is_inside (block_at bs j).owner b ≡ true
      was f = sym (inside_left j b f) ∙ e

      by : (s t : Bool) → goes j ≡ s → goes b ≡ t → is_freed_at left b ≡ false
      by true t s r = absurd (true≢false e (inside_gone j b s))
      by false true s r = absurd (true≢false (goes_down bs h.rooted a j b (is_inside_is (block_at bs j).owner b (was s)) r) s)
      by false false s r = ap is_freed (owner_then b)
          ∙ (ap (λ (t : Bool). is_freed (owner_left t (block_at bs b).owner)) r
          ∙ (unqueued_same is_freed goes (block_at bs b).owner (λ q. refl) ∙ h.alive j b (was s)))

  -- fields still hold what is inside their block
  pub held_freed : FieldsHold left
  held_freed = record {
    holds_are = holds_left;
    rooted = λ x. rooted_less bs left (λ j b is. ⊎_elim
        (λ g. absurd (true≢false (ap (λ (o : Owner). is_inside o b) is ∙ is_inside_same b) (inside_gone j b g)))
        (λ f. is_inside_is (block_at bs j).owner b
        (sym (inside_left j b f) ∙ (ap (λ (o : Owner). is_inside o b) is ∙ is_inside_same b))) (cases_Bool (goes j))) x (h.rooted x);
    alive = alive_left;
  }

  -- no queue owned a block that goes
  pub gone_no_queue : (x c : ℕ) → goes x ≡ true → is_queue (block_at bs x).owner c ≡ false
  gone_no_queue x c g = ⊎_elim
      (λ e. no_queue (block_at bs x).owner c (ap (λ (n : ℕ). of_process (block_at bs n).owner) e ∙ own))
      (λ k. inside_not_queue (block_at bs x).owner k.0 c k.1) (up x g)

  -- no process owned a block that goes, except the block itself
  pub gone_no_process : (x q : ℕ) → goes x ≡ true → x ≢ a → owns bs q x ≡ false
  gone_no_process x q g n = ⊎_elim (λ e. absurd (n e)) (λ k. inside_not_process (block_at bs x).owner k.0 q k.1) (up x g)
