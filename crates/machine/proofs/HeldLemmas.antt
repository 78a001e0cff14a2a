-- Fields hold what is inside their block, and queues bring what they own, whatever else is done to blocks.
use Rattle.std.proofs.Common.{◌≡◌, ◌≢◌, ◌==◌, ℕ, zero, suc, ◌+◌, ◌<◌, Bool, true, false, List, [], ◌∷◌, ◌++◌, Some, length, map, set}
use Rattle.std.proofs.Common.{refl, sym, ap, ◌∙◌, arith, inl, inr, ⊎_elim}
use Rattle.std.proofs.lemmas.Bool.{cases_Bool, cases_eq, cases_lt}
use Rattle.std.proofs.lemmas.List.{map-append}
use Rattle.std.specs.Prelude.{◌⊎◌, ◌||◌, if◌then◌else◌, slice_get}
use Rattle.program.specs.Lists.{is_among}
use Rattle.program.specs.declared.types.HeapType.{HeapType}
use Rattle.machine.specs.Answers.{with_field}
use Rattle.machine.specs.BlockViews.{block_model, blocks_model, held_model}
use Rattle.machine.specs.Blocks.{exchanged_block, with_new_owner, new_block, received_block, sent_block}
use Rattle.machine.specs.Heaps.{AreOwned, QueuesBring, FieldsHold, brings, occurs, of_process, one_if}
use Rattle.machine.specs.World.{Block, MessageHeld, block_at, change_each, is_freed, is_freed_at, is_inside, is_queue, owns}
use Rattle.machine.specs.declared.worlds.Block as made_block
use Rattle.machine.specs.declared.worlds.Held as made_held
use Rattle.machine.specs.declared.worlds.Owner.{Owner}
use Rattle.machine.specs.declared.worlds.Owner.TheVariants.{Process, Queue, Inside}
use Rattle.machine.proofs.ChangeLemmas.{changed_same, changed_twice, or_false}
use Rattle.machine.proofs.HeapLemmas.{at_changed, at_past, eqb_swap, front_is, past, queue_of_some, some_occurs}
use Rattle.machine.proofs.HeldExchange as exchange
use Rattle.machine.proofs.HeldNew as new
use Rattle.machine.proofs.Holding.{held_same, inside_not_queue, not_freed, not_inside, owned_there, process_no_queue, queue_not_freed, queue_not_inside}
use Rattle.machine.proofs.WayKept.{with_parts}

-- fields are unchanged, and so is what is inside which block and what is freed
held_by : (f : ℕ → Block → Block) (bs : List Block) → ((j : ℕ) (b : Block) → (f j b).fields ≡ b.fields)
    → ((j a : ℕ) → is_inside (f j (block_at bs j)).owner a ≡ is_inside (block_at bs j).owner a)
    → ((j : ℕ) → is_freed (f j (block_at bs j)).owner ≡ is_freed (block_at bs j).owner) → FieldsHold bs → FieldsHold (change_each f bs)
held_by f bs fields inside freed h = held_same bs (change_each f bs) (λ a. ⊎_elim
    (λ l. ap (λ (b : Block). b.fields) (at_changed f bs a l) ∙ fields a (block_at bs a))
    (λ p. ap (λ (b : Block). b.fields) (at_past f bs a p) ∙ sym (ap (λ (b : Block). b.fields) (past bs a p))) (cases_lt a (length bs)))
    (λ j a. ⊎_elim (λ l. ap (λ (b : Block). is_inside b.owner a) (at_changed f bs j l) ∙ inside j a)
    (λ p. ap (λ (b : Block). is_inside b.owner a) (at_past f bs j p) ∙ sym (ap (λ (b : Block). is_inside b.owner a) (past bs j p)))
    (cases_lt j (length bs)))
    (λ j. ⊎_elim (λ l. ap (λ (b : Block). is_freed b.owner) (at_changed f bs j l) ∙ freed j)
    (λ p. ap (λ (b : Block). is_freed b.owner) (at_past f bs j p) ∙ sym (ap (λ (b : Block). is_freed b.owner) (past bs j p)))
    (cases_lt j (length bs))) h

-- owners and fields are unchanged
pub held_kept : (f : ℕ → Block → Block) (bs : List Block) → ((j : ℕ) (b : Block) → (f j b).owner ≡ b.owner)
    → ((j : ℕ) (b : Block) → (f j b).fields ≡ b.fields) → FieldsHold bs → FieldsHold (change_each f bs)
held_kept f bs owners fields h = held_by f bs fields (λ j a. ap (λ (o : Owner). is_inside o a) (owners j (block_at bs j)))
    (λ j. ap is_freed (owners j (block_at bs j))) h

to_same : (P : Owner → Bool) (t : Bool) (to o : Owner) → P to ≡ false → (t ≡ true → P o ≡ false) → P (if t then to else o) ≡ P o
to_same P true to o out was = out ∙ sym (was refl)
to_same P false to o out was = refl

-- blocks of processes get an owner that is no block, and are not freed
pub held_handed : (to : Owner) (bs : List Block) (given : List ℕ) → ((a : ℕ) → is_inside to a ≡ false) → is_freed to ≡ false
    → AreOwned bs given → FieldsHold bs → FieldsHold (change_each (with_new_owner to given) bs)
held_handed to bs given out lives owned h = held_by (with_new_owner to given) bs (λ j b. refl)
    (λ j a. to_same (λ (o : Owner). is_inside o a) (is_among given j) to (block_at bs j).owner (out a)
    (λ t. not_inside (block_at bs j).owner a (owned.own j t)))
    (λ j. to_same is_freed (is_among given j) to (block_at bs j).owner lives (λ t. not_freed (block_at bs j).owner (owned.own j t))) h

-- a message is sent
pub held_sent : (bs : List Block) (at state to : ℕ) (m : MessageHeld) → AreOwned bs m.payload → FieldsHold bs
    → FieldsHold (change_each (sent_block at state to false m) bs)
held_sent bs at state to m owned h = held_by (sent_block at state to false m) bs (λ j b. refl)
    (λ j a. to_same (λ (o : Owner). is_inside o a) (is_among m.payload j) (Queue to) (block_at bs j).owner refl
    (λ t. not_inside (block_at bs j).owner a (owned.own j t)))
    (λ j. to_same is_freed (is_among m.payload j) (Queue to) (block_at bs j).owner refl (λ t. not_freed (block_at bs j).owner (owned.own j t))) h

-- a message is received
pub held_received : (bs : List Block) (self at state : ℕ) (m : MessageHeld) (ms : List MessageHeld) → (block_at bs at).queue ≡ m ∷ ms
    → QueuesBring bs → FieldsHold bs → FieldsHold (change_each (received_block self at state m ms) bs)
held_received bs self at state m ms here is h = held_by (received_block self at state m ms) bs (λ j b. refl)
    (λ j a. to_same (λ (o : Owner). is_inside o a) (is_among m.payload j) (Process self) (block_at bs j).owner refl
    (λ t. queue_not_inside (block_at bs j).owner at a (of_queue j t)))
    (λ j. to_same is_freed (is_among m.payload j) (Process self) (block_at bs j).owner refl
    (λ t. queue_not_freed (block_at bs j).owner at (of_queue j t))) h
  where
    of_queue : (j : ℕ) → is_among m.payload j ≡ true → is_queue (block_at bs j).owner at ≡ true
    of_queue j t =
        let some : 0 < occurs m.payload j = some_occurs m.payload j t in
        queue_of_some (is_queue (block_at bs j).owner at) (occurs m.payload j + occurs (brings ms) j) (omega arith)
        (front_is bs at j m ms here is)

-- a process has a new block
fields_added : (bs : List Block) (b : Block) (a : ℕ) → b.fields ≡ [] → (block_at (bs ++ b ∷ []) a).fields ≡ (block_at bs a).fields
fields_added [] b zero e = e
fields_added [] b (suc a) e = refl
fields_added (x ∷ bs) b zero e = refl
fields_added (x ∷ bs) b (suc a) e = fields_added bs b a e

inside_added : (bs : List Block) (b : Block) (j a : ℕ) → of_process b.owner ≡ true
    → is_inside (block_at (bs ++ b ∷ []) j).owner a ≡ is_inside (block_at bs j).owner a
inside_added [] b zero a own = not_inside b.owner a own
inside_added [] b (suc j) a own = refl
inside_added (x ∷ bs) b zero a own = refl
inside_added (x ∷ bs) b (suc j) a own = inside_added bs b j a own

freed_added : (bs : List Block) (b : Block) (a : ℕ) → of_process b.owner ≡ true → is_freed_at (bs ++ b ∷ []) a ≡ is_freed_at bs a
freed_added [] b zero own = not_freed b.owner own
freed_added [] b (suc a) own = refl
freed_added (x ∷ bs) b zero own = refl
freed_added (x ∷ bs) b (suc a) own = freed_added bs b a own

pub held_added : (bs : List Block) (b : Block) → of_process b.owner ≡ true → b.fields ≡ [] → FieldsHold bs → FieldsHold (bs ++ b ∷ [])
held_added bs b own empty h = held_same bs (bs ++ b ∷ []) (λ a. fields_added bs b a empty) (λ j a. inside_added bs b j a own)
    (λ a. freed_added bs b a own) h

-- what queues bring is unchanged, and so is what they own
brought_same : (bs bs' : List Block) → ((a : ℕ) → (block_at bs' a).queue ≡ (block_at bs a).queue)
    → ((j a : ℕ) → is_queue (block_at bs' j).owner a ≡ is_queue (block_at bs j).owner a) → QueuesBring bs → QueuesBring bs'
brought_same bs bs' queues owners is = record {
  brings_are = λ a j. ap (λ (q : List MessageHeld). occurs (brings q) j) (queues a) ∙ (is.brings_are a j ∙ ap one_if (sym (owners j a)));
}

-- ---- a variable and a field change places
exchanged_one : (self at field given held j : ℕ) (b : Block)
    → with_new_owner (Inside at) (given ∷ []) j (with_new_owner (Process self) (held ∷ []) j (with_field at field given j b))
    ≡ exchanged_block self at field given held j b
exchanged_one self at field given held j b =
    ap (λ (t : Bool). with_parts b (if t then Inside at else (if (held == j) || false then Process self else b.owner)) b.queue
    (if j == at then set b.fields field given else b.fields)) (or_false (given == j) ∙ eqb_swap given j)
    ∙ ap (λ (t : Bool). with_parts b (if j == given then Inside at else (if t then Process self else b.owner)) b.queue
    (if j == at then set b.fields field given else b.fields)) (or_false (held == j) ∙ eqb_swap held j)

-- a field is written, what it held goes to the process, and the given block is inside the block of the field
pub exchanged_is : (self at field given held : ℕ) (bs : List Block)
    → change_each (with_new_owner (Inside at) (given ∷ [])) (change_each (with_new_owner (Process self) (held ∷ [])) (change_each (with_field at field given) bs))
    ≡ change_each (exchanged_block self at field given held) bs
exchanged_is self at field given held bs =
    ap (change_each (with_new_owner (Inside at) (given ∷ []))) (changed_twice (with_field at field given) (with_new_owner (Process self) (held ∷ [])) bs)
    ∙ (changed_twice (λ j b. with_new_owner (Process self) (held ∷ []) j (with_field at field given j b)) (with_new_owner (Inside at) (given ∷ [])) bs
    ∙ changed_same (λ j b. with_new_owner (Inside at) (given ∷ []) j (with_new_owner (Process self) (held ∷ []) j (with_field at field given j b)))
    (exchanged_block self at field given held) (exchanged_one self at field given held) bs)

module _ (bs : List Block) (self at field given held : ℕ) (h : FieldsHold bs) (owned_at : owns bs self at ≡ true)
    (owned_given : owns bs self given ≡ true) (apart : given ≢ at) (found : slice_get (block_at bs at).fields field ≡ Some held) where
  pub exchange_brought : QueuesBring bs → QueuesBring (change_each (exchanged_block self at field given held) bs)
  exchange_brought is = brought_same bs (exchange.changes bs self at field given held h owned_at owned_given apart found)
      (λ a. ap (λ (b : Block). b.queue) (exchange.exchanged_at bs self at field given held h owned_at owned_given apart found a))
      (λ j a. by j a (cases_eq j given) (cases_eq j held)) is
    where
      by : (j a : ℕ) → (j ≡ given) ⊎ (j ≡ given → ⊥) → (j ≡ held) ⊎ (j ≡ held → ⊥)
          → is_queue (block_at (change_each (exchanged_block self at field given held) bs) j).owner a ≡ is_queue (block_at bs j).owner a
      by j a (inl g) s = ap (λ (o : Owner). is_queue o a)
          (exchange.owner_given bs self at field given held h owned_at owned_given apart found j g)
          ∙ sym (process_no_queue (block_at bs j).owner self a (ap (λ (n : ℕ). owns bs self n) g ∙ owned_given))
      by j a (inr g) (inl s) = ap (λ (o : Owner). is_queue o a)
          (exchange.owner_held bs self at field given held h owned_at owned_given apart found j s)
          ∙ sym (ap (λ (n : ℕ). is_queue (block_at bs n).owner a) s
          ∙ inside_not_queue (block_at bs held).owner at a (exchange.held_is bs self at field given held h owned_at owned_given apart found))
      by j a (inr g) (inr s) = ap (λ (o : Owner). is_queue o a)
          (exchange.owner_other bs self at field given held h owned_at owned_given apart found j g s)

  pub exchange_holds : FieldsHold (change_each (exchanged_block self at field given held) bs)
  exchange_holds = exchange.exchange_held bs self at field given held h owned_at owned_given apart found

-- ---- a process has a new block with what it gives inside
changed_append : (f : ℕ → Block → Block) (bs : List Block) (b : Block) → change_each f (bs ++ b ∷ []) ≡ change_each f bs ++ f (length bs) b ∷ []
changed_append f [] b = refl
changed_append f (x ∷ bs) b = ap (λ (xs : List Block). f 0 x ∷ xs) (changed_append (λ a. f (suc a)) bs b)

-- the new block: its queue is empty, and its fields hold what is given
pub made_model : (ty : HeapType) (self : ℕ) (given : List ℕ) (queue : List made_held.Held) (fields : List ℕ) → queue ≡ [] → fields ≡ given
    → with_parts (new_block ty self 0 0 given) (Process self) (map held_model queue) fields ≡ new_block ty self 0 0 given
made_model ty self given queue fields empty same =
    ap (λ (q : List made_held.Held). with_parts (new_block ty self 0 0 given) (Process self) (map held_model q) fields) empty
    ∙ ap (with_parts (new_block ty self 0 0 given) (Process self) []) same

-- the new block is appended
pub made_pushed : (made : Block) (old new : List made_block.Block) (b : made_block.Block) → new ≡ old ++ b ∷ [] → block_model b ≡ made
    → blocks_model new ≡ blocks_model old ++ made ∷ []
made_pushed made old new b pushed same =
    ap blocks_model pushed ∙ (map-append block_model old (b ∷ []) ∙ ap (λ (x : Block). blocks_model old ++ x ∷ []) same)

module _ (bs : List Block) (self : ℕ) (given : List ℕ) (ty : HeapType) (h : FieldsHold bs)
    (mine : (x : ℕ) → is_among given x ≡ true → owns bs self x ≡ true)
    (once : (x : ℕ) → occurs given x ≡ one_if (is_among given x)) where
  -- appending the block first and then putting inside what is given has the same result
  pub made_is : change_each (with_new_owner (Inside (length bs)) given) (bs ++ new_block ty self 0 0 given ∷ [])
      ≡ change_each (with_new_owner (Inside (length bs)) given) bs ++ new_block ty self 0 0 given ∷ []
  made_is = changed_append (with_new_owner (Inside (length bs)) given) bs (new_block ty self 0 0 given)
      ∙ ap (λ (t : Bool). change_each (with_new_owner (Inside (length bs)) given) bs
      ++ with_parts (new_block ty self 0 0 given) (if t then Inside (length bs) else Process self) [] given ∷ []) none
    where
      none : is_among given (length bs) ≡ false
      none = ⊎_elim (λ t. absurd (let k = owned_there bs self (length bs) (mine (length bs) t) in omega arith)) (λ f. f)
          (cases_Bool (is_among given (length bs)))

  -- the same, stated with the intermediate lists
  pub grown_is : (n : ℕ) (before pushed now : List Block) → n ≡ length bs → before ≡ bs
      → pushed ≡ before ++ new_block ty self 0 0 given ∷ []
      → now ≡ change_each (with_new_owner (Inside n) given) pushed
      → now ≡ change_each (with_new_owner (Inside (length bs)) given) bs ++ new_block ty self 0 0 given ∷ []
  grown_is n before pushed now long same put hands =
      hands ∙ (ap (λ (k : ℕ). change_each (with_new_owner (Inside k) given) pushed) long
      ∙ (ap (change_each (with_new_owner (Inside (length bs)) given)) (put ∙ ap (λ (xs : List Block). xs ++ new_block ty self 0 0 given ∷ []) same)
      ∙ made_is))

  pub new_brought : QueuesBring bs → QueuesBring (change_each (with_new_owner (Inside (length bs)) given) bs ++ new_block ty self 0 0 given ∷ [])
  new_brought is = brought_same bs (new.grown bs self given ty h mine once)
      (λ a. queue a (new.where_is bs self given ty h mine once a))
      (λ j a. by j a (new.where_is bs self given ty h mine once j)) is
    where
      queue : (a : ℕ) → (a < length bs) ⊎ ((a ≡ length bs) ⊎ (length bs < a))
          → (block_at (new.grown bs self given ty h mine once) a).queue ≡ (block_at bs a).queue
      queue a (inl less) = ap (λ (b : Block). b.queue) (new.grown_old bs self given ty h mine once a less)
      queue a (inr (inl e)) = ap (λ (n : ℕ). (block_at (new.grown bs self given ty h mine once) n).queue) e
          ∙ (ap (λ (b : Block). b.queue) (new.grown_new bs self given ty h mine once)
          ∙ sym (ap (λ (b : Block). b.queue) (past bs a (omega arith))))
      queue a (inr (inr more)) = ap (λ (b : Block). b.queue) (new.grown_past bs self given ty h mine once a more)
          ∙ sym (ap (λ (b : Block). b.queue) (past bs a (omega arith)))

      old_owner : (j a : ℕ) (t : Bool) → is_among given j ≡ t
          → is_queue (if t then Inside (length bs) else (block_at bs j).owner) a ≡ is_queue (block_at bs j).owner a
      old_owner j a true e = sym (process_no_queue (block_at bs j).owner self a (mine j e))
      old_owner j a false e = refl

      by : (j a : ℕ) → (j < length bs) ⊎ ((j ≡ length bs) ⊎ (length bs < j))
          → is_queue (block_at (new.grown bs self given ty h mine once) j).owner a ≡ is_queue (block_at bs j).owner a
      by j a (inl less) = ap (λ (b : Block). is_queue b.owner a) (new.grown_old bs self given ty h mine once j less)
          ∙ old_owner j a (is_among given j) refl
      by j a (inr (inl e)) = ap (λ (n : ℕ). is_queue (block_at (new.grown bs self given ty h mine once) n).owner a) e
          ∙ (ap (λ (b : Block). is_queue b.owner a) (new.grown_new bs self given ty h mine once)
          ∙ sym (ap (λ (b : Block). is_queue b.owner a) (past bs j (omega arith))))
      by j a (inr (inr more)) = ap (λ (b : Block). is_queue b.owner a) (new.grown_past bs self given ty h mine once j more)
          ∙ sym (ap (λ (b : Block). is_queue b.owner a) (past bs j (omega arith)))

  pub new_holds : FieldsHold (change_each (with_new_owner (Inside (length bs)) given) bs ++ new_block ty self 0 0 given ∷ [])
  new_holds = new.new_held bs self given ty h mine once
