-- Queues bring what they own, whatever is done to blocks.
use Rattle.std.proofs.Common.{◌≡◌, ◌==◌, ℕ, zero, suc, ◌+◌, ◌<◌, ◌≤◌, Bool, true, false, List, [], ◌∷◌, ◌++◌, length, refl, sym, ap, ◌∙◌, arith, ⊎_elim}
use Rattle.std.specs.Prelude.{if◌then◌else◌, ◌||◌, ◌&&◌, not}
use Rattle.std.proofs.lemmas.Bool.{cases_Bool, cases_lt}
use Rattle.std.proofs.lemmas.Bool.Decides.{eqb_tells}
use Rattle.std.proofs.lemmas.List.{append-nil, get_or_past}
use Rattle.program.specs.Lists.{is_among}
use Rattle.machine.specs.Blocks.{with_new_owner, received_block, sent_block}
use Rattle.machine.specs.Heaps.{AreOnce, AreOwned, QueuesBring, brings, occurs, of_process, one_if}
use Rattle.machine.specs.World.{Block, MessageHeld, block_at, change_each, is_process, is_queue, no_block}
use Rattle.machine.specs.declared.worlds.Owner.{Owner}
use Rattle.machine.specs.declared.worlds.Owner.TheVariants.{Process, Queue, Inside, Channel, Freed}
use Rattle.machine.proofs.ChangeLemmas.{changed_length, eqb_apart, eqb_same}

-- ---- owners
pub no_queue : (o : Owner) (a : ℕ) → of_process o ≡ true → is_queue o a ≡ false
no_queue (Process q) a own = refl
no_queue (Queue b) a own = absurd (cc)
no_queue (Inside b) a own = absurd (cc)
no_queue Channel a own = refl
no_queue Freed a own = refl

pub of_some : (o : Owner) (q : ℕ) → is_process o q ≡ true → of_process o ≡ true
of_some (Process p) q own = refl
of_some (Queue b) q own = absurd (cc)
of_some (Inside b) q own = absurd (cc)
of_some Channel q own = absurd (cc)
of_some Freed q own = absurd (cc)

pub eqb_swap : (a b : ℕ) → (a == b) ≡ (b == a)
eqb_swap a b = ⊎_elim (λ h. h.0 ∙ sym (eqb_same b a (sym h.1))) (λ h. h.0 ∙ sym (eqb_apart b a (λ e. h.1 (sym e)))) (eqb_tells a b)

pub other_queue : (o : Owner) (a b : ℕ) → is_queue o a ≡ true → (b == a) ≡ false → is_queue o b ≡ false
other_queue (Process q) a b here apart = refl
other_queue (Queue x) a b here apart = ⊎_elim (λ h. ap (λ n. n == b) h.1 ∙ (eqb_swap a b ∙ apart)) (λ h. absurd (let bad : false ≡ true = sym h.0 ∙ here in cc)) (eqb_tells x a)
other_queue (Inside x) a b here apart = refl
other_queue Channel a b here apart = refl
other_queue Freed a b here apart = refl

-- ---- occurrences of a number
occurs_both : (xs ys : List ℕ) (n : ℕ) → occurs (xs ++ ys) n ≡ occurs xs n + occurs ys n
occurs_both [] ys n = omega arith
occurs_both (x ∷ xs) ys n = let more : occurs (xs ++ ys) n ≡ occurs xs n + occurs ys n = occurs_both xs ys n in omega arith

none_with : (t s : Bool) (k : ℕ) → (t || s) ≡ false → (s ≡ false → k ≡ 0) → one_if t + k ≡ 0
none_with true s k e none = absurd (cc)
none_with false s k e none = let zero_more : k ≡ 0 = none e in omega arith

pub none_occurs : (xs : List ℕ) (n : ℕ) → is_among xs n ≡ false → occurs xs n ≡ 0
none_occurs [] n e = refl
none_occurs (x ∷ xs) n e = none_with (x == n) (is_among xs n) (occurs xs n) e (none_occurs xs n)

some_with : (t s : Bool) (k : ℕ) → (t || s) ≡ true → (s ≡ true → 0 < k) → 0 < one_if t + k
some_with true s k e some = omega arith
some_with false s k e some = let more : 0 < k = some e in omega arith

pub some_occurs : (xs : List ℕ) (n : ℕ) → is_among xs n ≡ true → 0 < occurs xs n
some_occurs [] n e = absurd (cc)
some_occurs (x ∷ xs) n e = some_with (x == n) (is_among xs n) (occurs xs n) e (some_occurs xs n)

brings_push : (q : List MessageHeld) (m : MessageHeld) (n : ℕ) → occurs (brings (q ++ m ∷ [])) n ≡ occurs (brings q) n + occurs m.payload n
brings_push [] m n = let alone : occurs (m.payload ++ []) n ≡ occurs m.payload n = ap (λ l. occurs l n) (append-nil m.payload) in omega arith
brings_push (x ∷ q) m n =
    let one : occurs (x.payload ++ brings (q ++ m ∷ [])) n ≡ occurs x.payload n + occurs (brings (q ++ m ∷ [])) n = occurs_both x.payload (brings (q ++ m ∷ [])) n in
    let two : occurs (x.payload ++ brings q) n ≡ occurs x.payload n + occurs (brings q) n = occurs_both x.payload (brings q) n in
    let more : occurs (brings (q ++ m ∷ [])) n ≡ occurs (brings q) n + occurs m.payload n = brings_push q m n in
    omega arith

-- ---- blocks at addresses
pub at_changed : (f : ℕ → Block → Block) (bs : List Block) (j : ℕ) → j < length bs → block_at (change_each f bs) j ≡ f j (block_at bs j)
at_changed f [] j short = absurd (omega arith)
at_changed f (b ∷ bs) zero short = refl
at_changed f (b ∷ bs) (suc j) short = let less : j < length bs = omega arith in at_changed (λ a. f (suc a)) bs j less

pub past : (bs : List Block) (j : ℕ) → length bs ≤ j → block_at bs j ≡ no_block
past bs j long = get_or_past bs j no_block long

pub at_past : (f : ℕ → Block → Block) (bs : List Block) (j : ℕ) → length bs ≤ j → block_at (change_each f bs) j ≡ no_block
at_past f bs j long = let same : length (change_each f bs) ≡ length bs = changed_length f bs in past (change_each f bs) j (omega arith)

pub changed_all : (f : ℕ → Block → Block) (bs : List Block) (j : ℕ) → (length bs ≤ j → f j no_block ≡ no_block)
    → block_at (change_each f bs) j ≡ f j (block_at bs j)
changed_all f bs j none =
    ⊎_elim (λ h. at_changed f bs j h)
    (λ h. at_past f bs j h ∙ (sym (none h) ∙ ap (f j) (sym (past bs j h)))) (cases_lt j (length bs))

owner_at : (f : ℕ → Block → Block) (bs : List Block) (j : ℕ) → (length bs ≤ j → (f j no_block).owner ≡ Channel) → (block_at (change_each f bs) j).owner ≡ (f j (block_at bs j)).owner
owner_at f bs j none =
    ⊎_elim (λ h. ap (λ (b : Block). b.owner) (at_changed f bs j h))
    (λ h. ap (λ (b : Block). b.owner) (at_past f bs j h) ∙ (sym (none h) ∙ ap (λ b. (f j b).owner) (sym (past bs j h)))) (cases_lt j (length bs))

queue_at : (f : ℕ → Block → Block) (bs : List Block) (j : ℕ) → (length bs ≤ j → (f j no_block).queue ≡ []) → (block_at (change_each f bs) j).queue ≡ (f j (block_at bs j)).queue
queue_at f bs j none =
    ⊎_elim (λ h. ap (λ (b : Block). b.queue) (at_changed f bs j h))
    (λ h. ap (λ (b : Block). b.queue) (at_past f bs j h) ∙ (sym (none h) ∙ ap (λ b. (f j b).queue) (sym (past bs j h)))) (cases_lt j (length bs))

-- a block that a process owns exists
pub own_there : (bs : List Block) (a : ℕ) → of_process (block_at bs a).owner ≡ true → a < length bs
own_there bs a own = ⊎_elim (λ h. h) (λ h. absurd (let bad : false ≡ true = ap (λ (b : Block). of_process b.owner) (sym (past bs a h)) ∙ own in cc)) (cases_lt a (length bs))

owned_there : (bs : List Block) (given : List ℕ) (j : ℕ) → AreOwned bs given → length bs ≤ j → is_among given j ≡ false
owned_there bs given j owned long = ⊎_elim (λ t. absurd (let short : j < length bs = own_there bs j (owned.own j t) in omega arith)) (λ f. f) (cases_Bool (is_among given j))

-- an endpoint with a message exists
queue_there : (bs : List Block) (a : ℕ) (m : MessageHeld) (ms : List MessageHeld) → (block_at bs a).queue ≡ m ∷ ms → a < length bs
queue_there bs a m ms is = ⊎_elim (λ h. h) (λ h. absurd (let bad : [] ≡ m ∷ ms = ap (λ (b : Block). b.queue) (sym (past bs a h)) ∙ is in cc)) (cases_lt a (length bs))

-- ---- what is preserved
pub brought_by : (f : ℕ → Block → Block) (bs : List Block) → ((j : ℕ) → length bs ≤ j → (f j no_block).owner ≡ Channel) → ((a : ℕ) → length bs ≤ a → (f a no_block).queue ≡ [])
    → ((a j : ℕ) → occurs (brings (f a (block_at bs a)).queue) j ≡ one_if (is_queue (f j (block_at bs j)).owner a)) → QueuesBring (change_each f bs)
brought_by f bs none empty is = record {
  brings_are = λ a j. ap (λ l. occurs (brings l) j) (queue_at f bs a (empty a)) ∙ (is a j ∙ ap (λ o. one_if (is_queue o a)) (sym (owner_at f bs j (none j))));
}

-- owners and queues are unchanged
pub brought_kept : (f : ℕ → Block → Block) (bs : List Block) → ((j : ℕ) (b : Block) → (f j b).owner ≡ b.owner) → ((j : ℕ) (b : Block) → (f j b).queue ≡ b.queue) → QueuesBring bs → QueuesBring (change_each f bs)
brought_kept f bs owners queues is =
    brought_by f bs (λ j h. owners j no_block) (λ a h. queues a no_block)
    (λ a j. ap (λ l. occurs (brings l) j) (queues a (block_at bs a)) ∙ (is.brings_are a j ∙ ap (λ o. one_if (is_queue o a)) (sym (owners j (block_at bs j)))))

handed_at : (among : Bool) (to o : Owner) (a n : ℕ) → is_queue to a ≡ false → (among ≡ true → of_process o ≡ true) → n ≡ one_if (is_queue o a) → n ≡ one_if (is_queue (if among then to else o) a)
handed_at true to o a n free own is = is ∙ (ap one_if (no_queue o a (own refl)) ∙ ap one_if (sym free))
handed_at false to o a n free own is = is

-- blocks of processes get an owner that is no queue
pub brought_handed : (to : Owner) (bs : List Block) (given : List ℕ) → ((a : ℕ) → is_queue to a ≡ false) → AreOwned bs given → QueuesBring bs → QueuesBring (change_each (with_new_owner to given) bs)
brought_handed to bs given free owned is =
    brought_by (with_new_owner to given) bs (λ j h. ap (λ t. if t then to else Channel) (owned_there bs given j owned h)) (λ a h. refl)
    (λ a j. handed_at (is_among given j) to (block_at bs j).owner a (occurs (brings (block_at bs a).queue) j) (free a) (owned.own j) (is.brings_are a j))

sent_at : (same among : Bool) (to a j : ℕ) (m : MessageHeld) (q : List MessageHeld) (o : Owner) → (among ≡ true → of_process o ≡ true) → occurs m.payload j ≡ one_if among
    → occurs (brings q) j ≡ one_if (is_queue o a) → (to == a) ≡ same → occurs (brings (if same && not false then q ++ m ∷ [] else q)) j ≡ one_if (is_queue (if among then Queue to else o) a)
sent_at false false to a j m q o own once is e = is
sent_at false true to a j m q o own once is e = is ∙ (ap one_if (no_queue o a (own refl)) ∙ ap one_if (sym e))
sent_at true false to a j m q o own once is e =
    let pushed : occurs (brings (q ++ m ∷ [])) j ≡ occurs (brings q) j + occurs m.payload j = brings_push q m j in
    let none : occurs m.payload j ≡ 0 = once in
    let was : occurs (brings q) j ≡ one_if (is_queue o a) = is in
    omega arith
sent_at true true to a j m q o own once is e =
    let pushed : occurs (brings (q ++ m ∷ [])) j ≡ occurs (brings q) j + occurs m.payload j = brings_push q m j in
    let one : occurs m.payload j ≡ 1 = once in
    let none : occurs (brings q) j ≡ 0 = is ∙ ap one_if (no_queue o a (own refl)) in
    let now : one_if (to == a) ≡ 1 = ap one_if e in
    omega arith

-- a message is sent
pub brought_sent : (bs : List Block) (at state to : ℕ) (m : MessageHeld) → AreOwned bs m.payload → AreOnce m.payload → to < length bs → QueuesBring bs → QueuesBring (change_each (sent_block at state to false m) bs)
brought_sent bs at state to m owned once short is =
    brought_by (sent_block at state to false m) bs (λ j h. ap (λ t. if t then Queue to else Channel) (owned_there bs m.payload j owned h))
    (λ a h. ap (λ t. if t && not false then m ∷ [] else []) (eqb_apart a to (λ e. omega arith)))
    (λ a j. sent_at (a == to) (is_among m.payload j) to a j m (block_at bs a).queue (block_at bs j).owner (owned.own j) (once.once j) (is.brings_are a j) (eqb_swap to a))

-- a block that the front message of a queue brings is owned by the queue
pub front_is : (bs : List Block) (at j : ℕ) (m : MessageHeld) (ms : List MessageHeld) → (block_at bs at).queue ≡ m ∷ ms → QueuesBring bs
    → occurs m.payload j + occurs (brings ms) j ≡ one_if (is_queue (block_at bs j).owner at)
front_is bs at j m ms here is = sym (occurs_both m.payload (brings ms) j) ∙ (ap (λ l. occurs (brings l) j) (sym here) ∙ is.brings_are at j)

pub queue_of_some : (t : Bool) (k : ℕ) → 0 < k → k ≡ one_if t → t ≡ true
queue_of_some true k some is = refl
queue_of_some false k some is = absurd (let none : k ≡ 0 = is in omega arith)

received_at : (same among : Bool) (self at a j : ℕ) (m : MessageHeld) (ms q : List MessageHeld) (o : Owner) → is_among m.payload j ≡ among → (a == at) ≡ same
    → occurs m.payload j + occurs (brings ms) j ≡ one_if (is_queue o at) → occurs (brings q) j ≡ one_if (is_queue o a)
    → occurs (brings (if same then ms else q)) j ≡ one_if (is_queue (if among then Process self else o) a)
received_at true true self at a j m ms q o there e front is =
    let some : 0 < occurs m.payload j = some_occurs m.payload j there in
    let queue : is_queue o at ≡ true = queue_of_some (is_queue o at) (occurs m.payload j + occurs (brings ms) j) (omega arith) front in
    let one : one_if (is_queue o at) ≡ 1 = ap one_if queue in
    omega arith
received_at true false self at a j m ms q o there e front is =
    let none : occurs m.payload j ≡ 0 = none_occurs m.payload j there in
    let same : a ≡ at = ⊎_elim (λ h. h.1) (λ h. absurd (let bad : false ≡ true = sym h.0 ∙ e in cc)) (eqb_tells a at) in
    let move : one_if (is_queue o at) ≡ one_if (is_queue o a) = ap (λ n. one_if (is_queue o n)) (sym same) in
    omega arith
received_at false true self at a j m ms q o there e front is =
    let some : 0 < occurs m.payload j = some_occurs m.payload j there in
    let queue : is_queue o at ≡ true = queue_of_some (is_queue o at) (occurs m.payload j + occurs (brings ms) j) (omega arith) front in
    is ∙ ap one_if (other_queue o at a queue e)
received_at false false self at a j m ms q o there e front is = is

-- a message is received
pub brought_received : (bs : List Block) (self at state : ℕ) (m : MessageHeld) (ms : List MessageHeld) → (block_at bs at).queue ≡ m ∷ ms → QueuesBring bs → QueuesBring (change_each (received_block self at state m ms) bs)
brought_received bs self at state m ms here is =
    let short : at < length bs = queue_there bs at m ms here in
    brought_by (received_block self at state m ms) bs
    (λ j h. ap (λ t. if t then Process self else Channel) (⊎_elim
    (λ t. absurd (
    let some : 0 < occurs m.payload j = some_occurs m.payload j t in
    let front : occurs m.payload j + occurs (brings ms) j ≡ one_if (is_queue (block_at bs j).owner at) = front_is bs at j m ms here is in
    let none : one_if (is_queue (block_at bs j).owner at) ≡ 0 = ap (λ (b : Block). one_if (is_queue b.owner at)) (past bs j h) in
    omega arith)) (λ f. f) (cases_Bool (is_among m.payload j))))
    (λ a h. ap (λ t. if t then ms else []) (eqb_apart a at (λ e. omega arith)))
    (λ a j. received_at (a == at) (is_among m.payload j) self at a j m ms (block_at bs a).queue (block_at bs j).owner refl refl (front_is bs at j m ms here is) (is.brings_are a j))

queue_added : (bs : List Block) (b : Block) (a : ℕ) → b.queue ≡ [] → (block_at (bs ++ b ∷ []) a).queue ≡ (block_at bs a).queue
queue_added [] b zero e = e
queue_added [] b (suc a) e = refl
queue_added (x ∷ bs) b zero e = refl
queue_added (x ∷ bs) b (suc a) e = queue_added bs b a e

owner_added : (bs : List Block) (b : Block) (j a : ℕ) → of_process b.owner ≡ true → is_queue (block_at (bs ++ b ∷ []) j).owner a ≡ is_queue (block_at bs j).owner a
owner_added [] b zero a own = no_queue b.owner a own
owner_added [] b (suc j) a own = refl
owner_added (x ∷ bs) b zero a own = refl
owner_added (x ∷ bs) b (suc j) a own = owner_added bs b j a own

-- a process has a new block
pub brought_added : (bs : List Block) (b : Block) → of_process b.owner ≡ true → b.queue ≡ [] → QueuesBring bs → QueuesBring (bs ++ b ∷ [])
brought_added bs b own empty is = record {
  brings_are = λ a j. ap (λ l. occurs (brings l) j) (queue_added bs b a empty) ∙ (is.brings_are a j ∙ ap one_if (sym (owner_added bs b j a own)));
}

-- a queue with a message
pub cons_of : (q : List MessageHeld) → 0 < length q → (m : MessageHeld) × (ms : List MessageHeld) × (q ≡ m ∷ ms)
cons_of [] some = absurd (omega arith)
cons_of (m ∷ ms) some = (m, ms, refl)
