-- Blocks that are changed by their addresses.
use Rattle.std.proofs.Common.{◌≡◌, ◌≢◌, ◌==◌, ℕ, zero, suc, ◌+◌, ◌<◌, ◌≤◌, Bool, true, false, List, [], ◌∷◌, length, refl, sym, ap, ◌∙◌, arith, ⊎_elim, set, map, drop}
use Rattle.std.specs.Prelude.{nat_lt, get_or, if◌then◌else◌, ◌||◌, ◌++◌, ◌&&◌, not}
use Rattle.std.proofs.lemmas.Bool.{cases_Bool, cases_lt, ltb-true, ltb-false}
use Rattle.std.proofs.lemmas.Bool.Decides.{eqb_tells}
use Rattle.program.specs.Lists.{is_among}
use Rattle.machine.specs.Blocks.{with_new_owner, received_block, sent_block}
use Rattle.machine.specs.Answers.{in_state, left_in, with_message}
use Rattle.machine.specs.declared.worlds.Owner.TheVariants.{Process, Queue, Channel}
use Rattle.machine.specs.BlockViews.{block_model, blocks_model, held_model}
use Rattle.machine.specs.World.{Block, MessageHeld, block_at, change_each}
use Rattle.machine.specs.declared.worlds as made
use Rattle.machine.specs.declared.worlds.Owner.{Owner}

pub eqb_same : (a b : ℕ) → a ≡ b → (a == b) ≡ true
eqb_same a b e = ⊎_elim (λ h. h.0) (λ h. absurd (h.1 e)) (eqb_tells a b)

pub eqb_apart : (a b : ℕ) → a ≢ b → (a == b) ≡ false
eqb_apart a b n = ⊎_elim (λ h. absurd (n h.1)) (λ h. h.0) (eqb_tells a b)

pub true≢false : {b : Bool} → b ≡ true → b ≡ false → ⊥
true≢false t f = cc

pub ltb_true_of : (m n : ℕ) → m < n → nat_lt m n ≡ true
ltb_true_of m n h = ⊎_elim (λ e. e) (λ e. absurd (let k = ltb-false m n e in omega arith)) (cases_Bool (nat_lt m n))

pub changed_same : (f g : ℕ → Block → Block) → ((j : ℕ) (b : Block) → f j b ≡ g j b) → (bs : List Block) → change_each f bs ≡ change_each g bs
changed_same f g same [] = refl
changed_same f g same (b ∷ bs) =
    let one : f 0 b ≡ g 0 b = same 0 b in
    let more : change_each (λ a. f (suc a)) bs ≡ change_each (λ a. g (suc a)) bs = changed_same (λ a. f (suc a)) (λ a. g (suc a)) (λ j. same (suc j)) bs in
    cc

-- a change that leaves each block as it is
pub changed_none : (f : ℕ → Block → Block) → ((j : ℕ) (b : Block) → f j b ≡ b) → (bs : List Block) → change_each f bs ≡ bs
changed_none f same [] = refl
changed_none f same (b ∷ bs) =
    let one : f 0 b ≡ b = same 0 b in
    let more : change_each (λ a. f (suc a)) bs ≡ bs = changed_none (λ a. f (suc a)) (λ j. same (suc j)) bs in
    cc

-- two changes in sequence are one
pub changed_twice : (f g : ℕ → Block → Block) (bs : List Block) → change_each g (change_each f bs) ≡ change_each (λ j b. g j (f j b)) bs
changed_twice f g [] = refl
changed_twice f g (b ∷ bs) = ap (λ xs. g 0 (f 0 b) ∷ xs) (changed_twice (λ a. f (suc a)) (λ a. g (suc a)) bs)

-- a change of only one address is a write at that address
pub changed_set : (f : ℕ → Block → Block) (bs : List Block) (a : ℕ) → a < length bs → ((j : ℕ) (b : Block) → j ≢ a → f j b ≡ b) → set bs a (f a (block_at bs a)) ≡ change_each f bs
changed_set f [] a short same = refl
changed_set f (b ∷ bs) zero short same =
    ap (λ xs. f 0 b ∷ xs) (sym (changed_none (λ a. f (suc a)) (λ j c. same (suc j) c (λ e. omega arith)) bs))
changed_set f (b ∷ bs) (suc a) short same =
    let less : a < length bs = omega arith in
    let one : f 0 b ≡ b = same 0 b (λ e. omega arith) in
    let more : set bs a (f (suc a) (block_at bs a)) ≡ change_each (λ j. f (suc j)) bs = changed_set (λ j. f (suc j)) bs a less (λ j c apart. same (suc j) c (λ e. apart (omega arith))) in
    cc

-- a change of only an address past the end changes nothing
pub changed_past : (f : ℕ → Block → Block) (bs : List Block) (a : ℕ) → length bs ≤ a → ((j : ℕ) (b : Block) → j ≢ a → f j b ≡ b) → change_each f bs ≡ bs
changed_past f [] a past same = refl
changed_past f (b ∷ bs) zero past same = absurd (omega arith)
changed_past f (b ∷ bs) (suc a) past same =
    let more : length bs ≤ a = omega arith in
    let one : f 0 b ≡ b = same 0 b (λ e. omega arith) in
    let rest : change_each (λ j. f (suc j)) bs ≡ bs = changed_past (λ j. f (suc j)) bs a more (λ j c apart. same (suc j) c (λ e. apart (omega arith))) in
    cc

-- the change at addresses below i only
abbrev pub below_changed : (ℕ → Block → Block) → ℕ → ℕ → Block → Block
below_changed f i j b = if nat_lt j i then f j b else b

-- the change at address i only
abbrev pub only_changed : (ℕ → Block → Block) → ℕ → ℕ → Block → Block
only_changed f i j b = if j == i then f j b else b

pub only_set : (f : ℕ → Block → Block) (bs : List Block) (i : ℕ) → i < length bs → set bs i (f i (block_at bs i)) ≡ change_each (only_changed f i) bs
only_set f bs i short =
    let here : only_changed f i i (block_at bs i) ≡ f i (block_at bs i) = ap (λ t. if t then f i (block_at bs i) else (block_at bs i)) (eqb_same i i refl) in
    ap (set bs i) (sym here) ∙ changed_set (only_changed f i) bs i short (λ j b apart. ap (λ t. if t then f j b else b) (eqb_apart j i apart))

not_less : (m n : ℕ) → n ≤ m → nat_lt m n ≡ false
not_less m n h = ⊎_elim (λ e. absurd (let k : m < n = ltb-true m n e in omega arith)) (λ e. e) (cases_Bool (nat_lt m n))

further : (a b : ℕ) → a ≤ b → b ≢ a → a + 1 ≤ b
further a b h apart = ⊎_elim (λ e. absurd (apart (let k : b < a + 1 = e in omega arith))) (λ e. e) (cases_lt b (a + 1))

pub one_further : (f : ℕ → Block → Block) (i j : ℕ) (b : Block) → only_changed f i j (below_changed f i j b) ≡ below_changed f (i + 1) j b
one_further f i j b =
    ⊎_elim
    (λ h.
    let apart : (j == i) ≡ false = eqb_apart j i (λ e. omega arith) in
    let less : nat_lt j i ≡ true = ltb_true_of j i h in
    let more : nat_lt j (i + 1) ≡ true = ltb_true_of j (i + 1) (omega arith) in
    rw (apart, less, more) refl)
    (λ h.
    ⊎_elim
    (λ is.
    let same : (j == i) ≡ true = is.0 in
    let e : j ≡ i = is.1 in
    let less : nat_lt j i ≡ false = not_less j i (omega arith) in
    let more : nat_lt j (i + 1) ≡ true = ltb_true_of j (i + 1) (omega arith) in
    rw (same, less, more) refl)
    (λ is.
    let apart : (j == i) ≡ false = is.0 in
    let other : j ≢ i = is.1 in
    let less : nat_lt j i ≡ false = not_less j i h in
    let more : nat_lt j (i + 1) ≡ false = not_less j (i + 1) (further i j h other) in
    rw (apart, less, more) refl)
    (eqb_tells j i))
    (cases_lt j i)

pub seen_set : (bs : List made.Block.Block) (i : ℕ) (b : made.Block.Block) → blocks_model (set bs i b) ≡ set (blocks_model bs) i (block_model b)
seen_set [] i b = refl
seen_set (x ∷ bs) zero b = refl
seen_set (x ∷ bs) (suc i) b = ap (λ xs. block_model x ∷ xs) (seen_set bs i b)

pub seen_length : (bs : List made.Block.Block) → length (blocks_model bs) ≡ length bs
seen_length [] = refl
seen_length (x ∷ bs) = ap suc (seen_length bs)

pub seen_at : (bs : List made.Block.Block) (i : ℕ) (d : made.Block.Block) → i < length bs → block_at (blocks_model bs) i ≡ block_model (get_or bs i d)
seen_at [] i d short = absurd (omega arith)
seen_at (x ∷ bs) zero d short = refl
seen_at (x ∷ bs) (suc i) d short = let less : i < length bs = omega arith in seen_at bs i d less

-- a write at one address
pub written : (f : ℕ → Block → Block) (now : List made.Block.Block) (i : ℕ) (d b : made.Block.Block) → i < length now → block_model b ≡ f i (block_model (get_or now i d)) → blocks_model (set now i b) ≡ change_each (only_changed f i) (blocks_model now)
written f now i d b short is =
    let long : length (blocks_model now) ≡ length now = seen_length now in
    let at : block_at (blocks_model now) i ≡ block_model (get_or now i d) = seen_at now i d short in
    seen_set now i b ∙ (ap (set (blocks_model now) i) (is ∙ ap (f i) (sym at)) ∙ only_set f (blocks_model now) i (omega arith))

-- a loop over the blocks changed one more
pub scanned : (f : ℕ → Block → Block) (old : List Block) (now : List made.Block.Block) (i : ℕ) (d b : made.Block.Block) → i < length now → blocks_model now ≡ change_each (below_changed f i) old → block_model b ≡ f i (block_model (get_or now i d)) → blocks_model (set now i b) ≡ change_each (below_changed f (i + 1)) old
scanned f old now i d b short before is =
    written f now i d b short is
    ∙ (ap (change_each (only_changed f i)) before ∙ (changed_twice (below_changed f i) (only_changed f i) old ∙ changed_same (λ j x. only_changed f i j (below_changed f i j x)) (below_changed f (i + 1)) (one_further f i) old))

pub scan_begins : (f : ℕ → Block → Block) (old : List Block) → old ≡ change_each (below_changed f 0) old
scan_begins f old = sym (changed_none (below_changed f 0) (λ j b. ap (λ t. if t then f j b else b) (not_less j 0 (omega arith))) old)

pub changed_in : (f g : ℕ → Block → Block) (bs : List Block) → ((j : ℕ) (b : Block) → j < length bs → f j b ≡ g j b) → change_each f bs ≡ change_each g bs
changed_in f g [] same = refl
changed_in f g (b ∷ bs) same =
    let one : f 0 b ≡ g 0 b = same 0 b (omega arith) in
    let more : change_each (λ a. f (suc a)) bs ≡ change_each (λ a. g (suc a)) bs = changed_in (λ a. f (suc a)) (λ a. g (suc a)) bs (λ j c short. same (suc j) c (omega arith)) in
    cc

pub scan_ends : (f : ℕ → Block → Block) (old : List Block) (n : ℕ) → length old ≤ n → change_each (below_changed f n) old ≡ change_each f old
scan_ends f old n long = changed_in (below_changed f n) f old (λ j b short. ap (λ t. if t then f j b else b) (ltb_true_of j n (omega arith)))

-- ---- blocks that go to an owner
pub or_false : (b : Bool) → (b || false) ≡ b
or_false true = refl
or_false false = refl

pub handed_other : (to : Owner) (a j : ℕ) (b : Block) → j ≢ a → with_new_owner to (a ∷ []) j b ≡ b
handed_other to a j b apart = rw (eqb_apart a j (λ e. apart (sym e))) refl

pub hands_one : (to : Owner) (now : List made.Block.Block) (a : ℕ) (d b : made.Block.Block) → a < length now → block_model b ≡ with_new_owner to (a ∷ []) a (block_model (get_or now a d)) → blocks_model (set now a b) ≡ change_each (with_new_owner to (a ∷ [])) (blocks_model now)
hands_one to now a d b short is =
    written (with_new_owner to (a ∷ [])) now a d b short is
    ∙ changed_same (only_changed (with_new_owner to (a ∷ [])) a) (with_new_owner to (a ∷ [])) (λ j x. ⊎_elim (λ h. ap (λ t. if t then with_new_owner to (a ∷ []) j x else x) h.0) (λ h. ap (λ t. if t then with_new_owner to (a ∷ []) j x else x) h.0 ∙ sym (handed_other to a j x h.1)) (eqb_tells j a)) (blocks_model now)

pub hands_none : (to : Owner) (now : List made.Block.Block) (a : ℕ) → length now ≤ a → blocks_model now ≡ change_each (with_new_owner to (a ∷ [])) (blocks_model now)
hands_none to now a past =
    let long : length (blocks_model now) ≡ length now = seen_length now in
    sym (changed_past (with_new_owner to (a ∷ [])) (blocks_model now) a (omega arith) (handed_other to a))

pub handed_nothing : (to : Owner) (bs : List Block) → change_each (with_new_owner to []) bs ≡ bs
handed_nothing to bs = changed_none (with_new_owner to []) (λ j b. refl) bs

or_assoc : (r s t : Bool) → (r || (s || t)) ≡ ((r || s) || t)
or_assoc true s t = refl
or_assoc false s t = refl

pub among_append : (xs : List ℕ) (a n : ℕ) → is_among (xs ++ a ∷ []) n ≡ (is_among xs n || (is_among (a ∷ []) n))
among_append [] a n = refl
among_append (x ∷ xs) a n = ap (λ t. (x == n) || t) (among_append xs a n) ∙ or_assoc (x == n) (is_among xs n) (is_among (a ∷ []) n)

or_owner : (s t : Bool) (to was : Owner) → (if t then to else (if s then to else was)) ≡ (if s || t then to else was)
or_owner true true to was = refl
or_owner true false to was = refl
or_owner false true to was = refl
or_owner false false to was = refl

with_owner : Block → Owner → Block
with_owner b o = record { ty = b.ty; owner = o; peer = b.peer; state = b.state; queue = b.queue; fields = b.fields }

both : (to : Owner) (given : List ℕ) (a j : ℕ) (b : Block) → with_new_owner to (a ∷ []) j (with_new_owner to given j b) ≡ with_new_owner to (given ++ a ∷ []) j b
unfolding with_owner
both to given a j b = ap (with_owner b) (or_owner (is_among given j) (is_among (a ∷ []) j) to b.owner ∙ ap (λ t. if t then to else b.owner) (sym (among_append given a j)))

pub handed_more : (to : Owner) (given : List ℕ) (a : ℕ) (old : List Block) → change_each (with_new_owner to (a ∷ [])) (change_each (with_new_owner to given) old) ≡ change_each (with_new_owner to (given ++ a ∷ [])) old
handed_more to given a old = changed_twice (with_new_owner to given) (with_new_owner to (a ∷ [])) old ∙ changed_same (λ j b. with_new_owner to (a ∷ []) j (with_new_owner to given j b)) (with_new_owner to (given ++ a ∷ [])) (λ j b. both to given a j b) old

among_both : (xs ys : List ℕ) (n : ℕ) → is_among (xs ++ ys) n ≡ (is_among xs n || (is_among ys n))
among_both [] ys n = refl
among_both (x ∷ xs) ys n = ap (λ t. (x == n) || t) (among_both xs ys n) ∙ or_assoc (x == n) (is_among xs n) (is_among ys n)

both_lists : (to : Owner) (xs ys : List ℕ) (j : ℕ) (b : Block) → with_new_owner to ys j (with_new_owner to xs j b) ≡ with_new_owner to (xs ++ ys) j b
unfolding with_owner
both_lists to xs ys j b = ap (with_owner b) (or_owner (is_among xs j) (is_among ys j) to b.owner ∙ ap (λ t. if t then to else b.owner) (sym (among_both xs ys j)))

pub handed_both : (to : Owner) (xs ys : List ℕ) (old : List Block) → change_each (with_new_owner to ys) (change_each (with_new_owner to xs) old) ≡ change_each (with_new_owner to (xs ++ ys)) old
handed_both to xs ys old = changed_twice (with_new_owner to xs) (with_new_owner to ys) old ∙ changed_same (λ j b. with_new_owner to ys j (with_new_owner to xs j b)) (with_new_owner to (xs ++ ys)) (λ j b. both_lists to xs ys j b) old

pub changed_length : (f : ℕ → Block → Block) (bs : List Block) → length (change_each f bs) ≡ length bs
changed_length f [] = refl
changed_length f (b ∷ bs) = ap suc (changed_length (λ a. f (suc a)) bs)

pub same_length : (f : ℕ → Block → Block) (now old : List made.Block.Block) → blocks_model now ≡ change_each f (blocks_model old) → length now ≡ length old
same_length f now old e = sym (seen_length now) ∙ (ap length e ∙ (changed_length f (blocks_model old) ∙ seen_length old))

pub handed_at : (to : Owner) (a : ℕ) (b : Block) → with_new_owner to (a ∷ []) a b ≡ record { ty = b.ty; owner = to; peer = b.peer; state = b.state; queue = b.queue; fields = b.fields }
handed_at to a b = rw (eqb_same a a refl) refl

-- ---- a message that is sent
not_gone : (b : Bool) → (b && not false) ≡ b
not_gone true = refl
not_gone false = refl

gone_none : (b : Bool) → (b && not true) ≡ false
gone_none true = refl
gone_none false = refl

abbrev pub the_sent : Block → Owner → ℕ → List MessageHeld → Block
the_sent b owner state queue = record { ty = b.ty; owner = owner; peer = b.peer; state = state; queue = queue; fields = b.fields }

sent_one : (a state to : ℕ) (m : MessageHeld) (j : ℕ) (b : Block) → in_state a state j (with_new_owner (Queue to) m.payload j (with_message to m j b)) ≡ sent_block a state to false m j b
sent_one a state to m j b = ap (λ t. the_sent b (if is_among m.payload j then Queue to else b.owner) (if j == a then state else b.state) (if t then b.queue ++ m ∷ [] else b.queue)) (sym (not_gone (j == to)))

lost_one : (a state to : ℕ) (m : MessageHeld) (j : ℕ) (b : Block) → in_state a state j (with_new_owner Channel m.payload j b) ≡ sent_block a state to true m j b
lost_one a state to m j b = ap (λ t. the_sent b (if is_among m.payload j then Channel else b.owner) (if j == a then state else b.state) (if t then b.queue ++ m ∷ [] else b.queue)) (sym (gone_none (j == to)))

pub sent_is : (a state to : ℕ) (m : MessageHeld) (bs : List Block) → change_each (in_state a state) (change_each (with_new_owner (Queue to) m.payload) (change_each (with_message to m) bs)) ≡ change_each (sent_block a state to false m) bs
sent_is a state to m bs =
    ap (change_each (in_state a state)) (changed_twice (with_message to m) (with_new_owner (Queue to) m.payload) bs)
    ∙ (changed_twice (λ j b. with_new_owner (Queue to) m.payload j (with_message to m j b)) (in_state a state) bs
    ∙ changed_same (λ j b. in_state a state j (with_new_owner (Queue to) m.payload j (with_message to m j b))) (sent_block a state to false m) (sent_one a state to m) bs)

pub lost_is : (a state to : ℕ) (m : MessageHeld) (bs : List Block) → change_each (in_state a state) (change_each (with_new_owner Channel m.payload) bs) ≡ change_each (sent_block a state to true m) bs
lost_is a state to m bs =
    changed_twice (with_new_owner Channel m.payload) (in_state a state) bs
    ∙ changed_same (λ j b. in_state a state j (with_new_owner Channel m.payload j b)) (sent_block a state to true m) (lost_one a state to m) bs

-- ---- one address alone
pub edits : (f : ℕ → Block → Block) (a : ℕ) → ((j : ℕ) (b : Block) → j ≢ a → f j b ≡ b) → (now : List made.Block.Block) (d b : made.Block.Block) → a < length now → d ≡ get_or now a d → block_model b ≡ f a (block_model d) → blocks_model (set now a b) ≡ change_each f (blocks_model now)
edits f a same now d b short at is =
    written f now a d b short (is ∙ ap (λ x. f a (block_model x)) at)
    ∙ changed_same (only_changed f a) f (λ j x. ⊎_elim (λ h. ap (λ t. if t then f j x else x) h.0) (λ h. ap (λ t. if t then f j x else x) h.0 ∙ sym (same j x h.1)) (eqb_tells j a)) (blocks_model now)

pub edits_none : (f : ℕ → Block → Block) (a : ℕ) → ((j : ℕ) (b : Block) → j ≢ a → f j b ≡ b) → (now : List made.Block.Block) → length now ≤ a → blocks_model now ≡ change_each f (blocks_model now)
edits_none f a same now past =
    let long : length (blocks_model now) ≡ length now = seen_length now in
    sym (changed_past f (blocks_model now) a (omega arith) same)

pub state_other : (a state j : ℕ) (b : Block) → j ≢ a → in_state a state j b ≡ b
state_other a state j b apart = rw (eqb_apart j a apart) refl

pub state_at : (a state : ℕ) (b : Block) → in_state a state a b ≡ the_sent b b.owner state b.queue
state_at a state b = ap (λ t. the_sent b b.owner (if t then state else b.state) b.queue) (eqb_same a a refl)

pub queued_other : (to : ℕ) (m : MessageHeld) (j : ℕ) (b : Block) → j ≢ to → with_message to m j b ≡ b
queued_other to m j b apart = rw (eqb_apart j to apart) refl

pub queued_at : (to : ℕ) (m : MessageHeld) (b : Block) → with_message to m to b ≡ the_sent b b.owner b.state (b.queue ++ m ∷ [])
queued_at to m b = ap (λ t. the_sent b b.owner b.state (if t then b.queue ++ m ∷ [] else b.queue)) (eqb_same to to refl)

-- ---- a message that is received
pub left_other : (a : ℕ) (ms : List MessageHeld) (j : ℕ) (b : Block) → j ≢ a → left_in a ms j b ≡ b
left_other a ms j b apart = rw (eqb_apart j a apart) refl

pub left_at : (a : ℕ) (ms : List MessageHeld) (b : Block) → left_in a ms a b ≡ the_sent b b.owner b.state ms
left_at a ms b = ap (λ t. the_sent b b.owner b.state (if t then ms else b.queue)) (eqb_same a a refl)

pub behind_front : (xs : List made.Held.Held) (m : MessageHeld) (ms : List MessageHeld) → map held_model xs ≡ m ∷ ms → map held_model (drop 1 xs) ≡ ms
behind_front [] m ms is = absurd (cc)
behind_front (x ∷ xs) m ms is = cc

pub received_is : (self a state : ℕ) (m : MessageHeld) (ms : List MessageHeld) (bs : List Block) → change_each (in_state a state) (change_each (with_new_owner (Process self) m.payload) (change_each (left_in a ms) bs)) ≡ change_each (received_block self a state m ms) bs
received_is self a state m ms bs =
    ap (change_each (in_state a state)) (changed_twice (left_in a ms) (with_new_owner (Process self) m.payload) bs)
    ∙ changed_twice (λ j b. with_new_owner (Process self) m.payload j (left_in a ms j b)) (in_state a state) bs
