-- Switch: the blocks after a message was taken.
use Rattle.std.proofs.Common.{◌≡◌, ◌≢◌, ◌==◌, ℕ, ◌+◌, ◌<◌, Bool, true, false, List, [], ◌∷◌, Some, length, refl, sym, ap, ◌∙◌, subst}
use Rattle.std.proofs.Common.{arith, inl, inr, ⊎_elim}
use Rattle.std.proofs.lemmas.Bool.{cases_Bool, cases_eq, cases_lt, eqb-true}
use Rattle.std.specs.Prelude.{◌⊎◌, slice_get, if◌then◌else◌}
use Rattle.program.specs.Lists.{is_among}
use Rattle.program.specs.Parts.{ContractModel}
use Rattle.program.specs.Programs.{ProgramModel}
use Rattle.program.specs.declared.types.HeapType.TheVariants.{Endpoint}
use Rattle.program.specs.declared.types.Side.{Side}
use Rattle.contracts.specs.Bounds.{sign_to}
use Rattle.contracts.specs.TwoEnds.{Leads}
use Rattle.rules.specs.Endpoints.{payload_types}
use Rattle.machine.specs.Blocks.{received_block}
use Rattle.machine.specs.Heaps.{FieldsHold}
use Rattle.machine.specs.World.{no_type, MessageHeld, Block, World, block_at, owns, is_freed_at, is_inside, is_process, is_queue, is_freed}
use Rattle.machine.specs.World.{is_empty}
use Rattle.machine.proofs.Holding.{held_same, process_no_queue, process_not_freed, process_not_inside, queue_not_freed, queue_not_inside}
use Rattle.machine.specs.World.{change_each}
use Rattle.machine.specs.declared.worlds.Owner.TheVariants.{Process, Queue, Inside, Channel, Freed}
use Rattle.machine.specs.declared.worlds.Owner.{Owner}
use Rattle.sound.specs.Operands.{stateless}
use Rattle.sound.proofs.Basics.{block_past, queue_no_process, changed_all}
use Rattle.sound.proofs.events.Giving.{in_given, not_in_given}
use Rattle.sound.proofs.Invariant.{one_if, BlocksFit, StaysCutOff, in_queue, AreBrought, ChannelsFit, standing_in, AreDeclared}
use Rattle.sound.proofs.Invariant.{FieldsDeclared}
use Rattle.sound.proofs.Kept.{AreKept, LiesInside, SameFields, all_fields_kept, brought_kept}
use Rattle.sound.proofs.Lists.{and_true, both_true}
use Rattle.sound.proofs.events.Moving.{is_alive, ends_take, channels_move}
use Rattle.sound.proofs.blocks.SentBlocks.{PeerIs, peer_is}
use Rattle.machine.proofs.CountLemmas.{one_or_none}
use Rattle.machine.proofs.HeldExchange.{one_if_true}
use Rattle.machine.proofs.ChangeLemmas.{changed_length, eqb_same, eqb_apart, true≢false}

queue_apart : (o : Owner) (a j : ℕ) → is_queue o a ≡ true → j ≢ a → is_queue o j ≡ false
queue_apart (Process n) a j e n2 = absurd (cc)
queue_apart (Queue n) a j e n2 = eqb_apart n j (λ s. n2 (sym s ∙ eqb-true n a e))
queue_apart (Inside n) a j e n2 = absurd (cc)
queue_apart Channel a j e n2 = absurd (cc)
queue_apart Freed a j e n2 = absurd (cc)

got_process : (has : Bool) (self q : ℕ) (o : Owner)
    → is_process (if has then Process self else o) q ≡ (if has then self == q else is_process o q)
got_process true self q o = refl
got_process false self q o = refl

module _ (p : ProgramModel) (w : World) (self : ℕ) (h : BlocksFit p w.blocks) (a state' : ℕ) (m : MessageHeld) (ms : List MessageHeld)
    (c : ℕ) (side : Side) (owned : owns w.blocks self a ≡ true) (within : a < length w.blocks)
    (ty : stateless (block_at w.blocks a).ty ≡ Endpoint record { 0 = c } side record { 0 = 0 })
    (was : (block_at w.blocks a).queue ≡ m ∷ ms)
    (leads : (x : ContractModel) → slice_get p.contracts c ≡ Some x
    → Leads x.parts.edges record { 0 = (block_at w.blocks a).state } record { 0 = m.message } (sign_to side) record { 0 = state' })
  where
    abbrev pub got : List Block
    got = change_each (received_block self a state' m ms) w.blocks

    abbrev to : ℕ
    to = (block_at w.blocks a).peer

    peer : PeerIs w.blocks a c side
    peer = peer_is p w.blocks a c side h.channels within ty

    counts : (x : ℕ) → standing_in x m.payload + in_queue x ms ≡ one_if (is_queue (block_at w.blocks x).owner a)
    counts x = sym (ap (in_queue x) was) ∙ h.queues a x

    queued : (x : ℕ) → is_among m.payload x ≡ true → is_queue (block_at w.blocks x).owner a ≡ true
    queued x e = let k = counts x in let some = in_given m.payload x e in one_if_true (is_queue (block_at w.blocks x).owner a) (omega arith)

    queued_within : (x : ℕ) → is_queue (block_at w.blocks x).owner a ≡ true → x < length w.blocks
    queued_within x o = ⊎_elim (λ e. e) (λ past. absurd
        (true≢false o (ap (λ (b : Block). is_queue b.owner a) (block_past w.blocks x past)))) (cases_lt x (length w.blocks))

    pub at : (j : ℕ) → block_at got j ≡ received_block self a state' m ms j (block_at w.blocks j)
    at j = changed_all (received_block self a state' m ms) w.blocks j (λ past.
        let e1 : is_among m.payload j ≡ false =
        ⊎_elim (λ t. absurd (let k = queued_within j (queued j t) in omega arith)) (λ f. f) (cases_Bool (is_among m.payload j)) in
        let e2 = eqb_apart j a (λ e. omega arith) in
        ap (λ (b : Bool). record {
          ty = no_type;
          owner = if b then Process self else Channel;
          peer = 0;
          state =
              if j == a then state' else 0;
          queue = if j == a then ms else [];
          fields = [];
        }) e1
        ∙ ap (λ (b : Bool). record {
          ty = no_type;
          owner = Channel;
          peer = 0;
          state = if b then state' else 0;
          queue =
              if b then ms else [];
          fields = [];
        }) e2)

    owner_now : (j : ℕ) → (block_at got j).owner ≡ (if is_among m.payload j then Process self else (block_at w.blocks j).owner)
    owner_now j = ap (λ (b : Block). b.owner) (at j)

    state_other : (j : ℕ) → j ≢ a → (block_at got j).state ≡ (block_at w.blocks j).state
    state_other j n = ap (λ (b : Block). b.state) (at j)
        ∙ ap (λ (b : Bool). if b then state' else (block_at w.blocks j).state) (eqb_apart j a n)

    pub state_mine : (block_at got a).state ≡ state'
    state_mine = ap (λ (b : Block). b.state) (at a)
        ∙ ap (λ (b : Bool). if b then state' else (block_at w.blocks a).state) (eqb_same a a refl)

    pub queue_other : (j : ℕ) → j ≢ a → (block_at got j).queue ≡ (block_at w.blocks j).queue
    queue_other j n = ap (λ (b : Block). b.queue) (at j)
        ∙ ap (λ (b : Bool). if b then ms else (block_at w.blocks j).queue) (eqb_apart j a n)

    queue_mine : (block_at got a).queue ≡ ms
    queue_mine = ap (λ (b : Block). b.queue) (at a) ∙ ap (λ (b : Bool). if b then ms else (block_at w.blocks a).queue) (eqb_same a a refl)

    freed_now : (j : ℕ) → is_freed_at got j ≡ is_freed_at w.blocks j
    freed_now j = ap is_freed (owner_now j) ∙ by (is_among m.payload j) refl
      where
        by : (b : Bool) → is_among m.payload j ≡ b → is_freed (if b then Process self else (block_at w.blocks j).owner) ≡ is_freed_at w.blocks j
        by true e = sym (queue_not_freed (block_at w.blocks j).owner a (queued j e))
        by false e = refl

    long_now : length got ≡ length w.blocks
    long_now = changed_length (received_block self a state' m ms) w.blocks

    pub cut_now : StaysCutOff w.blocks got
    cut_now = record {
      long = let e = long_now in omega arith;
      each = λ j short x.
          let k = and_true (is_freed_at w.blocks (block_at w.blocks j).peer) (is_empty (block_at w.blocks j).queue) x in
          both_true (is_freed_at got (block_at got j).peer) (is_empty (block_at got j).queue)
          (ap (is_freed_at got) (ap (λ (b : Block). b.peer) (at j)) ∙ (freed_now (block_at w.blocks j).peer ∙ k.0))
          (⊎_elim (λ e. absurd (true≢false k.1 (ap (λ (n : ℕ). is_empty (block_at w.blocks n).queue) e ∙ ap is_empty was)))
          (λ n. ap is_empty (queue_other j n) ∙ k.1) (cases_eq j a));
    }

    pub kept_now : (P : ℕ → Type 0) → ((j : ℕ) → P j → j ≢ a) → AreKept w.blocks got P
    kept_now P apart j some short =
        record {
          there = let e = long_now in omega arith;
          ty = ap (λ (b : Block). b.ty) (at j);
          state = inl
              (state_other j (apart j some));
        }

    pub channels_now : ChannelsFit p got
    channels_now = channels_move p w.blocks got a c side h.channels within ty
        (process_not_freed (block_at w.blocks a).owner self owned) long_now (λ j. ap (λ (b : Block). b.ty) (at j))
        (λ j. ap (λ (b : Block). b.peer) (at j))
        (λ j l. sym (freed_now j) ∙ l) state_other (λ j n1 n2. queue_other j n1)
        (λ x there e. ends_take p x side (block_at w.blocks a) (block_at w.blocks to) (block_at got a) (block_at got to)
        (is_alive w.blocks to) m ms state' e (leads x there) was state_mine queue_mine (state_other to peer.apart)
        (queue_other to peer.apart))

    mine_no_queue : (x j : ℕ) → is_among m.payload x ≡ true → is_queue (block_at got x).owner j ≡ false
    mine_no_queue x j e =
        ap (λ (o : Owner). is_queue o j) (owner_now x)
        ∙ ap (λ (b : Bool). is_queue (if b then Process self else (block_at w.blocks x).owner) j) e

    same_queue : (x j : ℕ) → is_among m.payload x ≡ false → is_queue (block_at got x).owner j ≡ is_queue (block_at w.blocks x).owner j
    same_queue x j e = ap (λ (o : Owner). is_queue o j) (owner_now x)
        ∙ ap (λ (b : Bool). is_queue (if b then Process self else (block_at w.blocks x).owner) j) e

    pub queues_now : (j x : ℕ) → in_queue x (block_at got j).queue ≡ one_if (is_queue (block_at got x).owner j)
    queues_now j x = by (is_among m.payload x) refl (cases_eq j a)
      where
        by : (b : Bool) → is_among m.payload x ≡ b → (j ≡ a) ⊎ (j ≡ a → ⊥)
            → in_queue x (block_at got j).queue ≡ one_if (is_queue (block_at got x).owner j)
        by true e (inl s) =
            let q : in_queue x (block_at got j).queue ≡ in_queue x ms =
            ap (λ (n : ℕ). in_queue x (block_at got n).queue) s ∙ ap (in_queue x) queue_mine in
            let k = counts x in
            let some = in_given m.payload x e in
            let most = one_or_none (is_queue (block_at w.blocks x).owner a) in
            let z : one_if (is_queue (block_at got x).owner j) ≡ 0 = ap one_if (mine_no_queue x j e) in
            omega arith
        by false e (inl s) =
            let q : in_queue x (block_at got j).queue ≡ in_queue x ms =
            ap (λ (n : ℕ). in_queue x (block_at got n).queue) s ∙ ap (in_queue x) queue_mine in
            let k = counts x in
            let none = not_in_given m.payload x e in
            let z : one_if (is_queue (block_at got x).owner j) ≡ one_if (is_queue (block_at w.blocks x).owner a) =
            ap one_if (same_queue x j e ∙ ap (is_queue (block_at w.blocks x).owner) s) in
            omega arith
        by true e (inr n) = ap (in_queue x) (queue_other j n)
            ∙ (h.queues j x ∙ (ap one_if (queue_apart (block_at w.blocks x).owner a j (queued x e) n)
            ∙ sym (ap one_if (mine_no_queue x j e))))
        by false e (inr n) = ap (in_queue x) (queue_other j n) ∙ (h.queues j x ∙ sym (ap one_if (same_queue x j e)))

    not_me : (j x : ℕ) → is_queue (block_at w.blocks x).owner j ≡ true → x ≢ a
    not_me j x q e = true≢false q (ap (λ (n : ℕ). is_queue (block_at w.blocks n).owner j) e
        ∙ process_no_queue (block_at w.blocks a).owner self j owned)

    -- what is inside which block is unchanged
    inside_now : (j b : ℕ) → is_inside (block_at got j).owner b ≡ is_inside (block_at w.blocks j).owner b
    inside_now j b = ap (λ (o : Owner). is_inside o b) (owner_now j) ∙ by (is_among m.payload j) refl
      where
        by : (t : Bool) → is_among m.payload j ≡ t
            → is_inside (if t then Process self else (block_at w.blocks j).owner) b ≡ is_inside (block_at w.blocks j).owner b
        by true e = sym (queue_not_inside (block_at w.blocks j).owner a b (queued j e))
        by false e = refl

    pub held_now : FieldsHold got
    held_now = held_same w.blocks got (λ j. ap (λ (b : Block). b.fields) (at j)) inside_now freed_now h.held

    pub fields_now : SameFields p w.blocks got
    fields_now = record {
      cut = cut_now;
      kept = kept_now (LiesInside w.blocks) (λ j k e. true≢false k.1 (ap (λ (n : ℕ). is_inside (block_at w.blocks n).owner k.0) e
          ∙ process_not_inside (block_at w.blocks a).owner self k.0 owned));
      types = λ j short. ap (λ (b : Block). b.ty) (at j);
      lives = λ j short l. sym (freed_now j) ∙ l;
      fields = λ j short l. ap (λ (b : Block). b.fields) (at j);
    }

    pub declared_now : FieldsDeclared p w.blocks → FieldsDeclared p got
    declared_now were = all_fields_kept p w.blocks got h.held fields_now long_now were

    queued_apart : (j x : ℕ) → 0 < in_queue x (block_at w.blocks j).queue → x ≢ a
    queued_apart j x some = not_me j x (one_if_true (is_queue (block_at w.blocks x).owner j) (subst (λ (n : ℕ). 0 < n) (h.queues j x) some))

    abbrev WereBrought : Type 0
    WereBrought = (j : ℕ) → AreBrought p w.blocks (block_at w.blocks j).queue

    old : WereBrought → (j : ℕ) → AreBrought p got (block_at w.blocks j).queue
    old were j = brought_kept p w.blocks got (block_at w.blocks j).queue cut_now
        (kept_now (λ x. 0 < in_queue x (block_at w.blocks j).queue) (queued_apart j)) (were j)

    both_parts : WereBrought → AreBrought p got (m ∷ ms)
    both_parts were = subst (λ (q : List MessageHeld). AreBrought p got q) was (old were a)

    pub typed : WereBrought → AreDeclared got (payload_types p m.message) m.payload
    typed were = (both_parts were).0

    pub brought_now : WereBrought → (j : ℕ) → AreBrought p got (block_at got j).queue
    brought_now were j = ⊎_elim (λ e. subst (λ (n : ℕ). AreBrought p got (block_at got n).queue) (sym e)
        (subst (λ (q : List MessageHeld). AreBrought p got q) (sym queue_mine) (both_parts were).1))
        (λ n. subst (λ (q : List MessageHeld). AreBrought p got q) (sym (queue_other j n)) (old were j)) (cases_eq j a)

    owns_now : (q j : ℕ) → owns got q j ≡ (if is_among m.payload j then self == q else owns w.blocks q j)
    owns_now q j = ap (λ (o : Owner). is_process o q) (owner_now j) ∙ got_process (is_among m.payload j) self q (block_at w.blocks j).owner

    pub others_now : (q j : ℕ) → q ≢ self → owns got q j ≡ owns w.blocks q j
    others_now q j n = owns_now q j ∙ by (is_among m.payload j) refl
      where
        by : (b : Bool) → is_among m.payload j ≡ b → (if b then self == q else owns w.blocks q j) ≡ owns w.blocks q j
        by true e = eqb_apart self q (λ s. n (sym s)) ∙ sym (queue_no_process (block_at w.blocks j).owner a q (queued j e))
        by false e = refl

    pub counted_now : (j before after : ℕ) → after ≡ before + standing_in j m.payload
        → after + one_if (owns w.blocks self j) ≡ before + one_if (owns got self j)
    counted_now j before after e = by (is_among m.payload j) refl
      where
        by : (b : Bool) → is_among m.payload j ≡ b → after + one_if (owns w.blocks self j) ≡ before + one_if (owns got self j)
        by true k =
            let some = in_given m.payload j k in
            let n = counts j in
            let most = one_or_none (is_queue (block_at w.blocks j).owner a) in
            let z1 : one_if (owns w.blocks self j) ≡ 0 = ap one_if (queue_no_process (block_at w.blocks j).owner a self (queued j k)) in
            let z2 : one_if (owns got self j) ≡ 1 =
            ap one_if (owns_now self j ∙ (ap (λ (b : Bool). if b then self == self else owns w.blocks self j) k
            ∙ eqb_same self self refl)) in
            omega arith
        by false k =
            let none = not_in_given m.payload j k in
            let z : one_if (owns got self j) ≡ one_if (owns w.blocks self j) =
            ap one_if (owns_now self j ∙ ap (λ (b : Bool). if b then self == self else owns w.blocks self j) k) in
            omega arith
