-- Send: the blocks after it.
use Rattle.std.proofs.Common.{◌≡◌, ◌≢◌, ◌==◌, ◌&&◌, ℕ, ◌+◌, ◌<◌, Bool, true, false, not, List, [], ◌∷◌, ◌++◌, Some, length, refl, sym, ap}
use Rattle.std.proofs.Common.{◌∙◌, subst, arith, inl, inr, ⊎_elim}
use Rattle.std.proofs.lemmas.Bool.{cases_Bool, cases_eq}
use Rattle.std.specs.Prelude.{◌⊎◌, slice_get, if◌then◌else◌}
use Rattle.program.specs.Lists.{is_among}
use Rattle.program.specs.Parts.{ContractModel}
use Rattle.program.specs.Programs.{ProgramModel}
use Rattle.program.specs.declared.types.HeapType.TheVariants.{Endpoint}
use Rattle.program.specs.declared.types.Side.TheVariants.{Imp, Exp}
use Rattle.program.specs.declared.types.Side.{Side}
use Rattle.contracts.specs.Leaving.{sign_from}
use Rattle.contracts.specs.TwoEnds.{Leads}
use Rattle.rules.specs.Endpoints.{payload_types}
use Rattle.machine.specs.Blocks.{sent_block}
use Rattle.machine.specs.Heaps.{FieldsHold}
use Rattle.machine.specs.World.{no_type, MessageHeld, Block, World, block_at, owns, is_freed_at, cut_off, is_inside, is_process, is_queue}
use Rattle.machine.specs.World.{is_freed}
use Rattle.machine.proofs.Holding.{held_same, process_no_queue, process_not_freed, process_not_inside, owned_there}
use Rattle.machine.specs.World.{is_empty, change_each}
use Rattle.machine.specs.declared.worlds.Owner.TheVariants.{Process, Queue, Inside, Channel, Freed}
use Rattle.machine.specs.declared.worlds.Owner.{Owner}
use Rattle.sound.specs.Operands.{stateless}
use Rattle.sound.proofs.Basics.{process_apart, changed_all}
use Rattle.sound.proofs.Invariant.{one_if, BlocksFit, StaysCutOff, in_queue, AreBrought, ChannelsFit, standing_in, AreDeclared}
use Rattle.sound.proofs.Invariant.{FieldsDeclared}
use Rattle.sound.proofs.Kept.{AreKept, LiesInside, SameFields, all_fields_kept, brought_kept}
use Rattle.sound.proofs.Lists.{and_true, both_true, each_append}
use Rattle.sound.proofs.events.Moving.{EndsAre, is_alive, ends_send, channels_move, type_apart, end_at}
use Rattle.sound.specs.Queues.{other}
use Rattle.machine.proofs.HeldExchange.{one_if_true}
use Rattle.machine.proofs.ChangeLemmas.{changed_length, eqb_same, eqb_apart, true≢false}
use Rattle.rules.proofs.TransferLemmas.{of_not}

-- the peer of an end
pub record PeerIs (bs : List Block) (a c : ℕ) (side : Side) : Type 0 where
  pub there : (block_at bs a).peer < length bs
  pub ty : stateless (block_at bs (block_at bs a).peer).ty ≡ Endpoint record { 0 = c } (other side) record { 0 = 0 }
  pub back : (block_at bs (block_at bs a).peer).peer ≡ a
  pub apart : (block_at bs a).peer ≢ a

pub peer_is : (p : ProgramModel) (bs : List Block) (a c : ℕ) (side : Side) → ChannelsFit p bs → a < length bs
    → stateless (block_at bs a).ty ≡ Endpoint record { 0 = c } side record { 0 = 0 } → PeerIs bs a c side
peer_is p bs a c Imp h within ty =
    let k = h.imp a c within ty in
    let to_type = ap (λ (n : ℕ). stateless (block_at bs n).ty) k.peer_is ∙ k.peer_type in
    record {
      there = subst (λ (n : ℕ). n < length bs) (sym k.peer_is) k.peer_there;
      ty = to_type;
      back = ap (λ (n : ℕ). (block_at bs n).peer) k.peer_is ∙ k.back;
      apart = λ e. type_apart (block_at bs a).ty c c ty (ap (λ (n : ℕ). stateless (block_at bs n).ty) (sym e) ∙ to_type);
    }
peer_is p bs a c Exp h within ty =
    let k = h.exp a c within ty in
    let to_type = ap (λ (n : ℕ). stateless (block_at bs n).ty) k.peer_is ∙ k.peer_type in
    record {
      there = subst (λ (n : ℕ). n < length bs) (sym k.peer_is) k.peer_there;
      ty = to_type;
      back = ap (λ (n : ℕ). (block_at bs n).peer) k.peer_is ∙ k.back;
      apart = λ e. type_apart (block_at bs a).ty c c (ap (λ (n : ℕ). stateless (block_at bs n).ty) (sym e) ∙ to_type) ty;
    }

pub in_queue_more : (x : ℕ) (q : List MessageHeld) (m : MessageHeld) → in_queue x (q ++ m ∷ []) ≡ in_queue x q + standing_in x m.payload
in_queue_more x [] m = omega arith
in_queue_more x (y ∷ q) m = let e = in_queue_more x q m in omega arith

abbrev handed_to : Bool → ℕ → Owner
handed_to gone to = if gone then Channel else Queue to

handed_process : (has gone : Bool) (to q : ℕ) (o : Owner) → is_process (if has then handed_to gone to else o) q ≡ not has && is_process o q
handed_process true true to q o = refl
handed_process true false to q o = refl
handed_process false gone to q o = refl

handed_inside : (gone : Bool) (to b : ℕ) → is_inside (handed_to gone to) b ≡ false
handed_inside true to b = refl
handed_inside false to b = refl

handed_freed : (has gone : Bool) (to : ℕ) (o : Owner) → is_freed (if has then handed_to gone to else o) ≡ not has && is_freed o
handed_freed true true to o = refl
handed_freed true false to o = refl
handed_freed false gone to o = refl

module _ (p : ProgramModel) (w : World) (self : ℕ) (h : BlocksFit p w.blocks) (a state' : ℕ) (m : MessageHeld) (c : ℕ) (side : Side)
    (owned : owns w.blocks self a ≡ true) (within : a < length w.blocks)
    (ty : stateless (block_at w.blocks a).ty ≡ Endpoint record { 0 = c } side record { 0 = 0 })
    (mine : (x : ℕ) → is_among m.payload x ≡ true → owns w.blocks self x ≡ true)
    (once : (x : ℕ) → standing_in x m.payload ≡ one_if (is_among m.payload x))
    (moves : (x : ContractModel) → slice_get p.contracts c ≡ Some x
    → ((cut_off w.blocks a ≡ true) × (state' ≡ (block_at w.blocks a).state))
    ⊎ Leads x.parts.edges record { 0 = (block_at w.blocks a).state } record { 0 = m.message } (sign_from side) record { 0 = state' })
  where
    abbrev to : ℕ
    to = (block_at w.blocks a).peer

    abbrev gone : Bool
    gone = is_freed_at w.blocks to

    abbrev pub sent : List Block
    sent = change_each (sent_block a state' to gone m) w.blocks

    pub peer : PeerIs w.blocks a c side
    peer = peer_is p w.blocks a c side h.channels within ty

    pub at : (j : ℕ) → block_at sent j ≡ sent_block a state' to gone m j (block_at w.blocks j)
    at j = changed_all (sent_block a state' to gone m) w.blocks j (λ past.
        let e1 : is_among m.payload j ≡ false =
        ⊎_elim (λ t. absurd (let k = owned_there w.blocks self j (mine j t) in omega arith)) (λ f. f)
        (cases_Bool (is_among m.payload j)) in
        let e2 = eqb_apart j a (λ e. omega arith) in
        let e3 = eqb_apart j to (λ e. let t = peer.there in omega arith) in
        ap (λ (b : Bool). record {
          ty = no_type;
          owner = if b then handed_to gone to else Channel;
          peer = 0;
          state =
              if j == a then state' else 0;
          queue = if (j == to) && not gone then [] ++ m ∷ [] else [];
          fields = [];
        }) e1
        ∙ (ap (λ (b : Bool). record {
          ty = no_type;
          owner = Channel;
          peer = 0;
          state = if b then state' else 0;
          queue =
              if (j == to) && not gone then [] ++ m ∷ [] else [];
          fields = [];
        }) e2
        ∙ ap (λ (b : Bool). record {
          ty = no_type;
          owner = Channel;
          peer = 0;
          state = 0;
          queue =
              if b && not gone then [] ++ m ∷ [] else [];
          fields = [];
        }) e3))

    owner_now : (j : ℕ) → (block_at sent j).owner ≡ (if is_among m.payload j then handed_to gone to else (block_at w.blocks j).owner)
    owner_now j = ap (λ (b : Block). b.owner) (at j)

    state_other : (j : ℕ) → j ≢ a → (block_at sent j).state ≡ (block_at w.blocks j).state
    state_other j n = ap (λ (b : Block). b.state) (at j)
        ∙ ap (λ (b : Bool). if b then state' else (block_at w.blocks j).state) (eqb_apart j a n)

    pub state_mine : (block_at sent a).state ≡ state'
    state_mine = ap (λ (b : Block). b.state) (at a)
        ∙ ap (λ (b : Bool). if b then state' else (block_at w.blocks a).state) (eqb_same a a refl)

    pub queue_other : (j : ℕ) → j ≢ to → (block_at sent j).queue ≡ (block_at w.blocks j).queue
    queue_other j n = ap (λ (b : Block). b.queue) (at j)
        ∙ ap (λ (b : Bool). if b && not gone then (block_at w.blocks j).queue ++ m ∷ [] else (block_at w.blocks j).queue) (eqb_apart j to n)

    queue_gone : (j : ℕ) → gone ≡ true → (block_at sent j).queue ≡ (block_at w.blocks j).queue
    queue_gone j g = ap (λ (b : Block). b.queue) (at j)
        ∙ (ap (λ (b : Bool). if (j == to) && not b then (block_at w.blocks j).queue ++ m ∷ [] else (block_at w.blocks j).queue) g
        ∙ by (j == to))
      where
        by : (b : Bool) → (if b && false then (block_at w.blocks j).queue ++ m ∷ [] else (block_at w.blocks j).queue) ≡
            (block_at w.blocks j).queue
        by true = refl
        by false = refl

    queue_to : gone ≡ false → (block_at sent to).queue ≡ (block_at w.blocks to).queue ++ m ∷ []
    queue_to g = ap (λ (b : Block). b.queue) (at to)
        ∙ (ap (λ (b : Bool). if (to == to) && not b then (block_at w.blocks to).queue ++ m ∷ [] else (block_at w.blocks to).queue) g
        ∙ ap (λ (b : Bool). if b && true then (block_at w.blocks to).queue ++ m ∷ [] else (block_at w.blocks to).queue)
        (eqb_same to to refl))

    freed_now : (j : ℕ) → is_freed_at sent j ≡ is_freed_at w.blocks j
    freed_now j = ap is_freed (owner_now j) ∙ (handed_freed (is_among m.payload j) gone to (block_at w.blocks j).owner
        ∙ by (is_among m.payload j) refl)
      where
        by : (b : Bool) → is_among m.payload j ≡ b → not b && is_freed_at w.blocks j ≡ is_freed_at w.blocks j
        by true e = sym (process_not_freed (block_at w.blocks j).owner self (mine j e))
        by false e = refl

    long_now : length sent ≡ length w.blocks
    long_now = changed_length (sent_block a state' to gone m) w.blocks

    pub cut_now : StaysCutOff w.blocks sent
    cut_now = record {
      long = let e = long_now in omega arith;
      each = λ j short x.
          let k = and_true (is_freed_at w.blocks (block_at w.blocks j).peer) (is_empty (block_at w.blocks j).queue) x in
          let pj : (block_at sent j).peer ≡ (block_at w.blocks j).peer = ap (λ (b : Block). b.peer) (at j) in
          both_true (is_freed_at sent (block_at sent j).peer) (is_empty (block_at sent j).queue)
          (ap (is_freed_at sent) pj ∙ (freed_now (block_at w.blocks j).peer ∙ k.0))
          (⊎_elim
          (λ e. absurd (true≢false k.0 (ap (λ (n : ℕ). is_freed_at w.blocks (block_at w.blocks n).peer) e
          ∙ (ap (is_freed_at w.blocks) peer.back ∙ process_not_freed (block_at w.blocks a).owner self owned))))
          (λ n. ap is_empty (queue_other j n) ∙ k.1) (cases_eq j to));
    }

    pub kept_now : (P : ℕ → Type 0) → ((j : ℕ) → P j → j ≢ a) → AreKept w.blocks sent P
    kept_now P apart j some short =
        record {
          there = let e = long_now in omega arith;
          ty = ap (λ (b : Block). b.ty) (at j);
          state = inl
              (state_other j (apart j some));
        }

    alive : is_freed_at w.blocks a ≡ false
    alive = process_not_freed (block_at w.blocks a).owner self owned

    pub channels_now : ChannelsFit p sent
    channels_now = channels_move p w.blocks sent a c side h.channels within ty alive long_now (λ j. ap (λ (b : Block). b.ty) (at j))
        (λ j. ap (λ (b : Block). b.peer) (at j)) (λ j l. sym (freed_now j) ∙ l)
        state_other (λ j n1 n2. queue_other j n2) moved
      where
        moved : (x : ContractModel) → slice_get p.contracts c ≡ Some x
            → EndsAre p x side (block_at w.blocks a) (is_alive w.blocks to) (block_at w.blocks to)
            → EndsAre p x side (block_at sent a) (is_alive w.blocks to) (block_at sent to)
        moved x there e = ⊎_elim
            (λ k. record {
              n = e.n;
              ends = e.ends;
              moves = e.moves;
              mine = end_at e.ends side (block_at w.blocks a) (block_at sent a) (state_mine ∙ k.1)
                  (queue_other a (λ s. peer.apart (sym s))) e.mine;
              theirs = λ l. absurd (true≢false (and_true (is_freed_at w.blocks to) (is_empty (block_at w.blocks a).queue) k.0).0
                  (of_not (is_freed_at w.blocks to) l));
            })
            (λ leads. ends_send p x side (block_at w.blocks a) (block_at w.blocks to) (block_at sent a) (block_at sent to)
            (is_alive w.blocks to) m state' e leads state_mine (queue_other a (λ s. peer.apart (sym s)))
            (state_other to peer.apart) (λ l. queue_to (of_not (is_freed_at w.blocks to) l))) (moves x there)

    given_no_queue : (x j : ℕ) → is_among m.payload x ≡ true → is_queue (block_at w.blocks x).owner j ≡ false
    given_no_queue x j e = process_no_queue (block_at w.blocks x).owner self j (mine x e)

    pub queues_now : (j x : ℕ) → in_queue x (block_at sent j).queue ≡ one_if (is_queue (block_at sent x).owner j)
    queues_now j x = by gone refl (is_among m.payload x) refl
      where
        owner_is : (g b : Bool) → gone ≡ g → is_among m.payload x ≡ b
            → is_queue (block_at sent x).owner j ≡ is_queue (if b then handed_to g to else (block_at w.blocks x).owner) j
        owner_is g b e f = ap (λ (o : Owner). is_queue o j) (owner_now x)
            ∙ (ap (λ (k : Bool). is_queue (if is_among m.payload x then handed_to k to else (block_at w.blocks x).owner) j) e
            ∙ ap (λ (k : Bool). is_queue (if k then handed_to g to else (block_at w.blocks x).owner) j) f)

        by : (g : Bool) → gone ≡ g → (b : Bool) → is_among m.payload x ≡ b
            → in_queue x (block_at sent j).queue ≡ one_if (is_queue (block_at sent x).owner j)
        by true e true f = ap (in_queue x) (queue_gone j e)
            ∙ (h.queues j x ∙ (ap one_if (given_no_queue x j f) ∙ sym (ap one_if (owner_is true true e f))))
        by true e false f = ap (in_queue x) (queue_gone j e) ∙ (h.queues j x ∙ sym (ap one_if (owner_is true false e f)))
        by false e b f = ⊎_elim
            (λ s.
            let q : in_queue x (block_at sent j).queue ≡ in_queue x (block_at w.blocks to).queue + standing_in x m.payload =
            ap (λ (n : ℕ). in_queue x (block_at sent n).queue) s
            ∙ (ap (in_queue x) (queue_to e) ∙ in_queue_more x (block_at w.blocks to).queue m) in
            let was = h.queues to x in
            let n1 = once x in
            it s b f q was n1)
            (λ n. ap (in_queue x) (queue_other j n) ∙ (h.queues j x ∙ other_queue n b f)) (cases_eq j to)
          where
            it : j ≡ to → (b : Bool) → is_among m.payload x ≡ b
                → in_queue x (block_at sent j).queue ≡ in_queue x (block_at w.blocks to).queue + standing_in x m.payload
                → in_queue x (block_at w.blocks to).queue ≡ one_if (is_queue (block_at w.blocks x).owner to)
                → standing_in x m.payload ≡ one_if (is_among m.payload x)
                → in_queue x (block_at sent j).queue ≡ one_if (is_queue (block_at sent x).owner j)
            it s true f q was n1 =
                let z1 : one_if (is_queue (block_at w.blocks x).owner to) ≡ 0 = ap one_if (given_no_queue x to f) in
                let z2 : one_if (is_among m.payload x) ≡ 1 = ap one_if f in
                let z3 : one_if (is_queue (block_at sent x).owner j) ≡ 1 = ap one_if (owner_is false true e f ∙ eqb_same to j (sym s)) in
                omega arith
            it s false f q was n1 =
                let z2 : one_if (is_among m.payload x) ≡ 0 = ap one_if f in
                let z3 : one_if (is_queue (block_at sent x).owner j) ≡ one_if (is_queue (block_at w.blocks x).owner to) =
                ap one_if (owner_is false false e f ∙ ap (is_queue (block_at w.blocks x).owner) s) in
                omega arith

            other_queue : j ≢ to → (b : Bool) → is_among m.payload x ≡ b
                → one_if (is_queue (block_at w.blocks x).owner j) ≡ one_if (is_queue (block_at sent x).owner j)
            other_queue n true f =
                ap one_if (given_no_queue x j f ∙ (sym (eqb_apart to j (λ s. n (sym s))) ∙ sym (owner_is false true e f)))
            other_queue n false f = sym (ap one_if (owner_is false false e f))

    -- what is inside which block is unchanged
    inside_now : (j b : ℕ) → is_inside (block_at sent j).owner b ≡ is_inside (block_at w.blocks j).owner b
    inside_now j b = ap (λ (o : Owner). is_inside o b) (owner_now j) ∙ by (is_among m.payload j) refl
      where
        by : (t : Bool) → is_among m.payload j ≡ t
            → is_inside (if t then handed_to gone to else (block_at w.blocks j).owner) b ≡ is_inside (block_at w.blocks j).owner b
        by true e = handed_inside gone to b ∙ sym (process_not_inside (block_at w.blocks j).owner self b (mine j e))
        by false e = refl

    pub held_now : FieldsHold sent
    held_now = held_same w.blocks sent (λ j. ap (λ (b : Block). b.fields) (at j)) inside_now freed_now h.held

    pub fields_now : SameFields p w.blocks sent
    fields_now = record {
      cut = cut_now;
      kept = kept_now (LiesInside w.blocks) (λ j k e. true≢false k.1 (ap (λ (n : ℕ). is_inside (block_at w.blocks n).owner k.0) e
          ∙ process_not_inside (block_at w.blocks a).owner self k.0 owned));
      types = λ j short. ap (λ (b : Block). b.ty) (at j);
      lives = λ j short l. sym (freed_now j) ∙ l;
      fields = λ j short l. ap (λ (b : Block). b.fields) (at j);
    }

    pub declared_now : FieldsDeclared p w.blocks → FieldsDeclared p sent
    declared_now were = all_fields_kept p w.blocks sent h.held fields_now long_now were

    queued_apart : (j x : ℕ) → 0 < in_queue x (block_at w.blocks j).queue → x ≢ a
    queued_apart j x some e =
        let one : is_queue (block_at w.blocks x).owner j ≡ true =
        one_if_true (is_queue (block_at w.blocks x).owner j) (subst (λ (n : ℕ). 0 < n) (h.queues j x) some) in
        true≢false one (ap (λ (n : ℕ). is_queue (block_at w.blocks n).owner j) e
        ∙ process_no_queue (block_at w.blocks a).owner self j owned)

    pub brought_now : ((j : ℕ) → AreBrought p w.blocks (block_at w.blocks j).queue) → AreDeclared sent (payload_types p m.message) m.payload
        → (j : ℕ) → AreBrought p sent (block_at sent j).queue
    brought_now were typed j = by gone refl (cases_eq j to)
      where
        old : (n : ℕ) → AreBrought p sent (block_at w.blocks n).queue
        old n = brought_kept p w.blocks sent (block_at w.blocks n).queue cut_now
            (kept_now (λ x. 0 < in_queue x (block_at w.blocks n).queue) (queued_apart n)) (were n)

        by : (g : Bool) → gone ≡ g → (j ≡ to) ⊎ (j ≡ to → ⊥) → AreBrought p sent (block_at sent j).queue
        by true e s = subst (λ (q : List MessageHeld). AreBrought p sent q) (sym (queue_gone j e)) (old j)
        by false e (inr n) = subst (λ (q : List MessageHeld). AreBrought p sent q) (sym (queue_other j n)) (old j)
        by false e (inl s) = subst (λ (n : ℕ). AreBrought p sent (block_at sent n).queue) (sym s)
            (subst (λ (q : List MessageHeld). AreBrought p sent q) (sym (queue_to e))
            (each_append (λ y. AreDeclared sent (payload_types p y.message) y.payload) (block_at w.blocks to).queue (m ∷ []) (old to)
            (typed, tt)))

    owns_now : (q j : ℕ) → owns sent q j ≡ not (is_among m.payload j) && owns w.blocks q j
    owns_now q j = ap (λ (o : Owner). is_process o q) (owner_now j)
        ∙ handed_process (is_among m.payload j) gone to q (block_at w.blocks j).owner

    pub others_now : (q j : ℕ) → q ≢ self → owns sent q j ≡ owns w.blocks q j
    others_now q j n = owns_now q j ∙ by (is_among m.payload j) refl
      where
        by : (b : Bool) → is_among m.payload j ≡ b → not b && owns w.blocks q j ≡ owns w.blocks q j
        by true e = sym (process_apart (block_at w.blocks j).owner self q (mine j e) (λ k. n (sym k)))
        by false e = refl

    pub counted_now : (j : ℕ) (before after : ℕ) → after + one_if (is_among m.payload j) ≡ before
        → after + one_if (owns w.blocks self j) ≡ before + one_if (owns sent self j)
    counted_now j before after e = by (is_among m.payload j) refl e
      where
        by : (b : Bool) → is_among m.payload j ≡ b → after + one_if b ≡ before
            → after + one_if (owns w.blocks self j) ≡ before + one_if (owns sent self j)
        by true k e =
            let o : one_if (owns w.blocks self j) ≡ 1 = ap one_if (mine j k) in
            let z : one_if (owns sent self j) ≡ 0 = ap one_if (owns_now self j ∙ ap (λ (b : Bool). not b && owns w.blocks self j) k) in
            omega arith
        by false k e =
            let z : one_if (owns sent self j) ≡ one_if (owns w.blocks self j) =
            ap one_if (owns_now self j ∙ ap (λ (b : Bool). not b && owns w.blocks self j) k) in
            omega arith
