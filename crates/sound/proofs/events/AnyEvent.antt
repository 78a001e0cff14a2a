-- What an event preserves of channels and queues, whatever is found: none has the fault of a full queue.
use Rattle.std.proofs.Common.{◌≡◌, ℕ, ◌<◌, Bool, true, false, List, [], ◌∷◌, Some, None, length, map, refl, sym, ap, ◌∙◌, subst, inl, inr}
use Rattle.std.proofs.Common.{⊎_elim}
use Rattle.std.proofs.lemmas.Bool.{cases_Bool, cases_eq}
use Rattle.std.specs.Prelude.{Option, ◌⊎◌, ◌||◌, slice_get, if◌then◌else◌, nat_lt, is_some, unwrap_or}
use Rattle.source.specs.declared.place.Place.{Place}
use Rattle.program.specs.Lists.{Each, is_among}
use Rattle.program.specs.Parts.{ContractModel}
use Rattle.program.specs.Programs.{ProgramModel}
use Rattle.program.specs.WellFormed.{is_end}
use Rattle.program.specs.declared.types.HeapType.TheVariants.{Endpoint}
use Rattle.program.specs.declared.types.Side.{Side}
use Rattle.program.specs.declared.statement.Mention.{Mention}
use Rattle.flow.specs.Cases.{EntranceModel, first_mentions, case_for}
use Rattle.flow.specs.Graphs.{Switch}
use Rattle.contracts.specs.Bounds.{sign_to}
use Rattle.contracts.specs.Leaving.{sign_from}
use Rattle.contracts.specs.TwoEnds.{Leads, HeldAlways, NeverLonger}
use Rattle.machine.specs.Blocks.{sent_block, received_block, bound_of, has_room, send_tests, sent_state, may_send, state_after_receive}
use Rattle.machine.specs.Frames.{address}
use Rattle.machine.specs.Outcomes.{Outcome, QueueBounds, test, after_tests, Waits}
use Rattle.machine.specs.World.{MessageHeld, Block, Frame, World, block_at, read, owns, is_freed_at, cut_off, is_empty, change_each}
use Rattle.machine.specs.declared.halts.Fault.TheVariants.{F1, F4, F6}
use Rattle.sound.specs.Operands.{stateless}
use Rattle.sound.proofs.Fronts.{has_front, empty_not}
use Rattle.sound.proofs.Invariant.{one_if, standing_in, IsSoundProgram}
use Rattle.sound.proofs.Lists.{and_true}
use Rattle.sound.proofs.blocks.ReceivedBlocks as receiving
use Rattle.sound.proofs.blocks.SentBlocks as sending
use Rattle.sound.proofs.events.Sending.{end_is, sends_along, room_is}
use Rattle.sound.proofs.blocks.AnyBlocks.{RunFits, IsFine, one_test, or_rest, some_is, no_edges, end_of_type, own_at, lost_fits}
use Rattle.sound.specs.Queues.{other}
use Rattle.machine.specs.Instructions.{send_from, receives, receives_at, closes_at}
use Rattle.machine.specs.Instructions.{receives_from, outcome_from}
use Rattle.machine.specs.World.{is_own}
use Rattle.machine.proofs.Holding.{owned_there, process_not_freed}
use Rattle.rules.proofs.EndLemmas.{each_at}
use Rattle.machine.proofs.ChangeLemmas.{true≢false}

module _ (p : ProgramModel) (bound : QueueBounds) (w : World) (self : ℕ) (f : Frame) (rest : List Frame) (h : RunFits p w.blocks) where
  -- ---- Send
  sent_fits : (a state' : ℕ) (m : MessageHeld) (c : ℕ) (side : Side) (owned : owns w.blocks self a ≡ true)
      (ty : stateless (block_at w.blocks a).ty ≡ Endpoint record { 0 = c } side record { 0 = 0 })
      → ((x : ℕ) → is_among m.payload x ≡ true → owns w.blocks self x ≡ true)
      → ((x : ℕ) → standing_in x m.payload ≡ one_if (is_among m.payload x))
      → ((x : ContractModel) → slice_get p.contracts c ≡ Some x
      → ((cut_off w.blocks a ≡ true) × (state' ≡ (block_at w.blocks a).state))
      ⊎ Leads x.parts.edges record { 0 = (block_at w.blocks a).state } record { 0 = m.message } (sign_from side) record { 0 = state' })
      → RunFits p (change_each (sent_block a state' (block_at w.blocks a).peer (is_freed_at w.blocks (block_at w.blocks a).peer) m) w.blocks)
  sent_fits a state' m c side owned ty mine once moves =
      let within = owned_there w.blocks self a owned in
      let at = sending.at p w self h.fits a state' m c side owned within ty mine once moves in
      record {
        fits = record {
          channels = sending.channels_now p w self h.fits a state' m c side owned within ty mine once moves;
          queues =
              sending.queues_now p w self h.fits a state' m c side owned within ty mine once moves;
          held = sending.held_now p w self h.fits a state' m c side owned within ty mine once moves;
        };
        plain = λ j no_end.
            let no : is_end (block_at w.blocks j).ty ≡ false = sym (ap (λ (b : Block). is_end b.ty) (at j)) ∙ no_end in
            ⊎_elim (λ e. absurd (true≢false (end_of_type (block_at w.blocks (block_at w.blocks a).peer).ty c (other side)
            (sending.peer p w self h.fits a state' m c side owned within ty mine once moves).ty)
            (ap (λ (n : ℕ). is_end (block_at w.blocks n).ty) (sym e) ∙ no)))
            (λ n. sending.queue_other p w self h.fits a state' m c side owned within ty mine once moves j n ∙ h.plain j no)
            (cases_eq j (block_at w.blocks a).peer);
      }

  module _ (longer : NeverLonger) (sound : IsSoundProgram p bound) (a : ℕ) (m : MessageHeld) (vs' : List (Option ℕ)) (next : ℕ)
      (owned : owns w.blocks self a ≡ true)
      (mine : (x : ℕ) → is_among m.payload x ≡ true → owns w.blocks self x ≡ true)
      (once : (x : ℕ) → standing_in x m.payload ≡ one_if (is_among m.payload x)) where
    abbrev edge : Option ℕ
    edge = sent_state p w.blocks a m.message

    abbrev state' : ℕ
    state' = if cut_off w.blocks a then (block_at w.blocks a).state else unwrap_or edge (block_at w.blocks a).state

    abbrev to : ℕ
    to = (block_at w.blocks a).peer

    within : a < length w.blocks
    within = owned_there w.blocks self a owned

    stays : cut_off w.blocks a ≡ true → state' ≡ (block_at w.blocks a).state
    stays c = ap (λ (b : Bool). if b then (block_at w.blocks a).state else unwrap_or edge (block_at w.blocks a).state) c

    -- the queue has room, and the invariant holds after the send
    abbrev Sends : Type 0
    Sends = (has_room bound w.blocks to ≡ true) × RunFits p (change_each (sent_block a state' to (is_freed_at w.blocks to) m) w.blocks)

    end_sends : (c : ℕ) (side : Side) → stateless (block_at w.blocks a).ty ≡ Endpoint record { 0 = c } side record { 0 = 0 }
        → cut_off w.blocks a || is_some edge ≡ true → Sends
    end_sends c side ty may = (
      room_is longer p bound sound w self f rest a state' m c side h.fits.channels within
          (process_not_freed (block_at w.blocks a).owner self owned) ty leads,
      sent_fits a state' m c side owned ty mine once (λ y there.
          ⊎_elim (λ k. inl (k, stays k)) (λ k. inr (leads k y there)) (cases_Bool (cut_off w.blocks a))),
    )
      where
        leads : cut_off w.blocks a ≡ false → (y : ContractModel) → slice_get p.contracts c ≡ Some y
            → Leads y.parts.edges record { 0 = (block_at w.blocks a).state } record { 0 = m.message } (sign_from side) record { 0 = state' }
        leads k y there =
            let t = some_is edge (or_rest (cut_off w.blocks a) (is_some edge) k may) in
            let is : state' ≡ t.0 =
            ap (λ (b : Bool). if b then (block_at w.blocks a).state else unwrap_or edge (block_at w.blocks a).state) k
            ∙ ap (λ (z : Option ℕ). unwrap_or z (block_at w.blocks a).state) t.1 in
            sends_along p w.blocks a m.message state' c side ty (t.1 ∙ ap Some (sym is)) y there

    -- a block that is no end has no edge
    plain_sends : is_end (block_at w.blocks a).ty ≡ false → cut_off w.blocks a || is_some edge ≡ true → Sends
    plain_sends no_end may =
        let cut : cut_off w.blocks a ≡ true =
        ⊎_elim (λ k. k) (λ k. absurd (true≢false (or_rest (cut_off w.blocks a) (is_some edge) k may)
        (ap is_some (no_edges p (block_at w.blocks a).ty (block_at w.blocks a).state m.message no_end))))
        (cases_Bool (cut_off w.blocks a)) in
        let gone = (and_true (is_freed_at w.blocks to) (is_empty (block_at w.blocks a).queue) cut).0 in (
          ap (λ (b : Bool). b || nat_lt (length (block_at w.blocks to).queue) (bound_of bound (block_at w.blocks to).ty)) gone,
          lost_fits
              p bound w self f rest h a state' to (is_freed_at w.blocks to) m gone (stays cut) within mine,
        )

    sends : cut_off w.blocks a || is_some edge ≡ true → Sends
    sends may = ⊎_elim (λ e. let k = end_is (block_at w.blocks a).ty e in end_sends k.c k.side k.is may) (λ e. plain_sends e may)
        (cases_Bool (is_end (block_at w.blocks a).ty))

    pub send_fine : IsFine p (after_tests (send_tests p bound w.blocks a m.message) (send_from p bound w self f rest a m vs' next))
    send_fine = one_test p (may_send p w.blocks a m.message) F4 (test (has_room bound w.blocks to) F6 ∷ []) _ (λ e. tt)
        (λ may. one_test p (has_room bound w.blocks to) F6 [] _ (λ e. true≢false (sends may).0 e) (λ e. (sends may).1))

  -- ---- Switch
  received_fits : (a state' : ℕ) (m : MessageHeld) (ms : List MessageHeld) (c : ℕ) (side : Side) (owned : owns w.blocks self a ≡ true)
      (ty : stateless (block_at w.blocks a).ty ≡ Endpoint record { 0 = c } side record { 0 = 0 })
      → (block_at w.blocks a).queue ≡ m ∷ ms
      → ((x : ContractModel) → slice_get p.contracts c ≡ Some x
      → Leads x.parts.edges record { 0 = (block_at w.blocks a).state } record { 0 = m.message } (sign_to side) record { 0 = state' })
      → RunFits p (change_each (received_block self a state' m ms) w.blocks)
  received_fits a state' m ms c side owned ty was leads =
      let within = owned_there w.blocks self a owned in
      record {
        fits = record {
          channels = receiving.channels_now p w self h.fits a state' m ms c side owned within ty was leads;
          queues =
              receiving.queues_now p w self h.fits a state' m ms c side owned within ty was leads;
          held = receiving.held_now p w self h.fits a state' m ms c side owned within ty was leads;
        };
        plain = λ j no_end.
            let no : is_end (block_at w.blocks j).ty ≡ false =
            sym (ap (λ (b : Block). is_end b.ty) (receiving.at p w self h.fits a state' m ms c side owned within ty was leads j))
            ∙ no_end in
            ⊎_elim (λ e. absurd (true≢false (end_of_type (block_at w.blocks a).ty c side ty)
            (ap (λ (n : ℕ). is_end (block_at w.blocks n).ty) (sym e) ∙ no)))
            (λ n. receiving.queue_other p w self h.fits a state' m ms c side owned within ty was leads j n ∙ h.plain j no) (cases_eq j a);
      }

  module _ (always : HeldAlways) (sound : IsSoundProgram p bound) (cases : List EntranceModel) where
    takes_fits : (a : ℕ) (m : MessageHeld) (ms : List MessageHeld) → owns w.blocks self a ≡ true → (block_at w.blocks a).queue ≡ m ∷ ms
        → RunFits p (change_each (received_block self a (state_after_receive p w.blocks a m.message) m
        ms) w.blocks)
    takes_fits a m ms owned was =
        let state' = state_after_receive p w.blocks a m.message in
        let end : is_end (block_at w.blocks a).ty ≡ true =
        ⊎_elim (λ e. e) (λ e. absurd (empty_not m ms (sym (h.plain a e) ∙ was))) (cases_Bool (is_end (block_at w.blocks a).ty)) in
        let k = end_is (block_at w.blocks a).ty end in
        let front = has_front always p bound sound w.blocks a k.c k.side h.fits.channels (owned_there w.blocks self a owned)
        (process_not_freed (block_at w.blocks a).owner self owned) k.is m ms was in
        let is : state' ≡ front.to = ap (λ (z : Option ℕ). unwrap_or z (block_at w.blocks a).state) front.state_by_receive in
        received_fits a state' m ms k.c k.side owned k.is was
        (λ x there. subst (λ (n : ℕ). Leads x.parts.edges record { 0 = (block_at w.blocks a).state } record { 0 = m.message }
        (sign_to k.side) record { 0 = n }) (sym is) (front.leads x there))

    closes_fine : (c : Option EntranceModel) → IsFine p (closes_at p bound w self f rest c)
    closes_fine None = tt
    closes_fine (Some c) = h

    takes_fine : (c : Option EntranceModel) (a : ℕ) (m : MessageHeld) (ms : List MessageHeld) → owns w.blocks self a ≡ true
        → (block_at w.blocks a).queue ≡ m ∷ ms → IsFine p (receives_at p bound w self f rest c a m ms)
    takes_fine None a m ms owned was = tt
    takes_fine (Some c) a m ms owned was = takes_fits a m ms owned was

    receives_fine : (v a : ℕ) (q : List MessageHeld) → owns w.blocks self a ≡ true → (block_at w.blocks a).queue ≡ q
        → IsFine p (receives p bound w self f rest cases v a q)
    receives_fine v a [] owned was = by (is_freed_at w.blocks (block_at w.blocks a).peer)
      where
        by : (b : Bool) → IsFine p (if b then closes_at p bound w self f rest (case_for cases v None) else Waits)
        by true = closes_fine (case_for cases v None)
        by false = tt
    receives_fine v a (m ∷ ms) owned was = takes_fine (case_for cases v (Some m.message)) a m ms owned was

    chosen_fine : (x : Option Mention)
        → ((v : Mention) → x ≡ Some v → is_own w.blocks self (read f.variables v.variable.0) ≡ true)
        → IsFine p (receives_from p bound w self f rest cases x)
    chosen_fine None own = tt
    chosen_fine (Some v) own =
        let o = own_at p bound w self f rest h (read f.variables v.variable.0) (own v refl) in
        let a = address (read f.variables v.variable.0) in
        receives_fine v.variable.0 a (block_at w.blocks a).queue (ap (λ (x : Option ℕ). owns w.blocks self (address x)) o.is ∙ o.owned) refl

    mentions_fine : (es : List Mention) (o : Outcome)
        → (Each (λ e. is_own w.blocks self (read f.variables e.variable.0) ≡ true) es → IsFine p o)
        → IsFine p (after_tests (map (λ e. test (is_own w.blocks self (read f.variables e.variable.0)) F1) es) o)
    mentions_fine [] o go = go tt
    mentions_fine (e ∷ es) o go =
        one_test p (is_own w.blocks self (read f.variables e.variable.0)) F1 _ o (λ k. tt)
        (λ k. mentions_fine es o (λ more. go (k, more)))

    pub switch_fine : (place : Place) (choice : ℕ) → IsFine p (outcome_from p bound w self f rest (Switch place cases) choice)
    switch_fine place choice = mentions_fine (first_mentions [] cases) _
        (λ own. chosen_fine (slice_get (first_mentions [] cases) choice)
        (λ v is. each_at (λ e. is_own w.blocks self (read f.variables e.variable.0) ≡ true)
        (first_mentions [] cases) choice v own is))
