-- Switch: no fault, and the invariant is preserved.
use Rattle.std.proofs.Common.{◌≡◌, ◌≢◌, ◌&&◌, ℕ, ◌<◌, ◌≤◌, Bool, true, false, List, [], ◌∷◌, Some, None, map, refl, sym, ap, ◌∙◌, subst}
use Rattle.std.proofs.Common.{arith, inl, set}
use Rattle.std.proofs.lemmas.List.Elements.{Contains-append_left, Contains-append_right}
use Rattle.std.specs.List.{flat_map, list_all}
use Rattle.std.specs.Option.{option_map_or}
use Rattle.std.specs.Prelude.{is_none, unwrap_or, Option, slice_get, if◌then◌else◌, Contains}
use Rattle.source.specs.declared.place.Place.{Place}
use Rattle.program.specs.Lists.{Each}
use Rattle.program.specs.Methods.{MethodModel, VariableModel}
use Rattle.program.specs.Parts.{ContractModel}
use Rattle.program.specs.Programs.{ProgramModel}
use Rattle.program.specs.WellFormed.{is_end}
use Rattle.program.specs.declared.contract.Edge.{Edge}
use Rattle.program.specs.declared.types.HeapType.TheVariants.{Endpoint}
use Rattle.program.specs.declared.types.HeapType.{HeapType}
use Rattle.program.specs.declared.number.VarId.{VarId}
use Rattle.program.specs.declared.statement.Mention.{Mention}
use Rattle.flow.specs.Cases.{EntranceModel, first_mentions, case_for}
use Rattle.flow.specs.Graphs.{Switch}
use Rattle.contracts.specs.Bounds.{sign_to}
use Rattle.contracts.specs.Leaving.{edges_from, end_on}
use Rattle.contracts.specs.TwoEnds.{Leads, HeldAlways}
use Rattle.rules.specs.Endpoints.{payload_types, edges_of, type_of, edges_in, in_state}
use Rattle.rules.specs.Mentions.{is_lent, require_owned}
use Rattle.rules.specs.Outcomes.{Pair, Check, breach_at, refuse_if}
use Rattle.rows.specs.Rows.{leaf_at, is_owned}
use Rattle.rules.specs.Steps.{outcome, entry_of}
use Rattle.rules.specs.Switches.{comes_at, pair_at, bound_leaves, receive_pairs, close_pairs, awaited_edges, cover_checks, is_to_send, switch_checks}
use Rattle.rules.specs.Switches.{switch_pairs}
use Rattle.rules.specs.declared.breach.Reason.TheVariants.{NotCovered, NothingToReceive}
use Rattle.rows.specs.declared.row.Leaf.TheVariants as leaf
use Rattle.rows.specs.declared.row.Leaf.{Leaf}
use Rattle.analyse.specs.Reach.{Reached}
use Rattle.machine.specs.Frames.{address, bound_to}
use Rattle.machine.specs.Outcomes.{Moved, QueueBounds, test, Waits}
use Rattle.machine.specs.World.{MessageHeld, Block, Frame, World, block_at, read, is_freed_at, cut_off, is_empty, is_own}
use Rattle.machine.specs.declared.halts.Fault.TheVariants.{F1}
use Rattle.sound.specs.GraphFit.{IsSwitch, IsEntrance, IsBoundAt}
use Rattle.sound.specs.Operands.{stateless, IsEndVariable}
use Rattle.sound.proofs.Basics.{standing_read}
use Rattle.sound.proofs.events.Calling.{top_once}
use Rattle.sound.proofs.Checks.{Passed, all_pass, passed_goes, not_refused, passed_left, passed_right}
use Rattle.sound.proofs.Fronts.{HasFront, has_front, in_edges}
use Rattle.sound.proofs.Invariant.{HasLeaf, standing, BlocksFit, blocks_fit, StaysCutOff, AreDeclared, IsSoundProgram}
use Rattle.sound.proofs.Kept.{lent_stays_same, on_world, goes_on, AreKept, some_same}
use Rattle.sound.proofs.Lists.{each_map, both_true, each_contains}
use Rattle.sound.proofs.Quiet.{contains_first, stays_same, same_blocks}
use Rattle.sound.proofs.blocks.ReceivedBlocks.{got, at, cut_now, kept_now, state_mine, channels_now, queues_now, brought_now, held_now}
use Rattle.sound.proofs.blocks.ReceivedBlocks.{declared_now, others_now}
use Rattle.sound.proofs.blocks.ReceivedBlocks.{counted_now, typed}
use Rattle.machine.proofs.Holding.{process_not_freed}
use Rattle.sound.proofs.events.Sending.{EndIs, end_is, sent_fits}
use Rattle.sound.proofs.Reaching.{case_is, passed_owned}
use Rattle.sound.proofs.Here.{IsGood, tested_good, nothing_none, Here, Owned, owned_is}
use Rattle.sound.proofs.Parameters.{type_known}
use Rattle.sound.proofs.Cases.{passed_flat, passed_map, Found, found_in, bound_fits, bound_counts}
use Rattle.sound.proofs.Cases.{bound_stays, and_false, InState, in_state_is, tests_own, brings}
use Rattle.machine.specs.Instructions.{outcome_from, receives, receives_from, receives_at, closes_at}
use Rattle.machine.specs.Blocks.{state_after_receive}
use Rattle.rules.proofs.EndLemmas.{each_at}
use Rattle.analyse.proofs.FrontLemmas.{contains_at}
use Rattle.contracts.proofs.CandidateLemmas.{in_flat}
use Rattle.machine.proofs.ChangeLemmas.{true≢false}

module _ (p : ProgramModel) (bound : QueueBounds) (w : World) (self choice : ℕ) (f : Frame) (rest : List Frame) (m : MethodModel)
    (always : HeldAlways) (sound : IsSoundProgram p bound) (place : Place) (cases : List EntranceModel)
    (h : Here p w self f rest m (Switch place cases)) (fit : IsSwitch p m h.graph.scope f.point cases) where
  abbrev es : List Mention
  es = first_mentions [] cases

  abbrev all_checks : List Check
  all_checks = switch_checks p m h.row place cases

  abbrev pairs : List Pair
  pairs = switch_pairs p m h.row cases

  abbrev later : List Check
  later = refuse_if (list_all (is_to_send p m h.row) es) (breach_at place NothingToReceive) ∷ flat_map (cover_checks p m h.row cases) es

  passed : Passed all_checks
  passed = all_pass all_checks pairs h.passes

  owned_all : Each (λ e. is_owned h.row e.variable.0 ≡ true) es
  owned_all = passed_owned h.row es (passed_left (map (require_owned h.row) es) later passed)

  covered_all : Each (λ e. Passed (cover_checks p m h.row cases e)) es
  covered_all = passed_flat (cover_checks p m h.row cases) es (passed_right (map (require_owned h.row) es) later passed).1

  reaches : (y : Pair) → Contains pairs y → Reached (outcome p f.method) (entry_of p f.method) y
  reaches y c = h.onward pairs y (passed_goes all_checks pairs passed) c

  module _ (v : Mention) (at_choice : slice_get es choice ≡ Some v) where
    own : Owned w self f m h.row v.variable.0
    own = owned_is p w self f rest m h.row v.variable.0 h.holds h.is h.fits
        (each_at (λ e. is_owned h.row e.variable.0 ≡ true) es choice v owned_all at_choice)

    is_an_end : is_end own.variable.ty ≡ true
    is_an_end =
        let e = each_at (λ e. IsEndVariable m.variables e.variable.0) es choice v fit.ends at_choice in
        ap (λ (z : VariableModel). is_end z.ty) (some_same own.variable e.variable (sym own.there ∙ e.there)) ∙ e.end

    end_k : EndIs own.variable.ty
    end_k = end_is own.variable.ty is_an_end

    type_a : stateless (block_at w.blocks own.at).ty ≡ Endpoint record { 0 = end_k.c } end_k.side record { 0 = 0 }
    type_a = own.leaf.ty ∙ end_k.is

    once : standing own.at f.variables ≤ 1
    once = top_once p w self f rest own.at h.holds h.is

    stands : 0 < standing own.at f.variables
    stands = standing_read f.variables v.variable.0 own.at own.is

    -- the case for the close
    close_good : (c : EntranceModel) → case_for cases v.variable.0 None ≡ Some c → is_freed_at w.blocks (block_at w.blocks own.at).peer ≡ true
        → (block_at w.blocks own.at).queue ≡ [] → IsGood p w (Moved (on_world w self f c.next f.variables rest w.blocks))
    close_good c is gone empty =
        let row' = set h.row v.variable.0 leaf.CutOff in
        let there : Contains (close_pairs p m h.row cases v.variable.0) (c.next, row') =
        subst (λ (x : Option EntranceModel). Contains (pair_at x (λ c. set h.row v.variable.0 leaf.CutOff)) (c.next, row')) (sym is)
        (contains_first (c.next, row') []) in
        let in_pairs : Contains pairs (c.next, row') =
        in_flat (comes_at p m h.row cases) es v (c.next, row') (contains_at es choice v at_choice)
        (Contains-append_right (flat_map (receive_pairs p m h.row cases v.variable.0) (awaited_edges p m h.row v))
        (close_pairs p m h.row cases v.variable.0) (c.next, row') there) in (
          goes_on p w self f rest m c.next f.variables row' w.blocks h.holds h.is h.there h.below (reaches (c.next, row') in_pairs)
              (sent_fits w.blocks w.blocks m.variables f.variables h.row [] v.variable.0 own.at leaf.CutOff own.variable h.fits tt
              (stays_same w.blocks) (λ j n short. record { there = short; ty = refl; state = inl refl }) once own.is own.there
              (record {
                there = own.leaf.there;
                ty = own.leaf.ty;
                state = (
                  is_an_end,
                  both_true (is_freed_at w.blocks (block_at w.blocks own.at).peer) (is_empty (block_at w.blocks own.at).queue) gone
                      (ap is_empty empty),
                );
              }))
              (same_blocks p w self f m f.variables h.holds (lent_stays_same m.variables f.variables) (λ a. refl)),
          stays_same w.blocks,
        )

    -- the case for a message
    module _ (y : MessageHeld) (ys : List MessageHeld) (was : (block_at w.blocks own.at).queue ≡ y ∷ ys) where
      not_cut : cut_off w.blocks own.at ≡ false
      not_cut = ap (λ (q : List MessageHeld). is_freed_at w.blocks (block_at w.blocks own.at).peer && is_empty q) was
          ∙ and_false (is_freed_at w.blocks (block_at w.blocks own.at).peer)

      state_is : InState w.blocks own.at (leaf_at h.row v.variable.0)
      state_is = in_state_is w.blocks own.variable.ty own.at (leaf_at h.row v.variable.0) own.leaf is_an_end not_cut

      front : HasFront p w.blocks own.at end_k.c end_k.side y.message
      front = has_front always p bound sound w.blocks own.at end_k.c end_k.side h.holds.channels own.leaf.there
          (process_not_freed (block_at w.blocks own.at).owner self own.owned) type_a y ys was

      abbrev edges : List Edge
      edges = front.contract.parts.edges

      edges_are : edges_of p end_k.c ≡ edges
      edges_are = ap (λ (z : Option ContractModel). option_map_or (λ u. u.parts.edges) z []) front.there

      abbrev state' : ℕ
      state' = state_after_receive p w.blocks own.at y.message

      state'_is : state' ≡ front.to
      state'_is = ap (λ (z : Option ℕ). unwrap_or z (block_at w.blocks own.at).state) front.state_by_receive

      awaited_is : awaited_edges p m h.row v ≡ edges_from edges (sign_to end_k.side) (block_at w.blocks own.at).state
      awaited_is = ap (λ (l : Leaf). in_state l (λ q. edges_in p (type_of m v.variable.0) q) []) state_is.is
          ∙ (ap (λ (k : Option HeapType). edges_in p k state_is.q) (type_known m v.variable.0 own.variable own.there)
          ∙ (in_edges p own.variable.ty end_k.c end_k.side state_is.q end_k.is
          ∙ (ap (λ (z : List Edge). edges_from z (sign_to end_k.side) state_is.q) edges_are
          ∙ ap (λ (n : ℕ). edges_from edges (sign_to end_k.side) n) (sym state_is.state))))

      row_edge : Found (awaited_edges p m h.row v) y.message front.to
      row_edge = found_in (awaited_edges p m h.row v) y.message front.to
          (ap (λ (z : List Edge). end_on z y.message) awaited_is ∙ front.edge)

      has_case : is_none (case_for cases v.variable.0 (Some y.message)) ≡ false
      has_case =
          let F = λ (d : Edge). refuse_if (is_none (case_for cases v.variable.0 (Some d.message.0)))
          (breach_at v.place (NotCovered v.variable d.message)) in
          let c = each_at (λ e. Passed (cover_checks p m h.row cases e)) es choice v covered_all at_choice in
          let k = each_contains (λ d. F d ≡ None) (awaited_edges p m h.row v) row_edge.edge
          (passed_map F (awaited_edges p m h.row v) c) row_edge.there in
          ap (λ (n : ℕ). is_none (case_for cases v.variable.0 (Some n))) (sym row_edge.message)
          ∙ not_refused (is_none (case_for cases v.variable.0 (Some row_edge.edge.message.0))) _ k

      leads : (x : ContractModel) → slice_get p.contracts end_k.c ≡ Some x
          → Leads x.parts.edges record { 0 = (block_at w.blocks own.at).state } record { 0 = y.message }
          (sign_to end_k.side) record { 0 = state' }
      leads x there = subst (λ (n : ℕ). Leads x.parts.edges record { 0 = (block_at w.blocks own.at).state } record { 0 = y.message }
          (sign_to end_k.side) record { 0 = n }) (sym state'_is) (front.leads x there)

      hb : BlocksFit p w.blocks
      hb = blocks_fit p w h.holds

      abbrev bs' : List Block
      bs' = got p w self hb own.at state' y ys end_k.c end_k.side own.owned own.leaf.there type_a was leads

      cut' : StaysCutOff w.blocks bs'
      cut' = cut_now p w self hb own.at state' y ys end_k.c end_k.side own.owned own.leaf.there type_a was leads

      kept' : (P : ℕ → Type 0) → ((j : ℕ) → P j → j ≢ own.at) → AreKept w.blocks bs' P
      kept' = kept_now p w self hb own.at state' y ys end_k.c end_k.side own.owned own.leaf.there type_a was leads

      typed' : AreDeclared bs' (payload_types p y.message) y.payload
      typed' = typed p w self hb own.at state' y ys end_k.c end_k.side own.owned own.leaf.there type_a was leads h.holds.brought

      leaf' : HasLeaf bs' own.variable.ty own.at (leaf.State front.to)
      leaf' = record {
        there = let k = cut'.long in let k2 = own.leaf.there in omega arith;
        ty = ap (λ (b : Block). stateless b.ty) (at p w self hb own.at state' y ys end_k.c end_k.side own.owned own.leaf.there type_a
            was leads own.at) ∙ own.leaf.ty;
        state = (
          is_an_end,
          inl (state_mine p w self hb own.at state' y ys end_k.c end_k.side own.owned own.leaf.there type_a was leads
              ∙ state'_is),
        );
      }

      bound_none : (bs : List VarId) (to : ℕ) → Each (λ u. IsBoundAt p m h.graph.scope f.point to u.0) bs
          → Each (λ u. read f.variables u.0 ≡ None) bs
      bound_none [] to k = tt
      bound_none (u ∷ bs) to k =
          (nothing_none w.blocks m.variables f.variables h.row u.0 h.fits (h.none u.0 k.0.before), bound_none bs to k.1)

      message_good : (c : EntranceModel) → case_for cases v.variable.0 (Some y.message) ≡ Some c
          → IsGood p w (Moved (on_world w self f c.next (bound_to f.variables c.targets y.payload) rest bs'))
      message_good c is =
          let k = case_is (IsEntrance p m h.graph.scope f.point) cases v.variable.0 (Some y.message) c fit.each is in
          let b = brings p m h.graph.scope f.point y.message c c.awaited refl k.0 k.2 in
          let d = row_edge.edge in
          let row_d = bound_leaves (set h.row v.variable.0 (leaf.State d.to.0)) c.targets (payload_types p d.message.0) in
          let row' = bound_leaves (set h.row v.variable.0 (leaf.State front.to)) c.targets (payload_types p y.message) in
          let there : Contains (receive_pairs p m h.row cases v.variable.0 d) (c.next, row_d) =
          subst (λ (x : Option EntranceModel). Contains (pair_at x
          (λ c. bound_leaves (set h.row v.variable.0 (leaf.State d.to.0)) c.targets (payload_types p d.message.0))) (c.next, row_d))
          (sym (ap (λ (n : ℕ). case_for cases v.variable.0 (Some n)) row_edge.message ∙ is)) (contains_first (c.next, row_d) []) in
          let in_pairs : Contains pairs (c.next, row_d) =
          in_flat (comes_at p m h.row cases) es v (c.next, row_d) (contains_at es choice v at_choice)
          (Contains-append_left (flat_map (receive_pairs p m h.row cases v.variable.0) (awaited_edges p m h.row v))
          (close_pairs p m h.row cases v.variable.0) (c.next, row_d)
          (in_flat (receive_pairs p m h.row cases v.variable.0) (awaited_edges p m h.row v) d (c.next, row_d) row_edge.there there)) in
          let row_is : row_d ≡ row' =
          ap (λ (n : ℕ). bound_leaves (set h.row v.variable.0 (leaf.State n)) c.targets (payload_types p d.message.0)) row_edge.ends
          ∙ ap (λ (n : ℕ). bound_leaves (set h.row v.variable.0 (leaf.State front.to)) c.targets (payload_types p n)) row_edge.message in
          let base = sent_fits w.blocks bs' m.variables f.variables h.row [] v.variable.0 own.at
          (leaf.State front.to) own.variable h.fits tt cut' (λ j n short. kept' (λ z. z ≢ own.at) (λ z q. q) j n short) once own.is
          own.there leaf' in (
            goes_on p w self f rest m c.next (bound_to f.variables c.targets y.payload) row' bs' h.holds h.is h.there h.below
                (subst (λ (r : List Leaf). Reached (outcome p f.method) (entry_of p f.method) (c.next, r)) row_is
                (reaches (c.next, row_d) in_pairs))
                (bound_fits bs' m.variables f.variables (set h.row v.variable.0 (leaf.State front.to)) c.targets
                (payload_types p y.message) y.payload base b.types typed')
                (record {
                  lent = bound_stays p m f.variables c.targets y.payload
                      (each_map (λ u. IsBoundAt p m h.graph.scope f.point c.next u.0) (λ u. is_lent m u.0 ≡ false) c.targets
                      (λ u i. i.own) b.bound_at);
                  cut = cut';
                  kept = kept' (λ j. standing j f.variables ≡ 0) (λ j z s. let k1 : standing j f.variables ≡ standing own.at f.variables =
                      ap (λ (n : ℕ). standing n f.variables) s in let k2 = stands in absurd (omega arith));
                  counted = λ j. counted_now p w self hb own.at state' y ys end_k.c end_k.side own.owned own.leaf.there type_a was leads j
                      (standing j f.variables) (standing j (bound_to f.variables c.targets y.payload))
                      (bound_counts j m.variables f.variables c.targets (payload_types p y.message) bs' y.payload h.fits.long b.types typed'
                      b.apart (bound_none c.targets c.next b.bound_at));
                  others = others_now p w self hb own.at state' y ys end_k.c end_k.side own.owned own.leaf.there type_a was leads;
                  channels = channels_now p w self hb own.at state' y ys end_k.c end_k.side own.owned own.leaf.there type_a was leads;
                  queues = queues_now p w self hb own.at state' y ys end_k.c end_k.side own.owned own.leaf.there type_a was leads;
                  brought = brought_now p w self hb own.at state' y ys end_k.c end_k.side own.owned own.leaf.there type_a was leads
                      h.holds.brought;
                  held = held_now p w self hb own.at state' y ys end_k.c end_k.side own.owned own.leaf.there type_a was leads;
                  declared = declared_now p w self hb own.at state' y ys end_k.c end_k.side own.owned own.leaf.there type_a was leads
                      h.holds.declared;
                }),
            cut',
          )

      receive_good : (x : Option EntranceModel) → case_for cases v.variable.0 (Some y.message) ≡ x
          → IsGood p w (receives_at p bound w self f rest x own.at y ys)
      receive_good None is = absurd (true≢false (ap is_none is) has_case)
      receive_good (Some c) is = message_good c is

    close_or_wait : (b : Bool) → is_freed_at w.blocks (block_at w.blocks own.at).peer ≡ b → (block_at w.blocks own.at).queue ≡ []
        → IsGood p w (if b then closes_at p bound w self f rest (case_for cases v.variable.0 None) else Waits)
    close_or_wait false e empty = tt
    close_or_wait true e empty = by (case_for cases v.variable.0 None) refl
      where
        by : (x : Option EntranceModel) → case_for cases v.variable.0 None ≡ x → IsGood p w (closes_at p bound w self f rest x)
        by None is = absurd (each_at (λ e. case_for cases e.variable.0 None ≢ None) es choice v fit.closes at_choice is)
        by (Some c) is = close_good c is e empty

    at_queue : (q : List MessageHeld) → (block_at w.blocks own.at).queue ≡ q
        → IsGood p w (receives p bound w self f rest cases v.variable.0 own.at q)
    at_queue [] is = close_or_wait (is_freed_at w.blocks (block_at w.blocks own.at).peer) refl is
    at_queue (y ∷ ys) is = receive_good y ys is (case_for cases v.variable.0 (Some y.message)) refl

    chosen_good : IsGood p w (receives p bound w self f rest cases v.variable.0 (address (read f.variables v.variable.0))
        (block_at w.blocks (address (read f.variables v.variable.0))).queue)
    chosen_good = subst (λ (n : ℕ). IsGood p w (receives p bound w self f rest cases v.variable.0 n (block_at w.blocks n).queue))
        (sym (ap address own.is)) (at_queue (block_at w.blocks own.at).queue refl)

  from_choice : (x : Option Mention) → slice_get es choice ≡ x → IsGood p w (receives_from p bound w self f rest cases x)
  from_choice None is = tt
  from_choice (Some v) is = chosen_good v is

  pub good_switch : IsGood p w (outcome_from p bound w self f rest (Switch place cases) choice)
  good_switch = tested_good p w (map (λ e. test (is_own w.blocks self (read f.variables e.variable.0)) F1) es)
      (receives_from p bound w self f rest cases (slice_get es choice))
      (tests_own p bound w self f rest m h.row es h.holds h.is h.fits owned_all) (from_choice (slice_get es choice) refl)
