-- NewChannel: two more ends.
use Rattle.std.proofs.Common.{◌≡◌, ◌≢◌, ◌==◌, ◌&&◌, ℕ, ◌+◌, ◌<◌, Bool, true, false, not, List, [], ◌∷◌, ◌++◌, Some, None, length, refl}
use Rattle.std.proofs.Common.{sym, ap, ◌∙◌, subst, arith, inl, set}
use Rattle.std.proofs.lemmas.Bool.{eqb-true}
use Rattle.std.proofs.lemmas.List.{get_or-set_other, length-set, length-append, append_assoc}
use Rattle.std.proofs.lemmas.Option.{slice_get_within}
use Rattle.std.specs.Prelude.{slice_get, if◌then◌else◌}
use Rattle.program.specs.Types.{same_side}
use Rattle.program.specs.Methods.{MethodModel, VariableModel}
use Rattle.program.specs.Programs.{ProgramModel}
use Rattle.program.specs.WellFormed.{is_end, are_ends}
use Rattle.program.specs.declared.types.HeapType.TheVariants.{Endpoint, Struct, Array}
use Rattle.program.specs.declared.types.HeapType.{HeapType}
use Rattle.program.specs.declared.types.Side.TheVariants.{Imp, Exp}
use Rattle.program.specs.declared.types.Side.{Side}
use Rattle.program.specs.declared.statement.Channel as made
use Rattle.program.specs.declared.statement.Action.TheVariants.{NewChannel}
use Rattle.flow.specs.Graphs.{Act}
use Rattle.rules.specs.Endpoints.{first_state}
use Rattle.rules.specs.Mentions.{is_lent, require_empty, require_not_lent}
use Rattle.rules.specs.Outcomes.{Check}
use Rattle.rows.specs.Rows.{leaf_at, is_owned}
use Rattle.rows.specs.declared.row.Leaf.TheVariants as leaf
use Rattle.rows.specs.declared.row.Leaf.{Leaf}
use Rattle.machine.specs.Blocks.{new_block, end_type, is_imp}
use Rattle.machine.specs.Outcomes.{Moved, QueueBounds}
use Rattle.machine.specs.World.{Block, Frame, World, block_at, read, owns}
use Rattle.sound.specs.GraphFit.{IsChannelFit}
use Rattle.sound.specs.Operands.{stateless}
use Rattle.sound.proofs.Basics.{standing_set}
use Rattle.sound.proofs.blocks.Blocks.{AreFresh, new_counts, queues_append, others_append, cut_append, kept_append, brought_append}
use Rattle.sound.proofs.blocks.Blocks.{type_of_variable}
use Rattle.sound.proofs.Checks.{Passed, all_pass, passed_goes, not_refused, something_is}
use Rattle.sound.proofs.Invariant.{HasLeaf, one_if, one_at, standing}
use Rattle.sound.proofs.Kept.{lent_stays_set, on_world, goes_on, row_kept, some_same, lent_stays_on}
use Rattle.sound.proofs.Lists.{and_true}
use Rattle.sound.proofs.events.Moving.{type_apart}
use Rattle.sound.proofs.blocks.NewEnds as made_ends
use Rattle.sound.proofs.Quiet.{contains_first, end_stateless}
use Rattle.sound.proofs.Here.{IsGood, row_set, nothing_none, Here}
use Rattle.sound.specs.Queues.{other}
use Rattle.machine.specs.Instructions.{outcome_from}

-- ---- the two ends
pub record TwoTypes (c : ℕ) (j k : HeapType) : Type 0 where
  pub side : Side
  pub first : stateless j ≡ Endpoint record { 0 = c } side record { 0 = 0 }
  pub second : stateless k ≡ Endpoint record { 0 = c } (other side) record { 0 = 0 }

other_is : (s t : Side) → not (same_side s t) ≡ true → t ≡ other s
other_is Imp Imp e = absurd (cc)
other_is Imp Exp e = refl
other_is Exp Imp e = refl
other_is Exp Exp e = absurd (cc)

pub two_types : (c : ℕ) (j k : HeapType) → are_ends c j k ≡ true → TwoTypes c j k
two_types c (Struct n) k e = absurd (cc)
two_types c (Array n) k e = absurd (cc)
two_types c (Endpoint m s q) (Struct n) e = absurd (cc)
two_types c (Endpoint m s q) (Array n) e = absurd (cc)
two_types c (Endpoint m s q) (Endpoint n t r) e =
    let one = and_true (m.0 == c) ((n.0 == c) && not (same_side s t)) e in
    let two = and_true (n.0 == c) (not (same_side s t)) one.1 in
    record {
      side = s;
      first = ap (λ (z : ℕ). Endpoint record { 0 = z } s record { 0 = 0 }) (eqb-true m.0 c one.0);
      second = ap (λ (z : ℕ). Endpoint record { 0 = z } t record { 0 = 0 }) (eqb-true n.0 c two.0)
          ∙ ap (λ (z : Side). Endpoint record { 0 = c } z record { 0 = 0 }) (other_is s t two.1);
    }

abbrev side_imp : Side → Bool
side_imp Imp = true
side_imp Exp = false

imp_stateless : (k : HeapType) → is_imp k ≡ is_imp (stateless k)
imp_stateless (Struct n) = refl
imp_stateless (Array n) = refl
imp_stateless (Endpoint c Imp q) = refl
imp_stateless (Endpoint c Exp q) = refl

imp_of : (c : ℕ) (side : Side) → is_imp (Endpoint record { 0 = c } side record { 0 = 0 }) ≡ side_imp side
imp_of c Imp = refl
imp_of c Exp = refl

module _ (p : ProgramModel) (bound : QueueBounds) (w : World) (self choice : ℕ) (f : Frame) (rest : List Frame) (m : MethodModel)
    (c : made.Channel) (next : ℕ)
    (h : Here p w self f rest m (Act (NewChannel c) next)) (fit : IsChannelFit p m h.graph.scope f.point c next) where
  abbrev n : ℕ
  n = length w.blocks

  abbrev start : ℕ
  start = first_state p c.contract.0

  abbrev b1 : Block
  b1 = new_block (end_type c Imp) self (n + 1) start []

  abbrev b2 : Block
  b2 = new_block (end_type c Exp) self n start []

  abbrev bs' : List Block
  bs' = w.blocks ++ b1 ∷ b2 ∷ []

  fresh : AreFresh self (b1 ∷ b2 ∷ [])
  fresh = made_ends.fresh p w.blocks self c fit.contract fit.contract_there h.holds.channels

  long_now : length bs' ≡ n + 2
  long_now = made_ends.long_now p w.blocks self c fit.contract fit.contract_there h.holds.channels

  at1 : block_at bs' n ≡ b1
  at1 = made_ends.at1 p w.blocks self c fit.contract fit.contract_there h.holds.channels

  at2 : block_at bs' (n + 1) ≡ b2
  at2 = made_ends.at2 p w.blocks self c fit.contract fit.contract_there h.holds.channels

  type1 : stateless (block_at bs' n).ty ≡ Endpoint record { 0 = c.contract.0 } Imp record { 0 = 0 }
  type1 = made_ends.type1 p w.blocks self c fit.contract fit.contract_there h.holds.channels

  type2 : stateless (block_at bs' (n + 1)).ty ≡ Endpoint record { 0 = c.contract.0 } Exp record { 0 = 0 }
  type2 = made_ends.type2 p w.blocks self c fit.contract fit.contract_there h.holds.channels

  two_counts : (a : ℕ) → one_at a (Some n) + (one_at a (Some (n + 1)) + one_if (owns w.blocks self a)) ≡ one_if (owns bs' self a)
  two_counts a =
      let one = new_counts self w.blocks b1 a refl in
      let two = new_counts self (w.blocks ++ b1 ∷ []) b2 a refl in
      let l : length (w.blocks ++ b1 ∷ []) ≡ n + 1 = length-append w.blocks (b1 ∷ []) in
      let z : one_at a (Some (length (w.blocks ++ b1 ∷ []))) ≡ one_at a (Some (n + 1)) = ap (λ (i : ℕ). one_at a (Some i)) l in
      let s : one_if (owns ((w.blocks ++ b1 ∷ []) ++ b2 ∷ []) self a) ≡ one_if (owns bs' self a) =
      ap (λ (bs : List Block). one_if (owns bs self a)) (append_assoc w.blocks (b1 ∷ []) (b2 ∷ [])) in
      omega arith

  abbrev v1 : ℕ
  v1 = c.first.variable.0

  abbrev v2 : ℕ
  v2 = c.second.variable.0

  abbrev row' : List Leaf
  row' = set (set h.row v1 (leaf.State start)) v2 (leaf.State start)

  abbrev checks : List Check
  checks = require_not_lent m c.first ∷ require_empty h.row c.first ∷ require_not_lent m c.second ∷ require_empty h.row c.second ∷ []

  passed : Passed checks
  passed = all_pass checks ((next, row') ∷ []) h.passes

  none1 : read f.variables v1 ≡ None
  none1 = nothing_none w.blocks m.variables f.variables h.row v1 h.fits
      (something_is (leaf_at h.row v1) (not_refused (is_owned h.row v1) _ passed.1.0))

  none2 : read f.variables v2 ≡ None
  none2 = nothing_none w.blocks m.variables f.variables h.row v2 h.fits
      (something_is (leaf_at h.row v2) (not_refused (is_owned h.row v2) _ passed.1.1.1.0))

  pair_good : (i j : ℕ) → v2 ≢ v1 → HasLeaf bs' fit.first.ty i (leaf.State start) → HasLeaf bs' fit.second.ty j (leaf.State start)
      → ((a : ℕ) → one_at a (Some i) + (one_at a (Some j) + one_if (owns w.blocks self a)) ≡ one_if (owns bs' self a))
      → IsGood p w (Moved (on_world w self f next (set (set f.variables v1 (Some i)) v2 (Some j)) rest bs'))
  pair_good i j apart leaf1 leaf2 counts =
      let us = set f.variables v1 (Some i) in
      let cut = cut_append w.blocks (b1 ∷ b2 ∷ []) in
      let base = row_kept w.blocks bs' m.variables f.variables h.row cut
      (kept_append w.blocks (b1 ∷ b2 ∷ []) (λ a. 0 < standing a f.variables)) h.fits in
      let one = row_set bs' m.variables f.variables h.row v1 (Some i) (leaf.State start) base
      (λ y there. subst (λ (z : VariableModel). HasLeaf bs' z.ty i (leaf.State start))
      (some_same fit.first y (sym fit.first_there ∙ there)) leaf1) in
      let two = row_set bs' m.variables us (set h.row v1 (leaf.State start)) v2 (Some j) (leaf.State start) one
      (λ y there. subst (λ (z : VariableModel). HasLeaf bs' z.ty j (leaf.State start))
      (some_same fit.second y (sym fit.second_there ∙ there)) leaf2) in (
        goes_on p w self f rest m next (set us v2 (Some j)) row' bs' h.holds h.is h.there h.below
            (h.onward ((next, row') ∷ []) (next, row') (passed_goes checks ((next, row') ∷ []) passed) (contains_first (next, row') []))
            two (record {
              lent = lent_stays_on m.variables f.variables us (set us v2 (Some j))
                  (lent_stays_set m.variables f.variables v1 (Some i) (not_refused (is_lent m v1) _ passed.0))
                  (lent_stays_set m.variables us v2 (Some j) (not_refused (is_lent m v2) _ passed.1.1.0));
              cut = cut;
              kept = kept_append w.blocks (b1 ∷ b2 ∷ []) (λ a. standing a f.variables ≡ 0);
              counted = λ a.
                  let l = h.fits.long in
                  let s1 : v1 < length f.variables = let k = slice_get_within m.variables v1 fit.first fit.first_there in omega arith in
                  let s2 : v2 < length us = let k = slice_get_within m.variables v2 fit.second fit.second_there in let l2 =
                  length-set f.variables v1 (Some i) in omega arith in
                  let k1 = standing_set f.variables v1 a (Some i) s1 in
                  let k2 = standing_set us v2 a (Some j) s2 in
                  let z1 : one_at a (read f.variables v1) ≡ 0 = ap (one_at a) none1 in
                  let z2 : one_at a (read us v2) ≡ 0 = ap (one_at a) (get_or-set_other f.variables v1 v2 (Some i) None apart ∙ none2) in
                  let k3 = counts a in
                  omega arith;
              others = λ q a d. others_append self w.blocks (b1 ∷ b2 ∷ []) q a fresh d;
              channels = made_ends.channels_now p w.blocks self c fit.contract fit.contract_there h.holds.channels;
              queues = queues_append self w.blocks (b1 ∷ b2 ∷ []) fresh h.holds.queues;
              brought = λ a. brought_append p self w.blocks (b1 ∷ b2 ∷ []) a fresh (h.holds.brought a);
              held = made_ends.held_now p w.blocks self c fit.contract fit.contract_there h.holds.channels h.holds.held;
              declared = made_ends.declared_now p w.blocks self c fit.contract fit.contract_there h.holds.channels h.holds.held
                  h.holds.declared;
            }),
        cut,
      )

  types : TwoTypes c.contract.0 fit.first.ty fit.second.ty
  types = two_types c.contract.0 fit.first.ty fit.second.ty fit.ends

  apart : v2 ≢ v1
  apart e = by types.side types.first (ap (λ (z : VariableModel). stateless z.ty)
      (some_same fit.first fit.second (sym fit.first_there ∙ (ap (slice_get m.variables) (sym e) ∙ fit.second_there))) ∙ types.second)
    where
      by : (s : Side) → stateless fit.first.ty ≡ Endpoint record { 0 = c.contract.0 } s record { 0 = 0 }
          → stateless fit.first.ty ≡ Endpoint record { 0 = c.contract.0 } (other s) record { 0 = 0 } → ⊥
      by Imp x y = type_apart fit.first.ty c.contract.0 c.contract.0 x y
      by Exp x y = type_apart fit.first.ty c.contract.0 c.contract.0 y x

  end_true : (k : HeapType) (s : Side) → stateless k ≡ Endpoint record { 0 = c.contract.0 } s record { 0 = 0 } → is_end k ≡ true
  end_true k s e = end_stateless k ∙ ap is_end e

  leaf_one : (k : HeapType) → stateless k ≡ Endpoint record { 0 = c.contract.0 } Imp record { 0 = 0 } → HasLeaf bs' k n (leaf.State start)
  leaf_one k e = record {
    there = let l = long_now in omega arith;
    ty = type1 ∙ sym e;
    state =
        (end_true k Imp e, inl (ap (λ (b : Block). b.state) at1));
  }

  leaf_two : (k : HeapType) → stateless k ≡ Endpoint record { 0 = c.contract.0 } Exp record { 0 = 0 } → HasLeaf bs' k (n + 1) (leaf.State start)
  leaf_two k e = record {
    there = let l = long_now in omega arith;
    ty = type2 ∙ sym e;
    state =
        (end_true k Exp e, inl (ap (λ (b : Block). b.state) at2));
  }

  by_side : (s : Side) → stateless fit.first.ty ≡ Endpoint record { 0 = c.contract.0 } s record { 0 = 0 }
      → stateless fit.second.ty ≡ Endpoint record { 0 = c.contract.0 } (other s) record { 0 = 0 }
      → IsGood p w (Moved (on_world w self f next (set (set f.variables v1 (Some (if side_imp s then n else n + 1))) v2
      (Some (if side_imp s then n + 1 else n))) rest bs'))
  by_side Imp e1 e2 = pair_good n (n + 1) apart (leaf_one fit.first.ty e1) (leaf_two fit.second.ty e2) two_counts
  by_side Exp e1 e2 = pair_good (n + 1) n apart (leaf_two fit.first.ty e1) (leaf_one fit.second.ty e2)
      (λ a. let k = two_counts a in omega arith)

  pub good_channel : IsGood p w (outcome_from p bound w self f rest (Act (NewChannel c) next) choice)
  good_channel = subst (λ (b : Bool). IsGood p w (Moved
      (on_world w self f next (set (set f.variables v1 (Some (if b then n else n + 1))) v2 (Some (if b then n + 1 else n))) rest bs')))
      (sym (ap is_imp (type_of_variable p f.method m v1 fit.first h.there fit.first_there)
      ∙ (imp_stateless fit.first.ty ∙ (ap is_imp types.first ∙ imp_of c.contract.0 types.side))))
      (by_side types.side types.first types.second)
