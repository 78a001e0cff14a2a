-- Delete: a block is freed.
use Rattle.std.proofs.Common.{◌≡◌, ◌≢◌, ◌==◌, ◌&&◌, ℕ, ◌+◌, ◌<◌, Bool, true, false, not, List, [], ◌∷◌, Some, None, length, refl, sym, ap}
use Rattle.std.proofs.Common.{◌∙◌, subst, arith, inl, inr, ⊎_elim, set}
use Rattle.std.proofs.lemmas.Bool.{cases_Bool, cases_eq}
use Rattle.std.specs.Prelude.{Option, ◌⊎◌, if◌then◌else◌}
use Rattle.program.specs.Methods.{MethodModel}
use Rattle.program.specs.Programs.{ProgramModel}
use Rattle.program.specs.WellFormed.{is_end}
use Rattle.program.specs.declared.statement.Mention.{Mention}
use Rattle.program.specs.declared.statement.Action.TheVariants.{Delete}
use Rattle.flow.specs.Graphs.{Act}
use Rattle.rules.specs.Mentions.{is_lent, require_owned, require_not_lent}
use Rattle.rows.specs.Rows.{is_owned}
use Rattle.rows.specs.declared.row.Leaf.TheVariants as leaf
use Rattle.machine.specs.Blocks.{freed_block, goes_with}
use Rattle.machine.specs.Heaps.{FieldsHold, of_process}
use Rattle.machine.specs.Frames.{address}
use Rattle.machine.specs.Outcomes.{Moved, QueueBounds, test}
use Rattle.machine.specs.World.{MessageHeld, Block, Frame, World, block_at, read, owns, is_freed_at, is_process, is_queue, is_freed}
use Rattle.machine.specs.World.{is_empty, change_each}
use Rattle.machine.specs.declared.halts.Fault.TheVariants.{F2}
use Rattle.machine.specs.declared.worlds.Owner.TheVariants.{Process, Queue, Inside, Channel, Freed}
use Rattle.machine.specs.declared.worlds.Owner.{Owner}
use Rattle.machine.proofs.Chains.{goes_self}
use Rattle.machine.proofs.HeapLemmas.{of_some}
use Rattle.machine.proofs.Holding.{fields_stay, gone_no_process, gone_no_queue, held_freed, left_at, unqueued, unqueued_same}
use Rattle.sound.proofs.Basics.{standing_set, read_there, block_past, process_apart}
use Rattle.sound.proofs.blocks.Blocks.{channels_same}
use Rattle.sound.proofs.Checks.{all_pass, passed_goes, not_refused}
use Rattle.sound.proofs.Invariant.{one_if, one_at, standing, BlocksFit, blocks_fit, StaysCutOff, in_queue, AreBrought, ChannelsFit}
use Rattle.sound.proofs.Invariant.{FieldsDeclared}
use Rattle.sound.proofs.Kept.{lent_stays_set, on_world, goes_on, AreKept, LiesInside, SameFields, all_fields_kept, row_kept, brought_kept}
use Rattle.sound.proofs.Lists.{not_false, and_true, both_true}
use Rattle.sound.proofs.Quiet.{contains_first, own_holds}
use Rattle.sound.proofs.Here.{IsGood, tested_good, test_holds, row_set, Here, owned_is}
use Rattle.machine.specs.Instructions.{outcome_from}
use Rattle.machine.specs.World.{is_own}
use Rattle.machine.proofs.ChangeLemmas.{changed_length, eqb_same, eqb_apart, true≢false}

-- ---- owners
-- the owner of a block that goes or remains
abbrev owner_then : (goes : ℕ → Bool) → Bool → Owner → Owner
owner_then goes t o = if t then Freed else unqueued goes o

then_process : (goes : ℕ → Bool) (t : Bool) (q : ℕ) (o : Owner) → is_process (owner_then goes t o) q ≡ not t && is_process o q
then_process goes true q o = refl
then_process goes false q o = unqueued_same (λ (x : Owner). is_process x q) goes o (λ n. refl)

then_freed : (goes : ℕ → Bool) (t : Bool) (o : Owner) → is_freed (owner_then goes t o) ≡ false → (t ≡ false) × (is_freed o ≡ false)
then_freed goes true o e = absurd (cc)
then_freed goes false o e = (refl, sym (unqueued_same is_freed goes o (λ n. refl)) ∙ e)

-- a freed block remains freed
then_stays : (goes : ℕ → Bool) (t : Bool) (o : Owner) → is_freed o ≡ true → is_freed (owner_then goes t o) ≡ true
then_stays goes true o e = refl
then_stays goes false o e = unqueued_same is_freed goes o (λ n. refl) ∙ e

-- the queue of a block that goes owns nothing
then_empty : (goes : ℕ → Bool) (t : Bool) (c : ℕ) (o : Owner) → goes c ≡ true → is_queue (owner_then goes t o) c ≡ false
then_empty goes true c o e = refl
then_empty goes false c (Process n) e = refl
then_empty goes false c (Queue n) e = by (goes n) refl
  where
    by : (b : Bool) → goes n ≡ b → is_queue (if b then Channel else Queue n) c ≡ false
    by true k = refl
    by false k = eqb_apart n c (λ s. true≢false (ap goes s ∙ e) k)
then_empty goes false c (Inside n) e = refl
then_empty goes false c Channel e = refl
then_empty goes false c Freed e = refl

-- the queue of a block that remains owns what it owned
then_queue : (goes : ℕ → Bool) (c : ℕ) (o : Owner) → goes c ≡ false → is_queue (owner_then goes false o) c ≡ is_queue o c
then_queue goes c (Process n) e = refl
then_queue goes c (Queue n) e = by (goes n) refl
  where
    by : (b : Bool) → goes n ≡ b → is_queue (if b then Channel else Queue n) c ≡ (n == c)
    by true k = sym (eqb_apart n c (λ s. true≢false k (ap goes s ∙ e)))
    by false k = refl
then_queue goes c (Inside n) e = refl
then_queue goes c Channel e = refl
then_queue goes c Freed e = refl

module _ (p : ProgramModel) (w : World) (self : ℕ) (h : BlocksFit p w.blocks) (a : ℕ) (owned : owns w.blocks self a ≡ true) where
  abbrev pub goes : ℕ → Bool
  goes = goes_with w.blocks a

  own : of_process (block_at w.blocks a).owner ≡ true
  own = of_some (block_at w.blocks a).owner self owned

  abbrev pub bs' : List Block
  bs' = change_each (freed_block goes) w.blocks

  pub at : (j : ℕ) → block_at bs' j ≡ freed_block goes j (block_at w.blocks j)
  at = left_at w.blocks a h.held own

  owner_at : (j : ℕ) → (block_at bs' j).owner ≡ owner_then goes (goes j) (block_at w.blocks j).owner
  owner_at j = ap (λ (b : Block). b.owner) (at j)

  long : length bs' ≡ length w.blocks
  long = changed_length (freed_block goes) w.blocks

  kept_all : (P : ℕ → Type 0) → AreKept w.blocks bs' P
  kept_all P j some short = record {
    there = let e = long in omega arith;
    ty = ap (λ (b : Block). b.ty) (at j);
    state = inl (ap (λ (b : Block). b.state) (at j));
  }

  pub queue_other : (j : ℕ) → goes j ≡ false → (block_at bs' j).queue ≡ (block_at w.blocks j).queue
  queue_other j n = ap (λ (b : Block). b.queue) (at j) ∙ ap (λ (t : Bool). if t then [] else (block_at w.blocks j).queue) n

  pub queue_it : (j : ℕ) → goes j ≡ true → (block_at bs' j).queue ≡ []
  queue_it j e = ap (λ (b : Block). b.queue) (at j) ∙ ap (λ (t : Bool). if t then [] else (block_at w.blocks j).queue) e

  -- a block that is not freed now remains, and was not freed before
  lived : (j : ℕ) → is_freed_at bs' j ≡ false → (goes j ≡ false) × (is_freed_at w.blocks j ≡ false)
  lived j l = then_freed goes (goes j) (block_at w.blocks j).owner (sym (ap is_freed (owner_at j)) ∙ l)

  pub cut : StaysCutOff w.blocks bs'
  cut = record {
    long = let e = long in omega arith;
    each = λ j short c.
        let k = and_true (is_freed_at w.blocks (block_at w.blocks j).peer) (is_empty (block_at w.blocks j).queue) c in
        let peer : (block_at bs' j).peer ≡ (block_at w.blocks j).peer = ap (λ (b : Block). b.peer) (at j) in
        let gone : is_freed_at bs' (block_at w.blocks j).peer ≡ true =
        ap is_freed (owner_at (block_at w.blocks j).peer)
        ∙ then_stays goes (goes (block_at w.blocks j).peer) (block_at w.blocks (block_at w.blocks j).peer).owner k.0 in
        both_true (is_freed_at bs' (block_at bs' j).peer) (is_empty (block_at bs' j).queue) (ap (is_freed_at bs') peer ∙ gone)
        (⊎_elim (λ e. ap is_empty (queue_it j e)) (λ n. ap is_empty (queue_other j n) ∙ k.1) (cases_Bool (goes j)));
  }

  pub channels : ChannelsFit p bs'
  channels = channels_same p w.blocks bs' (let e = long in omega arith)
      (λ j short. record {
        ty = ap (λ (b : Block). b.ty) (at j);
        peer = ap (λ (b : Block). b.peer) (at j);
        lives = λ l. (lived j l).1;
        state = λ l. ap (λ (b : Block). b.state) (at j);
        queue = λ l. queue_other j (lived j l).0;
      })
      (λ j past. ap (λ (b : Block). is_end b.ty) (block_past bs' j (let e = long in omega arith)))
      h.channels

  pub queues : (j x : ℕ) → in_queue x (block_at bs' j).queue ≡ one_if (is_queue (block_at bs' x).owner j)
  queues j x = ⊎_elim gone stays (cases_Bool (goes j))
    where
      gone : goes j ≡ true → in_queue x (block_at bs' j).queue ≡ one_if (is_queue (block_at bs' x).owner j)
      gone e = ap (in_queue x) (queue_it j e) ∙ sym (ap one_if (ap (λ (o : Owner). is_queue o j) (owner_at x)
          ∙ then_empty goes (goes x) j (block_at w.blocks x).owner e))

      same : goes j ≡ false → (b : Bool) → goes x ≡ b
          → is_queue (owner_then goes b (block_at w.blocks x).owner) j ≡ is_queue (block_at w.blocks x).owner j
      same n true e = sym (gone_no_queue w.blocks a h.held own x j e)
      same n false e = then_queue goes j (block_at w.blocks x).owner n

      stays : goes j ≡ false → in_queue x (block_at bs' j).queue ≡ one_if (is_queue (block_at bs' x).owner j)
      stays n = ap (in_queue x) (queue_other j n)
          ∙ (h.queues j x ∙ sym (ap one_if (ap (λ (o : Owner). is_queue o j) (owner_at x) ∙ same n (goes x) refl)))

  pub held_now : FieldsHold bs'
  held_now = held_freed w.blocks a h.held own

  fields_now : SameFields p w.blocks bs'
  fields_now = record {
    cut = cut;
    kept = kept_all (LiesInside w.blocks);
    types = λ j short. ap (λ (b : Block). b.ty) (at j);
    lives = λ j short l. (lived j l).1;
    fields = λ j short l. fields_stay w.blocks a h.held own j (lived j l).0;
  }

  declared : FieldsDeclared p w.blocks → FieldsDeclared p bs'
  declared were = all_fields_kept p w.blocks bs' h.held fields_now long were

  brought : ((j : ℕ) → AreBrought p w.blocks (block_at w.blocks j).queue) → (j : ℕ) → AreBrought p bs' (block_at bs' j).queue
  brought was j = ⊎_elim (λ e. subst (λ (q : List MessageHeld). AreBrought p bs' q) (sym (queue_it j e)) tt)
      (λ n. subst (λ (q : List MessageHeld). AreBrought p bs' q) (sym (queue_other j n))
      (brought_kept p w.blocks bs' (block_at w.blocks j).queue cut (kept_all (λ x. 0 < in_queue x (block_at w.blocks j).queue))
      (was j))) (cases_Bool (goes j))

  owns_now : (q j : ℕ) → owns bs' q j ≡ not (goes j) && owns w.blocks q j
  owns_now q j = ap (λ (o : Owner). is_process o q) (owner_at j) ∙ then_process goes (goes j) q (block_at w.blocks j).owner

  -- no process owned a block that goes, except the block itself
  not_owned : (q j : ℕ) → goes j ≡ true → j ≢ a → owns w.blocks q j ≡ false
  not_owned q j e n = gone_no_process w.blocks a h.held own j q e n

  others : (q j : ℕ) → q ≢ self → owns bs' q j ≡ owns w.blocks q j
  others q j n = owns_now q j ∙ by (goes j) refl
    where
      by : (b : Bool) → goes j ≡ b → not b && owns w.blocks q j ≡ owns w.blocks q j
      by true e = sym (⊎_elim
          (λ s. process_apart (block_at w.blocks j).owner self q (ap (λ (k : ℕ). owns w.blocks self k) s ∙ owned) (λ k. n (sym k)))
          (λ s. not_owned q j e s) (cases_eq j a))
      by false e = refl

  counted : (vs : List (Option ℕ)) (v j : ℕ) → read vs v ≡ Some a
      → standing j (set vs v None) + one_if (owns w.blocks self j) ≡ standing j vs + one_if (owns bs' self j)
  counted vs v j is =
      let one = standing_set vs v j None (read_there vs v a is) in
      let was : one_at j (read vs v) ≡ one_if (a == j) = ap (one_at j) is in
      let now : one_if (owns bs' self j) ≡ one_if (not (goes j) && owns w.blocks self j) = ap one_if (owns_now self j) in
      by (cases_eq j a) one was now
    where
      by : (j ≡ a) ⊎ (j ≡ a → ⊥) → standing j (set vs v None) + one_at j (read vs v) ≡ standing j vs + 0
          → one_at j (read vs v) ≡ one_if (a == j) → one_if (owns bs' self j) ≡ one_if (not (goes j) && owns w.blocks self j)
          → standing j (set vs v None) + one_if (owns w.blocks self j) ≡ standing j vs + one_if (owns bs' self j)
      by (inl e) one was now =
          let k1 : one_if (a == j) ≡ 1 = ap one_if (eqb_same a j (sym e)) in
          let k2 : one_if (owns w.blocks self j) ≡ 1 = ap one_if (ap (λ (k : ℕ). owns w.blocks self k) e ∙ owned) in
          let k3 : one_if (not (goes j) && owns w.blocks self j) ≡ 0 =
          ap (λ (b : Bool). one_if (not b && owns w.blocks self j)) (ap goes e ∙ goes_self w.blocks h.held.rooted a) in
          omega arith
      by (inr n) one was now =
          let k1 : one_if (a == j) ≡ 0 = ap one_if (eqb_apart a j (λ e. n (sym e))) in
          let k3 : one_if (not (goes j) && owns w.blocks self j) ≡ one_if (owns w.blocks self j) =
          ap one_if (⊎_elim
          (λ e. ap (λ (b : Bool). not b && owns w.blocks self j) e ∙ sym (not_owned self j e n))
          (λ f. ap (λ (b : Bool). not b && owns w.blocks self j) f) (cases_Bool (goes j))) in
          omega arith

pub good_delete : (p : ProgramModel) (bound : QueueBounds) (w : World) (self choice : ℕ) (f : Frame) (rest : List Frame) (m : MethodModel)
    (v : Mention) (next : ℕ)
    → Here p w self f rest m (Act (Delete v) next) → IsGood p w (outcome_from p bound w self f rest (Act (Delete v) next) choice)
good_delete p bound w self choice f rest m v next h =
    let row' = set h.row v.variable.0 leaf.Nothing in
    let vs' = set f.variables v.variable.0 None in
    let checks = require_not_lent m v ∷ require_owned h.row v ∷ [] in
    let passed = all_pass checks ((next, row') ∷ []) h.passes in
    let own = not_refused (is_lent m v.variable.0) _ passed.0 in
    let owned = not_false (is_owned h.row v.variable.0) (not_refused (not (is_owned h.row v.variable.0)) _ passed.1.0) in
    let o = owned_is p w self f rest m h.row v.variable.0 h.holds h.is h.fits owned in
    let a = o.at in
    let hb = blocks_fit p w h.holds in
    let bs = change_each (freed_block (goes_with w.blocks a)) w.blocks in
    let reached = h.onward ((next, row') ∷ []) (next, row') (passed_goes checks ((next, row') ∷ []) passed)
    (contains_first (next, row') []) in
    tested_good p w (test (is_own w.blocks self (read f.variables v.variable.0)) F2 ∷ []) _ (
      test_holds (is_own w.blocks self (read f.variables v.variable.0)) F2
          (own_holds p bound w self f rest (read f.variables v.variable.0) o.at o.is o.owned),
      tt,
    )
    (subst (λ (x : Option ℕ). IsGood p w (Moved (on_world w self f next vs' rest
    (change_each (freed_block (goes_with w.blocks (address x))) w.blocks))))
    (sym o.is) (
      goes_on p w self f rest m next vs' row' bs h.holds h.is h.there h.below reached
          (row_set bs m.variables f.variables h.row v.variable.0 None leaf.Nothing
          (row_kept w.blocks bs m.variables f.variables h.row (cut p w self hb a o.owned)
          (kept_all p w self hb a o.owned (λ j. 0 < standing j f.variables)) h.fits)
          (λ y there. refl))
          (record {
            lent = lent_stays_set m.variables f.variables v.variable.0 None own;
            cut = cut p w self hb a o.owned;
            kept = kept_all p w self hb a o.owned (λ j. standing j f.variables ≡ 0);
            counted = λ j. counted p w self hb a o.owned f.variables v.variable.0 j o.is;
            others = others p w self hb a o.owned;
            channels = channels p w self hb a o.owned;
            queues = queues p w self hb a o.owned;
            brought = brought p w self hb a o.owned h.holds.brought;
            held = held_now p w self hb a o.owned;
            declared = declared p w self hb a o.owned h.holds.declared;
          }),
      cut p w self hb a o.owned,
    ))
