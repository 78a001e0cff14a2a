-- Blocks of a process go to another owner, which is no queue and no block: channels, queues and fields are unchanged.
use Rattle.std.proofs.Common.{◌≡◌, ℕ, ◌<◌, Bool, true, false, List, length, refl, sym, ap, ◌∙◌, subst, arith, inl}
use Rattle.std.specs.Prelude.{if◌then◌else◌}
use Rattle.program.specs.Lists.{is_among}
use Rattle.program.specs.Programs.{ProgramModel}
use Rattle.program.specs.WellFormed.{is_end}
use Rattle.machine.specs.Blocks.{with_new_owner}
use Rattle.machine.specs.Heaps.{FieldsHold}
use Rattle.machine.specs.World.{Block, MessageHeld, block_at, owns, is_freed_at, is_empty, is_inside, is_queue, is_freed}
use Rattle.machine.proofs.Holding.{held_same, process_no_queue, process_not_freed, process_not_inside}
use Rattle.sound.proofs.Kept.{AreKept, LiesInside, SameFields, brought_kept}
use Rattle.sound.proofs.Lists.{and_true, both_true}
use Rattle.machine.specs.declared.worlds.Owner.{Owner}
use Rattle.sound.proofs.Basics.{block_past}
use Rattle.sound.proofs.blocks.Blocks.{channels_same}
use Rattle.sound.proofs.Invariant.{one_if, in_queue, AreBrought, BlocksFit, ChannelsFit, StaysCutOff}

module _ (p : ProgramModel) (bs bs' : List Block) (self : ℕ) (given : List ℕ) (to : Owner) (h : BlocksFit p bs)
    (mine : (x : ℕ) → is_among given x ≡ true → owns bs self x ≡ true) (lives : is_freed to ≡ false)
    (no_queue : (a : ℕ) → is_queue to a ≡ false)
    (long : length bs' ≡ length bs) (at : (j : ℕ) → block_at bs' j ≡ with_new_owner to given j (block_at bs j)) where
  owner_now : (j : ℕ) → (block_at bs' j).owner ≡ (if is_among given j then to else (block_at bs j).owner)
  owner_now j = ap (λ (b : Block). b.owner) (at j)

  pub freed_handed : (j : ℕ) → is_freed_at bs' j ≡ is_freed_at bs j
  freed_handed j = ap is_freed (owner_now j) ∙ by (is_among given j) refl
    where
      by : (b : Bool) → is_among given j ≡ b → is_freed (if b then to else (block_at bs j).owner) ≡ is_freed_at bs j
      by true e = lives ∙ sym (process_not_freed (block_at bs j).owner self (mine j e))
      by false e = refl

  pub cut_handed : StaysCutOff bs bs'
  cut_handed = record {
    long = omega arith;
    each = λ j short x.
        let k = and_true (is_freed_at bs (block_at bs j).peer) (is_empty (block_at bs j).queue) x in
        both_true (is_freed_at bs' (block_at bs' j).peer) (is_empty (block_at bs' j).queue)
        (ap (is_freed_at bs') (ap (λ (b : Block). b.peer) (at j)) ∙ (freed_handed (block_at bs j).peer ∙ k.0))
        (ap (λ (b : Block). is_empty b.queue) (at j) ∙ k.1);
  }

  pub kept_handed : (P : ℕ → Type 0) → AreKept bs bs' P
  kept_handed P j some short = record {
    there = omega arith;
    ty = ap (λ (b : Block). b.ty) (at j);
    state = inl (ap (λ (b : Block). b.state) (at j));
  }

  pub handed_channels : ChannelsFit p bs'
  handed_channels = channels_same p bs bs' (omega arith)
      (λ j short. record {
        ty = ap (λ (b : Block). b.ty) (at j);
        peer = ap (λ (b : Block). b.peer) (at j);
        lives =
            λ l. sym (freed_handed j) ∙ l;
        state = λ l. ap (λ (b : Block). b.state) (at j);
        queue = λ l. ap (λ (b : Block). b.queue)
            (at j);
      })
      (λ j past. ap (λ (b : Block). is_end b.ty) (block_past bs' j (omega arith))) h.channels

  pub handed_queues : (j x : ℕ) → in_queue x (block_at bs' j).queue ≡ one_if (is_queue (block_at bs' x).owner j)
  handed_queues j x = ap (λ (b : Block). in_queue x b.queue) (at j)
      ∙ (h.queues j x ∙ sym (ap one_if (ap (λ (o : Owner). is_queue o j) (owner_now x) ∙ by (is_among given x) refl)))
    where
      by : (b : Bool) → is_among given x ≡ b → is_queue (if b then to else (block_at bs x).owner) j ≡ is_queue (block_at bs x).owner j
      by true e = no_queue j ∙ sym (process_no_queue (block_at bs x).owner self j (mine x e))
      by false e = refl

  pub handed_brought : ((j : ℕ) → AreBrought p bs (block_at bs j).queue) → (j : ℕ) → AreBrought p bs' (block_at bs' j).queue
  handed_brought were j = subst (λ (q : List MessageHeld). AreBrought p bs' q) (sym (ap (λ (b : Block). b.queue) (at j)))
      (brought_kept p bs bs' (block_at bs j).queue cut_handed (kept_handed (λ x. 0 < in_queue x (block_at bs j).queue)) (were j))

  pub handed_same : SameFields p bs bs'
  handed_same = record {
    cut = cut_handed;
    kept = kept_handed (LiesInside bs);
    types = λ j short. ap (λ (b : Block). b.ty) (at j);
    lives = λ j short l. sym (freed_handed j) ∙ l;
    fields = λ j short l. ap (λ (b : Block). b.fields) (at j);
  }

  -- the new owner is no block
  module _ (no_block : (b : ℕ) → is_inside to b ≡ false) where
    handed_inside : (j b : ℕ) → is_inside (block_at bs' j).owner b ≡ is_inside (block_at bs j).owner b
    handed_inside j b = ap (λ (o : Owner). is_inside o b) (owner_now j) ∙ by (is_among given j) refl
      where
        by : (t : Bool) → is_among given j ≡ t
            → is_inside (if t then to else (block_at bs j).owner) b ≡ is_inside (block_at bs j).owner b
        by true e = no_block b ∙ sym (process_not_inside (block_at bs j).owner self b (mine j e))
        by false e = refl

    pub handed_held : FieldsHold bs'
    handed_held = held_same bs bs' (λ j. ap (λ (b : Block). b.fields) (at j)) handed_inside freed_handed h.held

    pub handed_fits : BlocksFit p bs'
    handed_fits = record { channels = handed_channels; queues = handed_queues; held = handed_held }
