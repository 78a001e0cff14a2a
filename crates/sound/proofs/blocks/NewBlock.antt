-- New: the blocks after it, with one more that holds what is given.
use Rattle.std.proofs.Common.{◌≡◌, ◌≢◌, ◌&&◌, ℕ, ◌+◌, ◌<◌, Bool, true, false, not, List, [], ◌∷◌, ◌++◌, Some, length, refl, sym, ap, ◌∙◌}
use Rattle.std.proofs.Common.{subst, arith, inl, ⊎_elim}
use Rattle.std.proofs.lemmas.Bool.{cases_lt}
use Rattle.std.proofs.lemmas.List.{length-append}
use Rattle.std.specs.Prelude.{if◌then◌else◌}
use Rattle.program.specs.Lists.{is_among}
use Rattle.program.specs.Programs.{ProgramModel}
use Rattle.program.specs.WellFormed.{field_types, is_end}
use Rattle.program.specs.declared.types.HeapType.{HeapType}
use Rattle.machine.specs.Blocks.{with_new_owner}
use Rattle.machine.specs.Heaps.{FieldsHold}
use Rattle.machine.specs.World.{Block, World, block_at, is_freed, is_process, owns}
use Rattle.machine.specs.declared.worlds.Owner.TheVariants.{Inside}
use Rattle.machine.proofs.HeldNew as held_new
use Rattle.sound.proofs.Basics.{block_append, block_past, process_apart}
use Rattle.sound.proofs.blocks.Blocks.{AreFresh, channels_new, cut_append, brought_append, new_counts, fresh_one, others_append, queue_append}
use Rattle.sound.proofs.blocks.Blocks.{queues_append}
use Rattle.sound.proofs.blocks.HandedBlocks as handing
use Rattle.sound.proofs.Invariant.{one_if, one_at, standing_in, AreBrought, AreDeclared, BlocksFit, FieldsDeclared, StaysCutOff}
use Rattle.sound.proofs.Kept.{AreKept, LiesInside, SameFields, fields_kept, occurs_standing}

module _ (p : ProgramModel) (w : World) (self : ℕ) (h : BlocksFit p w.blocks) (given : List ℕ) (k : HeapType)
    (mine : (x : ℕ) → is_among given x ≡ true → owns w.blocks self x ≡ true)
    (once : (x : ℕ) → standing_in x given ≡ one_if (is_among given x)) (plain : is_end k ≡ false) where
  abbrev pub n : ℕ
  n = length w.blocks

  abbrev pub put : List Block
  put = held_new.put_in w.blocks self given k h.held mine (λ x. occurs_standing given x ∙ once x)

  abbrev pub b : Block
  b = held_new.made w.blocks self given k h.held mine (λ x. occurs_standing given x ∙ once x)

  abbrev pub grown : List Block
  grown = put ++ b ∷ []

  long : length put ≡ length w.blocks
  long = held_new.put_long w.blocks self given k h.held mine (λ x. occurs_standing given x ∙ once x)

  at : (j : ℕ) → block_at put j ≡ with_new_owner (Inside n) given j (block_at w.blocks j)
  at = held_new.put_at w.blocks self given k h.held mine (λ x. occurs_standing given x ∙ once x)

  pub last : block_at grown n ≡ b
  last = held_new.grown_new w.blocks self given k h.held mine (λ x. occurs_standing given x ∙ once x)

  fresh : AreFresh self (b ∷ [])
  fresh = fresh_one self k given

  pub held_now : FieldsHold grown
  held_now = held_new.new_held w.blocks self given k h.held mine (λ x. occurs_standing given x ∙ once x)

  pub fits_now : BlocksFit p grown
  fits_now = record {
    channels = channels_new p put b plain (handing.handed_channels p w.blocks put self given (Inside n) h mine refl (λ a. refl) long at);
    queues = queues_append self put (b ∷ []) fresh
        (handing.handed_queues p w.blocks put self given (Inside n) h mine refl (λ a. refl) long at);
    held = held_now;
  }

  pub there_now : n < length grown
  there_now = let e = long in let l = length-append put (b ∷ []) in omega arith

  cut_put : StaysCutOff w.blocks put
  cut_put = handing.cut_handed p w.blocks put self given (Inside n) h mine refl (λ a. refl) long at

  pub cut_now : StaysCutOff w.blocks grown
  cut_now = record {
    long = let e = long in let more = (cut_append put (b ∷ [])).long in omega arith;
    each = λ a short cut. (cut_append put (b ∷ [])).each a (let e = long in omega arith) (cut_put.each a short cut);
  }

  kept_put : (P : ℕ → Type 0) → AreKept w.blocks put P
  kept_put = handing.kept_handed p w.blocks put self given (Inside n) h mine refl (λ a. refl) long at

  pub kept_now : (P : ℕ → Type 0) → AreKept w.blocks grown P
  kept_now P a some short =
      let one = kept_put P a some short in
      let e = long in
      let old = block_append put (b ∷ []) a one.there in
      record {
        there = let more = length-append put (b ∷ []) in let t = one.there in omega arith;
        ty = ap (λ (x : Block). x.ty) old ∙ one.ty;
        state = inl (ap (λ (x : Block). x.state) old ∙ ap (λ (x : Block). x.state) (at a));
      }

  pub brought_now : ((j : ℕ) → AreBrought p w.blocks (block_at w.blocks j).queue) → (j : ℕ) → AreBrought p grown (block_at grown j).queue
  brought_now were j = brought_append p self put (b ∷ []) j fresh
      (handing.handed_brought p w.blocks put self given (Inside n) h mine refl (λ a. refl) long at were j)

  old : (j : ℕ) → j < n → block_at grown j ≡ with_new_owner (Inside n) given j (block_at w.blocks j)
  old = held_new.grown_old w.blocks self given k h.held mine (λ x. occurs_standing given x ∙ once x)

  fields_now : SameFields p w.blocks grown
  fields_now = record {
    cut = cut_now;
    kept = kept_now (LiesInside w.blocks);
    types = λ j short. ap (λ (x : Block). x.ty) (old j short);
    lives = λ j short l.
        sym (handing.freed_handed p w.blocks put self given (Inside n) h mine refl (λ a. refl) long at j)
        ∙ (ap (λ (x : Block). is_freed x.owner) (at j ∙ sym (old j short)) ∙ l);
    fields = λ j short l. ap (λ (x : Block). x.fields) (old j short);
  }

  pub declared_now : AreDeclared grown (field_types p.structs k) given → FieldsDeclared p w.blocks → FieldsDeclared p grown
  declared_now typed were j within lives = ⊎_elim
      (λ short. fields_kept p w.blocks grown j h.held fields_now were short lives)
      (λ past.
      let e : j ≡ n = let l = length-append put (b ∷ []) in let l2 = long in omega arith in
      subst (λ (x : Block). AreDeclared grown (field_types p.structs x.ty) x.fields) (sym (ap (block_at grown) e ∙ last)) typed)
      (cases_lt j n)

  owns_put : (q j : ℕ) → owns put q j ≡ not (is_among given j) && owns w.blocks q j
  owns_put q j = ap (λ (x : Block). is_process x.owner q) (at j) ∙ by (is_among given j)
    where
      by : (t : Bool) → is_process (if t then Inside n else (block_at w.blocks j).owner) q ≡ not t && owns w.blocks q j
      by true = refl
      by false = refl

  pub others_now : (q j : ℕ) → q ≢ self → owns grown q j ≡ owns w.blocks q j
  others_now q j n2 = others_append self put (b ∷ []) q j fresh n2 ∙ (owns_put q j ∙ by (is_among given j) refl)
    where
      by : (t : Bool) → is_among given j ≡ t → not t && owns w.blocks q j ≡ owns w.blocks q j
      by true e = sym (process_apart (block_at w.blocks j).owner self q (mine j e) (λ s. n2 (sym s)))
      by false e = refl

  -- the process owns the new block, and no longer what it gave
  pub counted_now : (j before after : ℕ) → after + one_if (is_among given j) ≡ before
      → (after + one_at j (Some n)) + one_if (owns w.blocks self j) ≡ before + one_if (owns grown self j)
  counted_now j before after e =
      let one : one_at j (Some (length put)) + one_if (owns put self j) ≡ one_if (owns grown self j) = new_counts self put b j refl in
      let two : one_at j (Some (length put)) ≡ one_at j (Some n) = ap (λ (i : ℕ). one_at j (Some i)) long in
      let three = by (is_among given j) refl in
      omega arith
    where
      by : (t : Bool) → is_among given j ≡ t → one_if (is_among given j) + one_if (owns put self j) ≡ one_if (owns w.blocks self j)
      by true t =
          let o : one_if (owns w.blocks self j) ≡ 1 = ap one_if (mine j t) in
          let z : one_if (is_among given j) ≡ 1 = ap one_if t in
          let z2 : one_if (owns put self j) ≡ 0 =
          ap one_if (owns_put self j ∙ ap (λ (s : Bool). not s && owns w.blocks self j) t) in
          omega arith
      by false t =
          let z : one_if (is_among given j) ≡ 0 = ap one_if t in
          let z2 : one_if (owns put self j) ≡ one_if (owns w.blocks self j) =
          ap one_if (owns_put self j ∙ ap (λ (s : Bool). not s && owns w.blocks self j) t) in
          omega arith

  -- a block that is no end has an empty queue
  pub plain_now : ((j : ℕ) → is_end (block_at w.blocks j).ty ≡ false → (block_at w.blocks j).queue ≡ [])
      → (j : ℕ) → is_end (block_at grown j).ty ≡ false → (block_at grown j).queue ≡ []
  plain_now were j no_end = queue_append self put (b ∷ []) j fresh ∙ (ap (λ (x : Block). x.queue) (at j) ∙ ⊎_elim
      (λ short. were j (sym (ap (λ (x : Block). is_end x.ty) (old j short)) ∙ no_end))
      (λ past. ap (λ (x : Block). x.queue) (block_past w.blocks j past)) (cases_lt j n))
