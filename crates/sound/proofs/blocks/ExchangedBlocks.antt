-- Exchange: the blocks after it.
use Rattle.std.proofs.Common.{◌≡◌, ◌≢◌, ◌==◌, ℕ, zero, suc, ◌+◌, ◌<◌, true, false, List, [], ◌∷◌, Some, length, refl, sym, ap, ◌∙◌, subst}
use Rattle.std.proofs.Common.{arith, inl, inr, ⊎_elim, set}
use Rattle.std.proofs.lemmas.Bool.{cases_eq}
use Rattle.std.specs.Prelude.{Option, ◌⊎◌, slice_get}
use Rattle.program.specs.Programs.{ProgramModel}
use Rattle.program.specs.WellFormed.{field_types, is_end}
use Rattle.program.specs.declared.types.HeapType.{HeapType}
use Rattle.machine.specs.Blocks.{exchanged_block}
use Rattle.machine.specs.Heaps.{FieldsHold}
use Rattle.machine.specs.World.{Block, MessageHeld, World, block_at, change_each, is_freed_at, is_empty, is_freed, is_process, is_queue, owns, read}
use Rattle.machine.specs.declared.worlds.Owner.{Owner}
use Rattle.machine.specs.declared.worlds.Owner.TheVariants.{Process, Inside}
use Rattle.machine.proofs.HeldExchange as held_exchange
use Rattle.machine.proofs.Holding.{process_no_queue}
use Rattle.sound.proofs.Basics.{block_past, process_apart, read_there, standing_set}
use Rattle.sound.proofs.blocks.Blocks.{channels_same}
use Rattle.sound.proofs.Invariant.{one_if, one_at, standing, AreBrought, AreDeclared, BlocksFit, FieldsDeclared, HasLeaf, StaysCutOff}
use Rattle.sound.proofs.Invariant.{in_queue}
use Rattle.sound.proofs.Kept.{AreKept, brought_kept, declared_kept}
use Rattle.sound.proofs.Lists.{and_true, both_true}
use Rattle.rules.specs.Endpoints.{declared_leaf}
use Rattle.machine.proofs.ChangeLemmas.{changed_length, eqb_same, eqb_apart}

-- addresses are still as declared after one is replaced by another that is declared in the same way
declared_set : (bs : List Block) (types : List HeapType) (xs : List ℕ) (i x : ℕ) (k : HeapType) → slice_get types i ≡ Some k
    → HasLeaf bs k x (declared_leaf k) → AreDeclared bs types xs → AreDeclared bs types (set xs i x)
declared_set bs [] xs i x k e leaf h = absurd (cc)
declared_set bs (y ∷ types) [] i x k e leaf h = absurd h
declared_set bs (y ∷ types) (z ∷ xs) zero x k e leaf h =
    let s : y ≡ k = cc in
    (subst (λ (t : HeapType). HasLeaf bs t x (declared_leaf t)) (sym s) leaf, h.1)
declared_set bs (y ∷ types) (z ∷ xs) (suc i) x k e leaf h = (h.0, declared_set bs types xs i x k e leaf h.1)

-- the address at an index is as declared there
pub declared_get : (bs : List Block) (types : List HeapType) (xs : List ℕ) (i : ℕ) (k : HeapType) → slice_get types i ≡ Some k
    → AreDeclared bs types xs → (x : ℕ) × (slice_get xs i ≡ Some x) × HasLeaf bs k x (declared_leaf k)
declared_get bs [] xs i k e h = absurd (cc)
declared_get bs (y ∷ types) [] i k e h = absurd h
declared_get bs (y ∷ types) (z ∷ xs) zero k e h =
    let s : y ≡ k = cc in
    (z, refl, subst (λ (t : HeapType). HasLeaf bs t z (declared_leaf t)) s h.0)
declared_get bs (y ∷ types) (z ∷ xs) (suc i) k e h = declared_get bs types xs i k e h.1

module _ (p : ProgramModel) (w : World) (self : ℕ) (h : BlocksFit p w.blocks) (at field given held : ℕ)
    (owned_at : owns w.blocks self at ≡ true) (owned_given : owns w.blocks self given ≡ true) (apart : given ≢ at)
    (found : slice_get (block_at w.blocks at).fields field ≡ Some held) where
  abbrev pub bs' : List Block
  bs' = change_each (exchanged_block self at field given held) w.blocks

  pub is_at : (j : ℕ) → block_at bs' j ≡ exchanged_block self at field given held j (block_at w.blocks j)
  is_at = held_exchange.exchanged_at w.blocks self at field given held h.held owned_at owned_given apart found

  held_is : (block_at w.blocks held).owner ≡ Inside at
  held_is = held_exchange.held_is w.blocks self at field given held h.held owned_at owned_given apart found

  held_other : held ≢ given
  held_other = held_exchange.held_not_given w.blocks self at field given held h.held owned_at owned_given apart found

  owner_given : (j : ℕ) → j ≡ given → (block_at bs' j).owner ≡ Inside at
  owner_given = held_exchange.owner_given w.blocks self at field given held h.held owned_at owned_given apart found

  owner_held : (j : ℕ) → j ≡ held → (block_at bs' j).owner ≡ Process self
  owner_held = held_exchange.owner_held w.blocks self at field given held h.held owned_at owned_given apart found

  owner_other : (j : ℕ) → j ≢ given → j ≢ held → (block_at bs' j).owner ≡ (block_at w.blocks j).owner
  owner_other = held_exchange.owner_other w.blocks self at field given held h.held owned_at owned_given apart found

  pub long : length bs' ≡ length w.blocks
  long = changed_length (exchanged_block self at field given held) w.blocks

  pub held_now : FieldsHold bs'
  held_now = held_exchange.exchange_held w.blocks self at field given held h.held owned_at owned_given apart found

  -- nothing is freed, and no queue gains or loses a block
  freed_now : (j : ℕ) → is_freed_at bs' j ≡ is_freed_at w.blocks j
  freed_now = held_exchange.freed_now w.blocks self at field given held h.held owned_at owned_given apart found

  queue_now : (j a : ℕ) → is_queue (block_at bs' j).owner a ≡ is_queue (block_at w.blocks j).owner a
  queue_now j a = ⊎_elim
      (λ g. ap (λ (o : Owner). is_queue o a) (owner_given j g) ∙ sym (ap (λ (n : ℕ). is_queue (block_at w.blocks n).owner a) g
      ∙ process_no_queue (block_at w.blocks given).owner self a owned_given))
      (λ g. ⊎_elim
      (λ s. ap (λ (o : Owner). is_queue o a) (owner_held j s) ∙ sym (ap (λ (n : ℕ). is_queue (block_at w.blocks n).owner a) s
      ∙ ap (λ (o : Owner). is_queue o a) held_is))
      (λ s. ap (λ (o : Owner). is_queue o a) (owner_other j g s)) (cases_eq j held)) (cases_eq j given)

  pub cut_now : StaysCutOff w.blocks bs'
  cut_now = record {
    long = let e = long in omega arith;
    each = λ j short x.
        let k = and_true (is_freed_at w.blocks (block_at w.blocks j).peer) (is_empty (block_at w.blocks j).queue) x in
        both_true (is_freed_at bs' (block_at bs' j).peer) (is_empty (block_at bs' j).queue)
        (ap (is_freed_at bs') (ap (λ (b : Block). b.peer) (is_at j)) ∙ (freed_now (block_at w.blocks j).peer ∙ k.0))
        (ap (λ (b : Block). is_empty b.queue) (is_at j) ∙ k.1);
  }

  pub kept_now : (P : ℕ → Type 0) → AreKept w.blocks bs' P
  kept_now P j some short = record {
    there = let e = long in omega arith;
    ty = ap (λ (b : Block). b.ty) (is_at j);
    state = inl (ap (λ (b : Block). b.state) (is_at j));
  }

  pub fits_now : BlocksFit p bs'
  fits_now = record {
    channels = channels_same p w.blocks bs' (let e = long in omega arith)
        (λ j short. record {
          ty = ap (λ (b : Block). b.ty) (is_at j);
          peer = ap (λ (b : Block). b.peer) (is_at j);
          lives = λ l. sym (freed_now j) ∙ l;
          state = λ l. ap (λ (b : Block). b.state) (is_at j);
          queue = λ l. ap (λ (b : Block). b.queue) (is_at j);
        })
        (λ j past. ap (λ (b : Block). is_end b.ty) (block_past bs' j (let e = long in omega arith))) h.channels;
    queues = λ j x. ap (λ (b : Block). in_queue x b.queue) (is_at j) ∙ (h.queues j x ∙ sym (ap one_if (queue_now x j)));
    held = held_now;
  }

  pub brought_now : ((j : ℕ) → AreBrought p w.blocks (block_at w.blocks j).queue) → (j : ℕ) → AreBrought p bs' (block_at bs' j).queue
  brought_now were j = subst (λ (q : List MessageHeld). AreBrought p bs' q) (sym (ap (λ (b : Block). b.queue) (is_at j)))
      (brought_kept p w.blocks bs' (block_at w.blocks j).queue cut_now (kept_now (λ x. 0 < in_queue x (block_at w.blocks j).queue))
      (were j))

  type_now : (j : ℕ) → (block_at bs' j).ty ≡ (block_at w.blocks j).ty
  type_now j = ap (λ (b : Block). b.ty) (is_at j)

  old_declared : FieldsDeclared p w.blocks → (a : ℕ) → a < length w.blocks → is_freed_at bs' a ≡ false
      → AreDeclared bs' (field_types p.structs (block_at w.blocks a).ty) (block_at w.blocks a).fields
  old_declared were a short lives = declared_kept w.blocks bs' (field_types p.structs (block_at w.blocks a).ty)
      (block_at w.blocks a).fields cut_now (kept_now _) (were a short (sym (freed_now a) ∙ lives))

  pub declared_now : (k : HeapType) → slice_get (field_types p.structs (block_at w.blocks at).ty) field ≡ Some k
      → HasLeaf bs' k given (declared_leaf k) → FieldsDeclared p w.blocks → FieldsDeclared p bs'
  declared_now k is leaf were a within lives =
      let short : a < length w.blocks = let e = long in omega arith in
      subst (λ (t : HeapType). AreDeclared bs' (field_types p.structs t) (block_at bs' a).fields) (sym (type_now a))
      (⊎_elim
      (λ e. subst (λ (xs : List ℕ). AreDeclared bs' (field_types p.structs (block_at w.blocks a).ty) xs)
      (sym (held_exchange.fields_at w.blocks self at field given held h.held owned_at owned_given apart found a e))
      (declared_set bs' (field_types p.structs (block_at w.blocks a).ty) (block_at w.blocks a).fields field given k
      (ap (λ (n : ℕ). slice_get (field_types p.structs (block_at w.blocks n).ty) field) e ∙ is) leaf
      (old_declared were a short lives)))
      (λ n. subst (λ (xs : List ℕ). AreDeclared bs' (field_types p.structs (block_at w.blocks a).ty) xs)
      (sym (held_exchange.fields_other w.blocks self at field given held h.held owned_at owned_given apart found a n))
      (old_declared were a short lives)) (cases_eq a at))

  pub others_now : (q j : ℕ) → q ≢ self → owns bs' q j ≡ owns w.blocks q j
  others_now q j n = ⊎_elim
      (λ g. ap (λ (o : Owner). is_process o q) (owner_given j g) ∙ sym (ap (λ (i : ℕ). owns w.blocks q i) g
      ∙ process_apart (block_at w.blocks given).owner self q owned_given (λ s. n (sym s))))
      (λ g. ⊎_elim
      (λ s. ap (λ (o : Owner). is_process o q) (owner_held j s) ∙ (eqb_apart self q (λ e. n (sym e))
      ∙ sym (ap (λ (i : ℕ). owns w.blocks q i) s ∙ ap (λ (o : Owner). is_process o q) held_is)))
      (λ s. ap (λ (o : Owner). is_process o q) (owner_other j g s)) (cases_eq j held)) (cases_eq j given)

  pub counted_now : (vs : List (Option ℕ)) (v j : ℕ) → read vs v ≡ Some given
      → standing j (set vs v (Some held)) + one_if (owns w.blocks self j) ≡ standing j vs + one_if (owns bs' self j)
  counted_now vs v j is =
      let one = standing_set vs v j (Some held) (read_there vs v given is) in
      let was : one_at j (read vs v) ≡ one_if (given == j) = ap (one_at j) is in
      let owns_is = by (cases_eq j given) (cases_eq j held) in
      omega arith
    where
      by : (j ≡ given) ⊎ (j ≡ given → ⊥) → (j ≡ held) ⊎ (j ≡ held → ⊥)
          → one_if (held == j) + one_if (owns w.blocks self j) ≡ one_if (given == j) + one_if (owns bs' self j)
      by (inl g) s =
          let z1 : one_if (held == j) ≡ 0 = ap one_if (eqb_apart held j (λ e. held_other (e ∙ g))) in
          let z2 : one_if (given == j) ≡ 1 = ap one_if (eqb_same given j (sym g)) in
          let z3 : one_if (owns w.blocks self j) ≡ 1 = ap one_if (ap (λ (n : ℕ). owns w.blocks self n) g ∙ owned_given) in
          let z4 : one_if (owns bs' self j) ≡ 0 = ap one_if (ap (λ (o : Owner). is_process o self) (owner_given j g)) in
          omega arith
      by (inr g) (inl s) =
          let z1 : one_if (held == j) ≡ 1 = ap one_if (eqb_same held j (sym s)) in
          let z2 : one_if (given == j) ≡ 0 = ap one_if (eqb_apart given j (λ e. g (sym e))) in
          let z3 : one_if (owns w.blocks self j) ≡ 0 =
          ap one_if (ap (λ (n : ℕ). owns w.blocks self n) s ∙ ap (λ (o : Owner). is_process o self) held_is) in
          let z4 : one_if (owns bs' self j) ≡ 1 =
          ap one_if (ap (λ (o : Owner). is_process o self) (owner_held j s) ∙ eqb_same self self refl) in
          omega arith
      by (inr g) (inr s) =
          let z1 : one_if (held == j) ≡ 0 = ap one_if (eqb_apart held j (λ e. s (sym e))) in
          let z2 : one_if (given == j) ≡ 0 = ap one_if (eqb_apart given j (λ e. g (sym e))) in
          let z3 : one_if (owns bs' self j) ≡ one_if (owns w.blocks self j) =
          ap (λ (o : Owner). one_if (is_process o self)) (owner_other j g s) in
          omega arith
