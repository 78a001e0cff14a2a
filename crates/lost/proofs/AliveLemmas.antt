-- No event frees a lost block, if fields hold what is inside blocks.
use Rattle.std.proofs.Common.{◌≡◌, ◌∷◌, ◌++◌, ◌∙◌, ◌==◌, ◌<◌, ℕ, zero, suc, Bool, true, false, List, [], Contains}
use Rattle.std.proofs.Common.{ap, arith, length, length-append, refl, subst, sym, ⊎_elim}
use Rattle.std.specs.Prelude.{◌||◌, if◌then◌else◌}
use Rattle.std.proofs.lemmas.Bool.Decides.{eqb_tells}
use Rattle.std.proofs.lemmas.List.{get_or_append_left}
use Rattle.program.specs.Lists.{is_among}
use Rattle.machine.specs.Blocks.{exchanged_block, freed_block, goes_with, in_block_of, in_queue_of, lies_in, received_block, sent_block}
use Rattle.machine.specs.Blocks.{with_new_owner}
use Rattle.machine.specs.Heaps.{FieldsHold, occurs, one_if}
use Rattle.machine.specs.World.{Block, MessageHeld, World, block_at, change_each, is_freed, is_inside, no_block}
use Rattle.machine.specs.declared.worlds.Owner.{Owner}
use Rattle.machine.specs.declared.worlds.Owner.TheVariants.{Channel, Freed, Inside, Process, Queue}
use Rattle.machine.proofs.ChangeLemmas.{changed_length}
use Rattle.machine.proofs.HeapLemmas.{at_changed}
use Rattle.lost.specs.Lost.{IsLost, IsReached, by_field}
use Rattle.lost.proofs.StayLemmas.{AreLasting}

-- what occurs in a list is in it
occurs_in : (xs : List ℕ) (n : ℕ) → occurs xs n ≡ 1 → Contains xs n
occurs_in [] n once = absurd (omega (arith, once))
occurs_in (x ∷ xs) n once = ⊎_elim
    (λ here. (0, omega arith, here.1))
    (λ other.
    let none : one_if (x == n) ≡ 0 = ap one_if other.0 in
    let rest = occurs_in xs n (omega (arith, none, once)) in
    let less = rest.1 in
    (suc rest.0, omega (arith, less), rest.2))
    (eqb_tells x n)

-- an owner that is a block which meets a condition
inside_of : (o : Owner) (P : ℕ → Bool) → in_block_of o P ≡ true → (b : ℕ) × (o ≡ Inside b) × (P b ≡ true)
inside_of (Inside b) P is = (b, refl, is)
inside_of (Process q) P is = absurd (cc)
inside_of (Queue b) P is = absurd (cc)
inside_of Channel P is = absurd (cc)
inside_of Freed P is = absurd (cc)

-- an owner that is not freed, whichever it is
pick_alive : (g : Bool) (to o : Owner) → is_freed to ≡ false → is_freed o ≡ false → is_freed (if g then to else o) ≡ false
pick_alive true to o first second = first
pick_alive false to o first second = second

-- ---- each change of a block
pub given_alive : (to : Owner) (given : List ℕ) (j : ℕ) (x : Block) → is_freed to ≡ false → is_freed x.owner ≡ false
    → is_freed (with_new_owner to given j x).owner ≡ false
given_alive to given j x new alive = pick_alive (is_among given j) to x.owner new alive

pub exchanged_alive : (self at field given held j : ℕ) (x : Block) → is_freed x.owner ≡ false
    → is_freed (exchanged_block self at field given held j x).owner ≡ false
exchanged_alive self at field given held j x alive =
    pick_alive (j == given) (Inside at) (if j == held then Process self else x.owner) refl
    (pick_alive (j == held) (Process self) x.owner refl alive)

pub sent_alive : (at state to : ℕ) (gone : Bool) (m : MessageHeld) (j : ℕ) (x : Block) → is_freed x.owner ≡ false
    → is_freed (sent_block at state to gone m j x).owner ≡ false
sent_alive at state to gone m j x alive =
    pick_alive (is_among m.payload j) (if gone then Channel else Queue to) x.owner (pick_alive gone Channel (Queue to) refl refl) alive

pub received_alive : (self at state : ℕ) (m : MessageHeld) (ms : List MessageHeld) (j : ℕ) (x : Block) → is_freed x.owner ≡ false
    → is_freed (received_block self at state m ms j x).owner ≡ false
received_alive self at state m ms j x alive = pick_alive (is_among m.payload j) (Process self) x.owner refl alive

freed_alive : (gone : ℕ → Bool) (j : ℕ) (x : Block) → gone j ≡ false → is_freed x.owner ≡ false
    → is_freed (freed_block gone j x).owner ≡ false
freed_alive gone j x stays alive = one (gone j) stays
  where
    one : (g : Bool) → g ≡ false
        → is_freed (if g then Freed else (if in_queue_of x.owner gone then Channel else x.owner)) ≡ false
    one true is = absurd (cc)
    one false is = pick_alive (in_queue_of x.owner gone) Channel x.owner refl alive

module _ (w : World) where
  -- ---- the blocks after an event
  pub same_lasting : AreLasting w w.blocks
  same_lasting = record { longer = omega arith; alive = λ fields a lost. lost.alive }

  pub change_lasting : (g : ℕ → Block → Block) → ((j : ℕ) (x : Block) → is_freed x.owner ≡ false → is_freed (g j x).owner ≡ false)
      → AreLasting w (change_each g w.blocks)
  change_lasting g each = record {
    longer = omega (arith, changed_length g w.blocks);
    alive = λ fields a lost.
        ap (λ (b : Block). is_freed b.owner) (at_changed g w.blocks a lost.there) ∙ each a (block_at w.blocks a) lost.alive;
  }

  pub append_lasting : (blocks more : List Block) → AreLasting w blocks → AreLasting w (blocks ++ more)
  append_lasting blocks more lasting = record {
    longer = let longer = lasting.longer in omega (arith, longer, length-append blocks more);
    alive = λ fields a lost.
        let there = lost.there in
        let longer = lasting.longer in
        let short : a < length blocks = omega (arith, there, longer) in
        ap (λ (b : Block). is_freed b.owner) (get_or_append_left blocks more no_block a short) ∙ lasting.alive fields a lost;
  }

  -- ---- a Delete
  inside_reached : FieldsHold w.blocks → (b j : ℕ) → (block_at w.blocks j).owner ≡ Inside b → IsReached w b → IsReached w j
  inside_reached fields b j is reached =
      let self : (b == b) ≡ true = ⊎_elim (λ h. h.0) (λ h. absurd (h.1 refl)) (eqb_tells b b) in
      by_field b j reached (occurs_in (block_at w.blocks b).fields j
      (fields.holds_are b j ∙ ap one_if (ap (λ (o : Owner). is_inside o b) is ∙ self)))

  goes_reached : FieldsHold w.blocks → (most at j : ℕ) → lies_in w.blocks most at j ≡ true → IsReached w at → IsReached w j
  goes_reached fields zero at j is reached = ⊎_elim
      (λ same. subst (IsReached w) (sym same.1) reached)
      (λ other. absurd (let no : (j == at) ≡ false = other.0 in cc))
      (eqb_tells j at)
  goes_reached fields (suc most) at j is reached = ⊎_elim
      (λ same. subst (IsReached w) (sym same.1) reached)
      (λ other.
      let inner = inside_of (block_at w.blocks j).owner (lies_in w.blocks most at)
      (ap (λ b. b || in_block_of (block_at w.blocks j).owner (lies_in w.blocks most at)) (sym other.0) ∙ is) in
      inside_reached fields inner.0 j inner.1 (goes_reached fields most at inner.0 inner.2 reached))
      (eqb_tells j at)

  stays_behind : FieldsHold w.blocks → (at a : ℕ) → IsReached w at → IsLost w a → goes_with w.blocks at a ≡ false
  stays_behind fields at a reached lost = one (goes_with w.blocks at a) refl
    where
      one : (g : Bool) → goes_with w.blocks at a ≡ g → g ≡ false
      one true is = absurd (lost.unreached (goes_reached fields (length w.blocks) at a is reached))
      one false is = refl

  pub freed_lasting : (at : ℕ) → IsReached w at → AreLasting w (change_each (freed_block (goes_with w.blocks at)) w.blocks)
  freed_lasting at reached =
      let gone = goes_with w.blocks at in
      record {
        longer = omega (arith, changed_length (freed_block gone) w.blocks);
        alive = λ fields a lost.
            ap (λ (b : Block). is_freed b.owner) (at_changed (freed_block gone) w.blocks a lost.there)
            ∙ freed_alive gone a (block_at w.blocks a) (stays_behind fields at a reached lost) lost.alive;
      }
