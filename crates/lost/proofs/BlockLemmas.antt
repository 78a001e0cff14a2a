-- Blocks after an event hold what was reached before, or is new.
use Rattle.std.proofs.Common.{◌⊎◌, ◌∷◌, ◌++◌, ◌==◌, ◌≤◌, ℕ, zero, suc, Bool, true, false, List, [], Contains}
use Rattle.std.proofs.Common.{arith, inl, inr, refl, set, subst, sym, ⊎_elim}
use Rattle.std.specs.Prelude.{◌&&◌, not, if◌then◌else◌}
use Rattle.std.proofs.lemmas.List.Elements.{Contains-push_cases}
use Rattle.program.specs.declared.types.HeapType.{HeapType}
use Rattle.machine.specs.Blocks.{exchanged_block, freed_block, new_block, received_block, sent_block}
use Rattle.machine.specs.World.{Block, MessageHeld, World, block_at}
use Rattle.lost.specs.Marks.{Brings}
use Rattle.lost.proofs.MarkLemmas.{none_in}
use Rattle.lost.proofs.StayLemmas.{AreListed, IsOldOrNew, KeepsBlock, from_set, no_block_kept}

-- both of two numbers are large enough
pub either : (n : ℕ) (b : Bool) (x y : ℕ) → n ≤ x → n ≤ y → n ≤ (if b then x else y)
either n true x y first second = first
either n false x y first second = second

module _ (w : World) (self : ℕ) where
  pub freed_kept : (gone : ℕ → Bool) (b : ℕ) (x : Block) → KeepsBlock w x → KeepsBlock w (freed_block gone b x)
  freed_kept gone b x block = one (gone b)
    where
      one : (g : Bool) (a : ℕ) → Contains (if g then [] else x.fields) a ⊎ Brings (if g then [] else x.queue) a → IsOldOrNew w a
      one true a has = ⊎_elim (λ field. absurd (none_in [] a refl field)) (λ message. absurd (none_in [] message.0 refl message.1)) has
      one false a has = block a has

  pub exchanged_kept : (at field given held b : ℕ) (x : Block) → IsOldOrNew w given → KeepsBlock w x
      → KeepsBlock w (exchanged_block self at field given held b x)
  exchanged_kept at field given held b x new block = one (b == at)
    where
      one : (g : Bool) (a : ℕ) → Contains (if g then set x.fields field given else x.fields) a ⊎ Brings x.queue a → IsOldOrNew w a
      one true a has = ⊎_elim
          (λ inside. ⊎_elim (λ old. block a (inl old)) (λ same. subst (IsOldOrNew w) same new) (from_set x.fields field given a inside))
          (λ message. block a (inr message))
          has
      one false a has = block a has

  pub sent_kept : (at state to : ℕ) (gone : Bool) (m : MessageHeld) (b : ℕ) (x : Block) → AreListed w m.payload → KeepsBlock w x
      → KeepsBlock w (sent_block at state to gone m b x)
  sent_kept at state to gone m b x listed block = one ((b == to) && not gone)
    where
      one : (g : Bool) (a : ℕ) → Contains x.fields a ⊎ Brings (if g then x.queue ++ m ∷ [] else x.queue) a → IsOldOrNew w a
      one true a has = ⊎_elim
          (λ field. block a (inl field))
          (λ message. ⊎_elim
          (λ old. block a (inr (message.0, old, message.2)))
          (λ same. listed a (subst (λ (n : MessageHeld). Contains n.payload a) (sym same) message.2))
          (Contains-push_cases x.queue m message.0 message.1))
          has
      one false a has = block a has

  pub received_kept : (at state : ℕ) (m : MessageHeld) (ms : List MessageHeld) (b : ℕ) (x : Block)
      → ((a : ℕ) → Brings ms a → IsOldOrNew w a) → KeepsBlock w x → KeepsBlock w (received_block self at state m ms b x)
  received_kept at state m ms b x left block = one (b == at)
    where
      one : (g : Bool) (a : ℕ) → Contains x.fields a ⊎ Brings (if g then ms else x.queue) a → IsOldOrNew w a
      one true a has = ⊎_elim (λ field. block a (inl field)) (λ message. left a message) has
      one false a has = block a has

  pub made_kept : (ty : HeapType) (peer state : ℕ) (fields : List ℕ) → AreListed w fields
      → KeepsBlock w (new_block ty self peer state fields)
  made_kept ty peer state fields listed a has =
      ⊎_elim (λ field. listed a field) (λ message. absurd (none_in [] message.0 refl message.1)) has

  pub no_more : (b : ℕ) → KeepsBlock w (block_at [] b)
  no_more b = no_block_kept w b [] (omega arith)

  pub one_more : (x : Block) (more : List Block) → KeepsBlock w x → ((b : ℕ) → KeepsBlock w (block_at more b))
      → (b : ℕ) → KeepsBlock w (block_at (x ∷ more) b)
  one_more x more block all zero = block
  one_more x more block all (suc b) = all b

  pub nothing_listed : AreListed w []
  nothing_listed a has = absurd (none_in [] a refl has)
