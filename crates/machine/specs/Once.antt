-- The invariant of a heap has at most one proof, and so has the order of bindings: ghost fields of the types
-- `BlockHeap` and `Variables` have these as their types, which requires it.
use Rattle.std.specs.Prelude.{◌≡◌, ℕ, ◌==◌, ◌<◌, true, false, List, length}
use Rattle.std.proofs.Common.{refl, sym, ap, ◌∙◌, subst, ⊎_elim}
use Rattle.std.proofs.lemmas.Bool.Decides.{eqb_tells}
use Rattle.std.proofs.Props.{props}
use Rattle.machine.specs.Bindings.{AreSorted, variable_at}
use Rattle.machine.specs.Heaps.{QueuesBring, IsCounted, IsHeap, FieldsHold, Rooted, top, below, occurs, one_if}
use Rattle.machine.specs.World.{Block, block_at, is_freed_at, is_inside}
use Rattle.machine.specs.declared.variables.Binding.{Binding}
use Rattle.machine.specs.declared.worlds.Owner.{Owner}
use Rattle.machine.specs.declared.worlds.Owner.TheVariants.{Inside}

outs_once : (bs : List Block) (x : ℕ) → IsProp ((b : ℕ) → is_inside (block_at bs x).owner b ≡ false)
outs_once bs x = Prim.hlevel props

owners_once : (o : Owner) (b : ℕ) → IsProp (o ≡ Inside b)
owners_once o b = Prim.hlevel props

one_owner : (o : Owner) (b c : ℕ) → o ≡ Inside b → o ≡ Inside c → b ≡ c
one_owner o b c e f = let g : Inside b ≡ Inside c = sym e ∙ f in cc

not_both : (o : Owner) (b : ℕ) → o ≡ Inside b → is_inside o b ≡ false → ⊥
not_both o b e out =
    let t : (b == b) ≡ false = sym (ap (λ (x : Owner). is_inside x b) e) ∙ out in
    let bad : true ≡ false = sym (⊎_elim (λ h. h.0) (λ h. absurd (h.1 refl)) (eqb_tells b b)) ∙ t in
    absurd (cc)

-- the chain of owners from an address is unique
rooted_once : (bs : List Block) (x : ℕ) → IsProp (Rooted bs x)
rooted_once bs x (top a out) (top a2 out2) = λ i. top x (outs_once bs x out out2 i)
rooted_once bs x (top a out) (below a2 b e r) = absurd (not_both (block_at bs x).owner b e (out b))
rooted_once bs x (below a b e r) (top a2 out) = absurd (not_both (block_at bs x).owner b e (out b))
rooted_once bs x (below a b e r) (below a2 c f s) =
    subst (λ (n : ℕ). (g : (block_at bs x).owner ≡ Inside n) (t : Rooted bs n) → Path (Rooted bs x) (below x b e r) (below x n g t))
    (one_owner (block_at bs x).owner b c e f)
    (λ g t i. below x b (owners_once (block_at bs x).owner b e g i) (rooted_once bs b r t i)) f s

counts_once : (bs : List Block) (counts : List ℕ) → IsProp (IsCounted bs counts)
counts_once bs counts = Prim.hlevel props

brought_once : (bs : List Block) → IsProp (QueuesBring bs)
brought_once bs = Prim.hlevel props

fields_once : (bs : List Block) → IsProp ((a j : ℕ) → occurs (block_at bs a).fields j ≡ one_if (is_inside (block_at bs j).owner a))
fields_once bs = Prim.hlevel props

alive_once : (bs : List Block) → IsProp ((j a : ℕ) → is_inside (block_at bs j).owner a ≡ true → is_freed_at bs a ≡ false)
alive_once bs = Prim.hlevel props

held_once : (bs : List Block) → IsProp (FieldsHold bs)
held_once bs h k = λ i. record {
  holds_are = fields_once bs h.holds_are k.holds_are i;
  rooted = λ x. rooted_once bs x (h.rooted x) (k.rooted x) i;
  alive = alive_once bs h.alive k.alive i;
}

pub heap_once : (bs : List Block) (counts : List ℕ) → IsProp (IsHeap bs counts)
heap_once bs counts h k = λ i. record {
  counted = counts_once bs counts h.counted k.counted i;
  brought = brought_once bs h.brought k.brought i;
  held = held_once bs h.held k.held i;
}

rise_once : (bindings : List Binding) → IsProp ((i j : ℕ) → i < j → j < length bindings → variable_at bindings i < variable_at bindings j)
rise_once bindings = Prim.hlevel props

below_once : (count : ℕ) (bindings : List Binding) → IsProp ((i : ℕ) → i < length bindings → variable_at bindings i < count)
below_once count bindings = Prim.hlevel props

pub sorted_once : (count : ℕ) (bindings : List Binding) → IsProp (AreSorted count bindings)
sorted_once count bindings h k = λ i. record {
  rise = rise_once bindings h.rise k.rise i;
  below = below_once count bindings h.below k.below i;
}
