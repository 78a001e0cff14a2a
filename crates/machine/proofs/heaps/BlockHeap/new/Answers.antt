use Rattle.std.proofs.Common.{ℕ, List, [], ap, refl, sym, subst}
use Rattle.machine.specs.BlockViews.{blocks_model}
use Rattle.machine.specs.Heaps.{IsHeap, top}
use Rattle.machine.specs.World.{Block}
use Rattle.machine.proofs.heaps.BlockHeap.new.Goals as goal

pub invariant_of-result : goal.invariant_of-result
invariant_of-result c = record {
  kept = subst (λ (bs : List Block). IsHeap bs c.new-2.result.items) (sym (ap blocks_model c.new.ensures.items))
      (subst (λ (counts : List ℕ). IsHeap [] counts) (sym c.new-2.ensures.items) (record {
        counted = record { counts_are = λ q. refl };
        brought = record { brings_are = λ a j. refl };
        held = record { holds_are = λ a j. refl; rooted = λ j. top j (λ b. refl); alive = λ j a e. refl };
      }));
}
