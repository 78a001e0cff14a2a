use Rattle.std.proofs.Common.{List, ℕ, subst, sym}
use Rattle.machine.specs.Heaps.{IsHeap}
use Rattle.machine.specs.Views.{block_model, blocks_model}
use Rattle.machine.proofs.CopyLemmas.{cloned_map, cloned_numbers}
use Rattle.machine.proofs.heaps.BlockHeapClone.clone.Goals as goal

pub invariant_of-result : goal.invariant_of-result
invariant_of-result c =
    let h = c.args.self.now in
    record {
      kept = subst (λ bs. IsHeap bs c.in_ok-clone-2.field-0.items)
          (sym (cloned_map block_model h.blocks.items c.in_ok-clone.field-0.items c.in_ok-clone.ensures.cases.0))
          (subst (λ (ns : List ℕ). IsHeap (blocks_model h.blocks.items) ns)
          (sym (cloned_numbers h.counts.items c.in_ok-clone-2.field-0.items c.in_ok-clone-2.ensures.cases.0)) h.kept);
    }

pub returns : goal.returns
returns c = record {
  cases = cloned_map block_model c.args.self.now.blocks.items c.in_ok-clone.field-0.items c.in_ok-clone.ensures.cases.0;
}
