use Rattle.std.proofs.Common.{◌≡◌, ◌+◌, [], ◌∷◌, ◌∙◌, ◌++◌, sym, ap, subst, map}
use Rattle.std.specs.Prelude.{get_or}
use Rattle.std.proofs.lemmas.List.{map-append}
use Rattle.machine.specs.BlockViews.{block_model, blocks_model, held_model}
use Rattle.machine.specs.Heaps.{QueuesBring, IsCounted, FieldsHold, of_process, one_if}
use Rattle.machine.specs.World.{is_process}
use Rattle.machine.proofs.CountLemmas.{counted_added, room_for}
use Rattle.machine.proofs.HeapLemmas.{brought_added}
use Rattle.machine.proofs.HeldLemmas.{held_added}
use Rattle.machine.proofs.heaps.BlockHeap.add_alone.Goals as goal

pub count_more-requires-clause-room : goal.count_more-requires-clause-room
count_more-requires-clause-room c = room_for c.list.new.self.blocks c.list.new.self.counts.items c.list.new.self.kept.counted

pub invariant_of-self-2 : goal.invariant_of-self-2
invariant_of-self-2 c =
    let old = blocks_model c.list.new.self.blocks.items in
    let b = block_model c.args.block in
    let counts = c.list.new.self.counts.items in
    let pushed : blocks_model c.push.new.self.items ≡ old ++ b ∷ [] =
    ap blocks_model c.in_ok-push.ensures.items ∙ map-append block_model c.list.new.self.blocks.items (c.args.block ∷ []) in
    record {
      kept = record {
        counted = subst (λ bs. IsCounted bs c.count_more.new.counts.items) (sym pushed)
            (counted_added old counts c.count_more.new.counts.items b c.list.new.self.kept.counted
            (λ q. c.count_more.ensures.more q ∙ ap (λ o. get_or counts q 0 + one_if (is_process o q)) (sym c.requires.owner)));
        brought = subst QueuesBring (sym pushed)
            (brought_added old b (ap of_process c.requires.owner) (ap (map held_model) c.requires.empty) c.list.new.self.kept.brought);
        held = subst FieldsHold (sym pushed) (held_added old b (ap of_process c.requires.owner) c.requires.holds_none c.list.new.self.kept.held);
      };
    }
