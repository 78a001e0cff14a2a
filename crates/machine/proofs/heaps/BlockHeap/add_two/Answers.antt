use Rattle.std.proofs.Common.{◌≡◌, ◌<◌, ◌≤◌, ◌^◌, ◌+◌, [], ◌∷◌, ◌++◌, ◌∙◌, sym, ap, subst, length, arith, map}
use Rattle.std.specs.Prelude.{get_or}
use Rattle.std.proofs.lemmas.List.{length_push, map-append}
use Rattle.machine.specs.BlockViews.{block_model, blocks_model, held_model}
use Rattle.machine.specs.Heaps.{QueuesBring, IsCounted, FieldsHold, of_process, one_if}
use Rattle.machine.specs.World.{is_process}
use Rattle.machine.specs.declared.worlds.Owner.TheVariants.{Process}
use Rattle.machine.proofs.CountLemmas.{counted_added, counted_most, one_or_none, room_for}
use Rattle.machine.proofs.HeapLemmas.{brought_added}
use Rattle.machine.proofs.HeldLemmas.{held_added}
use Rattle.machine.proofs.heaps.BlockHeap.add_two.Goals as goal

pub count_more-requires-clause-room : goal.count_more-requires-clause-room
count_more-requires-clause-room c = room_for c.list.new.self.blocks c.list.new.self.counts.items c.list.new.self.kept.counted

pub count_more-requires-2-clause-room : goal.count_more-requires-2-clause-room
count_more-requires-2-clause-room c = λ q.
    let old = c.list.new.self.blocks.items in
    let counts = c.list.new.self.counts.items in
    let most : get_or counts q 0 ≤ length old = counted_most old counts c.list.new.self.kept.counted q in
    let more : get_or c.count_more.new.counts.items q 0 ≡ get_or counts q 0 + one_if (is_process (Process c.args.process) q) = c.count_more.ensures.more q in
    let one : one_if (is_process (Process c.args.process) q) ≤ 1 = one_or_none (is_process (Process c.args.process) q) in
    let first : length c.push.new.self.items ≡ length old + 1 = ap length (c.in_ok-push.ensures.items ∙ ap (λ l. l ++ c.args.first ∷ []) c.in_ok-reserve.ensures.items) ∙ length_push old c.args.first in
    let second : length c.push-2.new.self.items ≡ length c.push.new.self.items + 1 = ap length c.in_ok-push-2.ensures.items ∙ length_push c.push.new.self.items c.args.second in
    let all : c.push-2.new.self.len ≡ length c.push-2.new.self.items = c.push-2.new.self.ok.0 in
    let fits : c.push-2.new.self.len ≤ c.push-2.new.self.cap = c.push-2.new.self.ok.1 in
    let small : c.push-2.new.self.cap < 2 ^ 63 = c.push-2.new.self.small in
    omega arith

pub invariant_of-self-2 : goal.invariant_of-self-2
invariant_of-self-2 c =
    let old = blocks_model c.list.new.self.blocks.items in
    let counts = c.list.new.self.counts.items in
    let b = block_model c.args.first in
    let d = block_model c.args.second in
    let one : blocks_model c.push.new.self.items ≡ old ++ b ∷ [] =
    ap blocks_model (c.in_ok-push.ensures.items ∙ ap (λ l. l ++ c.args.first ∷ []) c.in_ok-reserve.ensures.items) ∙ map-append block_model c.list.new.self.blocks.items (c.args.first ∷ []) in
    let two : blocks_model c.push-2.new.self.items ≡ (old ++ b ∷ []) ++ d ∷ [] =
    ap blocks_model c.in_ok-push-2.ensures.items ∙ (map-append block_model c.push.new.self.items (c.args.second ∷ []) ∙ ap (λ l. l ++ d ∷ []) one) in
    record {
      kept = record {
        counted = subst (λ bs. IsCounted bs c.count_more-2.new.counts.items) (sym two)
            (counted_added (old ++ b ∷ []) c.count_more.new.counts.items c.count_more-2.new.counts.items d
            (counted_added old counts c.count_more.new.counts.items b c.list.new.self.kept.counted
            (λ q. c.count_more.ensures.more q ∙ ap (λ o. get_or counts q 0 + one_if (is_process o q)) (sym c.requires.owner)))
            (λ q. c.count_more-2.ensures.more q ∙ ap (λ o. get_or c.count_more.new.counts.items q 0 + one_if (is_process o q)) (sym c.requires.owner_too)));
        brought = subst QueuesBring (sym two)
            (brought_added (old ++ b ∷ []) d (ap of_process c.requires.owner_too) (ap (map held_model) c.requires.empty_too)
            (brought_added old b (ap of_process c.requires.owner) (ap (map held_model) c.requires.empty) c.list.new.self.kept.brought));
        held = subst FieldsHold (sym two)
            (held_added (old ++ b ∷ []) d (ap of_process c.requires.owner_too) c.requires.holds_none_too
            (held_added old b (ap of_process c.requires.owner) c.requires.holds_none c.list.new.self.kept.held));
      };
    }
