use Rattle.std.proofs.Common.{arith, ◌+◌, ◌^◌, ap, sym, ◌∷◌, [], ◌≡◌, ◌<◌, ◌≤◌, ◌∙◌, length, subst}
use Rattle.std.specs.Prelude.{get_or}
use Rattle.machine.specs.BlockViews.{block_model, blocks_model}
use Rattle.machine.specs.World.{Block, block_at, is_process}
use Rattle.machine.specs.Heaps.{IsCounted, one_if, owned_by}
use Rattle.machine.proofs.ChangeLemmas.{hands_one, hands_none, handed_at, seen_at, seen_length, seen_set}
use Rattle.machine.proofs.CountLemmas.{counted_moved, owned_most, some_counted}
use Rattle.machine.specs.Blocks.{with_new_owner}
use Rattle.machine.proofs.changing.hand_one.Goals as goal

pub count_less-requires : goal.count_less-requires
count_less-requires c = record {
  some = λ q own.
      let all : c.len.result ≡ length c.args.blocks.now.items = c.len.ensures ∙ c.args.blocks.now.ok.0 in
      let here : block_at (blocks_model c.args.blocks.now.items) c.args.a ≡ block_model c.index.result.now = seen_at c.args.blocks.now.items c.args.a c.index.result.now (omega arith) ∙ ap block_model (sym c.index.ensures) in
      some_counted (blocks_model c.args.blocks.now.items) c.args.counts.now.items c.args.a q c.requires.counted (ap (λ (b : Block). is_process b.owner q) here ∙ own);
}

pub count_more-requires-clause-room : goal.count_more-requires-clause-room
count_more-requires-clause-room c = λ q.
    let bs = blocks_model c.args.blocks.now.items in
    let less : get_or c.count_less.new.counts.items q 0 + one_if (is_process c.index.result.now.owner q) ≡ get_or c.args.counts.now.items q 0 = c.count_less.ensures.less q in
    let counted : get_or c.args.counts.now.items q 0 ≡ owned_by bs q = c.requires.counted.counts_are q in
    let most : owned_by bs q ≤ length bs = owned_most bs q in
    let long : length bs ≡ length c.args.blocks.now.items = seen_length c.args.blocks.now.items in
    let all : c.args.blocks.now.len ≡ length c.args.blocks.now.items = c.args.blocks.now.ok.0 in
    let fits : c.args.blocks.now.len ≤ c.args.blocks.now.cap = c.args.blocks.now.ok.1 in
    let small : c.args.blocks.now.cap < 2 ^ 63 = c.args.blocks.now.small in
    omega arith

pub returns-then-a-len-clause-handed : goal.returns-then-a-len-clause-handed
returns-then-a-len-clause-handed c =
    let all : c.len.result ≡ length c.args.blocks.now.items = c.len.ensures ∙ c.args.blocks.now.ok.0 in
    hands_one c.args.to c.args.blocks.now.items c.args.a c.index_mut.result.now _ (omega arith)
    (sym (handed_at c.args.to c.args.a (block_model c.index_mut.result.now)) ∙ ap (λ b. with_new_owner c.args.to (c.args.a ∷ []) c.args.a (block_model b)) c.index_mut.ensures.value)

pub returns-else-a-len-clause-handed : goal.returns-else-a-len-clause-handed
returns-else-a-len-clause-handed c =
    let all : c.len.result ≡ length c.args.blocks.now.items = c.len.ensures ∙ c.args.blocks.now.ok.0 in
    hands_none c.args.to c.args.blocks.now.items c.args.a (omega arith)

pub returns-then-a-len-clause-counted : goal.returns-then-a-len-clause-counted
returns-then-a-len-clause-counted c =
    let items = c.args.blocks.now.items in
    let all : c.len.result ≡ length items = c.len.ensures ∙ c.args.blocks.now.ok.0 in
    let long : length (blocks_model items) ≡ length items = seen_length items in
    let here : block_at (blocks_model items) c.args.a ≡ block_model c.index.result.now = seen_at items c.args.a c.index.result.now (omega arith) ∙ ap block_model (sym c.index.ensures) in
    subst (λ bs. IsCounted bs c.count_more.new.counts.items) (sym (seen_set items c.args.a _))
    (counted_moved (blocks_model items) c.args.counts.now.items c.count_less.new.counts.items c.count_more.new.counts.items c.args.a _ (omega arith) c.requires.counted
    (λ q. ap (λ (b : Block). get_or c.count_less.new.counts.items q 0 + one_if (is_process b.owner q)) here ∙ c.count_less.ensures.less q)
    c.count_more.ensures.more)
