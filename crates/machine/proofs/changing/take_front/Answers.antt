use Rattle.std.proofs.Common.{arith, ap, sym, ◌∷◌, ◌≡◌, ◌∙◌, length, map}
use Rattle.machine.specs.Answers.{left_in}
use Rattle.machine.specs.Views.{block_model, blocks_model, held_model}
use Rattle.machine.specs.World.{Block, block_at}
use Rattle.machine.proofs.ChangeLemmas.{behind_front, edits, left_at, left_other, seen_at, the_sent}
use Rattle.machine.proofs.changing.take_front.Goals as goal

pub returns-then-at-len-clause-left : goal.returns-then-at-len-clause-left
returns-then-at-len-clause-left c = λ m ms is.
    let all : c.len.result ≡ length c.args.blocks.now.items = c.len.ensures ∙ c.args.blocks.now.ok.0 in
    let was = c.index_mut.result.now in
    let here : block_at (blocks_model c.args.blocks.now.items) c.args.at ≡ block_model was =
    seen_at c.args.blocks.now.items c.args.at was (omega arith) ∙ ap block_model (sym c.index_mut.ensures.value) in
    let queue : map held_model was.queue.items ≡ m ∷ ms = sym (ap (λ (b : Block). b.queue) here) ∙ is in
    let left : map held_model c.pop_front.new.self.items ≡ ms = ap (map held_model) c.pop_front.ensures.rest ∙ behind_front was.queue.items m ms queue in
    edits (left_in c.args.at ms) c.args.at (left_other c.args.at ms) c.args.blocks.now.items was _ (omega arith) c.index_mut.ensures.value
    (ap (the_sent (block_model was) was.owner was.state.0) left ∙ sym (left_at c.args.at ms (block_model was)))
