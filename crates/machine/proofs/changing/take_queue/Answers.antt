use Rattle.std.proofs.Common.{arith, ap, sym, [], ◌≡◌, ◌∙◌, length, map}
use Rattle.machine.specs.Answers.{left_in}
use Rattle.machine.specs.BlockViews.{block_model, held_model}
use Rattle.machine.proofs.ChangeLemmas.{edits, edits_none, left_at, left_other, the_sent}
use Rattle.machine.proofs.changing.take_queue.Goals as goal

pub returns-then-at-len-clause-left : goal.returns-then-at-len-clause-left
returns-then-at-len-clause-left c =
    let all : c.len.result ≡ length c.args.blocks.now.items = c.len.ensures ∙ c.args.blocks.now.ok.0 in
    let was = c.index_mut.result.now in
    let none : map held_model c.replace-queue.new.dest.items ≡ [] = ap (λ q. map held_model q.items) c.replace-queue.ensures.after ∙ ap (map held_model) c.new-queue.ensures.items in
    edits (left_in c.args.at []) c.args.at (left_other c.args.at []) c.args.blocks.now.items was _ (omega arith) c.index_mut.ensures.value
    (ap (the_sent (block_model was) was.owner was.state.0) none ∙ sym (left_at c.args.at [] (block_model was)))

pub returns-else-at-len-clause-left : goal.returns-else-at-len-clause-left
returns-else-at-len-clause-left c =
    let all : c.len.result ≡ length c.args.blocks.now.items = c.len.ensures ∙ c.args.blocks.now.ok.0 in
    edits_none (left_in c.args.at []) c.args.at (left_other c.args.at []) c.args.blocks.now.items (omega arith)
