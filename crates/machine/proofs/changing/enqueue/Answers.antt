use Rattle.std.proofs.Common.{arith, ap, sym, true, false, [], ◌∷◌, ◌++◌, ◌≡◌, ◌∙◌, length, map}
use Rattle.std.specs.Prelude.{is_ok, if◌then◌else◌}
use Rattle.std.proofs.Math.Seq.{map-set_same}
use Rattle.std.proofs.lemmas.List.{map-append}
use Rattle.machine.specs.Answers.{with_message}
use Rattle.machine.specs.Views.{held_model, block_model}
use Rattle.machine.proofs.ChangeLemmas.{edits, edits_none, queued_other, queued_at, the_sent}
use Rattle.machine.proofs.changing.enqueue.Goals as goal

pub returns-then-to-len-clause-done : goal.returns-then-to-len-clause-done
returns-then-to-len-clause-done c = λ done.
    let all : c.len.result ≡ length c.args.blocks.now.items = c.len.ensures ∙ c.args.blocks.now.ok.0 in
    let ok : is_ok c.push_back.result ≡ true = sym c.is_ok.ensures.value ∙ done in
    let was = c.index_mut.result.now in
    let pushed : map held_model c.push_back.new.self.items ≡ map held_model was.queue.items ++ held_model c.args.held ∷ [] =
    ap (map held_model) (c.push_back.ensures.items ∙ ap (λ t. if t then was.queue.items ++ c.args.held ∷ [] else was.queue.items) ok) ∙ map-append held_model was.queue.items (c.args.held ∷ []) in
    edits (with_message c.args.to (held_model c.args.held)) c.args.to (queued_other c.args.to (held_model c.args.held)) c.args.blocks.now.items was _ (omega arith) c.index_mut.ensures.value
    (ap (the_sent (block_model was) was.owner was.state.0) pushed ∙ sym (queued_at c.args.to (held_model c.args.held) (block_model was)))

pub returns-then-to-len-clause-same : goal.returns-then-to-len-clause-same
returns-then-to-len-clause-same c = λ failed.
    let bad : is_ok c.push_back.result ≡ false = sym c.is_ok.ensures.value ∙ failed in
    let was = c.index_mut.result.now in
    let kept : map held_model c.push_back.new.self.items ≡ map held_model was.queue.items =
    ap (map held_model) (c.push_back.ensures.items ∙ ap (λ t. if t then was.queue.items ++ c.args.held ∷ [] else was.queue.items) bad) in
    map-set_same block_model c.args.blocks.now.items c.args.to _ was (ap (the_sent (block_model was) was.owner was.state.0) kept ∙ ap block_model c.index_mut.ensures.value)

pub returns-clause-done : goal.returns-clause-done
returns-clause-done c = λ done.
    let all : c.len.result ≡ length c.args.blocks.now.items = c.len.ensures ∙ c.args.blocks.now.ok.0 in
    edits_none (with_message c.args.to (held_model c.args.held)) c.args.to (queued_other c.args.to (held_model c.args.held)) c.args.blocks.now.items (omega arith)
