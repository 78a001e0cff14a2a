use Rattle.std.proofs.Common.{arith, sym, ◌≡◌, ◌∙◌, length}
use Rattle.machine.specs.Answers.{in_state}
use Rattle.machine.specs.Views.{block_model}
use Rattle.machine.proofs.ChangeLemmas.{edits, edits_none, state_other, state_at}
use Rattle.machine.proofs.changing.set_state.Goals as goal

pub returns-then-a-len : goal.returns-then-a-len
returns-then-a-len c =
    let all : c.len.result ≡ length c.args.blocks.now.items = c.len.ensures ∙ c.args.blocks.now.ok.0 in
    edits (in_state c.args.a c.args.state.0) c.args.a (state_other c.args.a c.args.state.0) c.args.blocks.now.items c.index_mut.result.now _ (omega arith) c.index_mut.ensures.value
    (sym (state_at c.args.a c.args.state.0 (block_model c.index_mut.result.now)))

pub returns-else-a-len : goal.returns-else-a-len
returns-else-a-len c =
    let all : c.len.result ≡ length c.args.blocks.now.items = c.len.ensures ∙ c.args.blocks.now.ok.0 in
    edits_none (in_state c.args.a c.args.state.0) c.args.a (state_other c.args.a c.args.state.0) c.args.blocks.now.items (omega arith)
