use Rattle.std.proofs.Common.{Bor, ◌∙◌, ap, sym, subst}
use Rattle.std.specs.List.{flat_map}
use Rattle.std.proofs.lemmas.List.{take_all}
use Rattle.std.proofs.lemmas.List.Folds.{flat_map-map}
use Rattle.tree.specs.Trees.{state_tree}
use Rattle.tree.specs.declared.contract as tree
use Rattle.declarations.specs.ContractMistakes.{state_mistakes}
use Rattle.declarations.specs.Mistakes.{Adds}
use Rattle.declarations.proofs.AddLemmas.{adds_more}
use Rattle.declarations.proofs.state_paths.judge_states.Goals as goal

pub loop-state-preserved : goal.loop-state-preserved
loop-state-preserved c = λ messages states h k.
    adds_more (λ (s : Bor tree.State.State). state_mistakes c.args.text.now messages states (state_tree s.now)) c.deref-state-items.result.now c.loop-state.state-index c.state-item.result
    c.loop-state-test.true c.state-item.is (c.loop-state.invariant messages states h k) (c.in_ok-judge_state.ensures messages states h k)

pub returns : goal.returns
returns c = λ messages states h k.
    let items = c.deref-state-items.result.now in
    let adds = state_mistakes c.args.text.now messages states in
    subst (Adds c.args.found.now.items c.loop-state.found.items)
    (ap (flat_map (λ (s : Bor tree.State.State). adds (state_tree s.now))) (take_all c.loop-state.state-index items c.loop-state-test.false ∙ c.deref-state-items.ensures.value)
    ∙ sym (flat_map-map adds (λ (s : Bor tree.State.State). state_tree s.now) c.args.declared.now.outline.states.items))
    (c.loop-state.invariant messages states h k)
