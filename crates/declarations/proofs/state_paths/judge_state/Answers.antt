use Rattle.std.proofs.Common.{◌∙◌, ap, sym, subst}
use Rattle.std.specs.List.{flat_map}
use Rattle.std.proofs.lemmas.List.{take_all}
use Rattle.std.proofs.lemmas.List.Folds.{flat_map-map}
use Rattle.tree.specs.Trees.{path_tree}
use Rattle.tree.specs.declared.contract as tree
use Rattle.declarations.specs.ContractMistakes.{path_mistakes}
use Rattle.declarations.specs.Mistakes.{Adds}
use Rattle.declarations.proofs.AddLemmas.{adds_more}
use Rattle.declarations.proofs.state_paths.judge_state.Goals as goal

pub loop-path-preserved : goal.loop-path-preserved
loop-path-preserved c = λ messages states h k.
    adds_more (λ (p : tree.Path.Path). path_mistakes c.args.text.now messages states (path_tree p)) c.paths-path-items.result.now c.loop-path.path-index c.path-item.result
    c.loop-path-test.true c.path-item.is (c.loop-path.invariant messages states h k) (c.in_ok-judge_path.ensures messages states h k)

pub returns : goal.returns
returns c = λ messages states h k.
    let items = c.paths-path-items.result.now in
    let adds = path_mistakes c.args.text.now messages states in
    subst (Adds c.args.found.now.items c.loop-path.found.items)
    (ap (flat_map (λ (p : tree.Path.Path). adds (path_tree p))) (take_all c.loop-path.path-index items c.loop-path-test.false)
    ∙ sym (flat_map-map adds path_tree items) ∙ ap (flat_map adds) c.paths-path-items.ensures)
    (c.loop-path.invariant messages states h k)
