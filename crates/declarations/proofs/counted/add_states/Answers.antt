use Rattle.std.proofs.Common.{Bor, ◌++◌, ◌∙◌, ap, sym}
use Rattle.std.specs.List.{flat_map}
use Rattle.std.proofs.lemmas.List.{take_all}
use Rattle.std.proofs.lemmas.List.Folds.{flat_map-map}
use Rattle.tree.specs.Trees.{state_tree}
use Rattle.tree.specs.declared.contract as tree
use Rattle.declarations.specs.Declarations.{counted_in_state}
use Rattle.declarations.proofs.counted.add_states.Goals as goal

pub returns : goal.returns
returns c =
    let states = c.args.states.now in
    c.loop-state.invariant ∙ ap (λ l. c.args.names.now.items ++ l)
    (ap (flat_map (λ (s : Bor tree.State.State). counted_in_state (state_tree s.now))) (take_all c.loop-state.state-index states c.loop-state-test.false) ∙ sym (flat_map-map counted_in_state (λ (s : Bor tree.State.State). state_tree s.now) states))
