use Rattle.std.proofs.Common.{map, ap, ◌∙◌, sym}
use Rattle.std.proofs.lemmas.List.{take_all}
use Rattle.std.proofs.lemmas.Simd.{map-map}
use Rattle.tree.specs.Trees.{state_tree}
use Rattle.declarations.proofs.outline.Outline.state_names.Goals as goal

pub returns : goal.returns
returns c =
    c.loop-state.invariant
    ∙ ap (map (λ m. (state_tree m.now).name)) (take_all c.loop-state.state-index c.deref-state-items.result.now c.loop-state-test.false ∙ c.deref-state-items.ensures.value)
    ∙ sym (map-map (λ m. m.name) (λ m. state_tree m.now) c.args.self.now.states.items)
