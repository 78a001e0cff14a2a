use Rattle.std.proofs.Common.{List, map, ap, sym, ◌∙◌, ◌∷◌}
use Rattle.std.proofs.lemmas.List.{take_all}
use Rattle.tree.specs.StatementTrees.{switch_tree, case_tree}
use Rattle.tree.specs.declared.statement as made
use Rattle.names.specs.declared.heads.Awaiting.{Awaiting}
use Rattle.names.specs.Bodies.{head_of}
use Rattle.names.specs.Heads.{awaiting_of}
use Rattle.names.proofs.HeadWords.{switch_heads_are}
use Rattle.names.proofs.heads.awaiting_in.Goals as goal

pub returns : goal.returns
returns c =
    let heads : List made.Case.Case → List Awaiting = λ cases. map awaiting_of (head_of (switch_tree c.args.switch.now).first ∷ map (λ k. head_of (case_tree k)) cases) in
    c.loop-case.invariant
    ∙ ap heads (take_all c.loop-case.case-index c.deref-case-items.result.now c.loop-case-test.false ∙ c.deref-case-items.ensures.value)
    ∙ ap (map awaiting_of) (sym (switch_heads_are c.args.switch.now))
