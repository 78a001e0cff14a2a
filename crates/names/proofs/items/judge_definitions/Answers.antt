use Rattle.std.proofs.Common.{length, ◌≤◌, ap, sym, subst, arith}
use Rattle.std.specs.List.{flat_map}
use Rattle.std.proofs.lemmas.List.{take_all}
use Rattle.tree.specs.Trees.{ItemTree}
use Rattle.names.specs.Findings.{definition_mistakes}
use Rattle.declarations.specs.Mistakes.{Adds}
use Rattle.declarations.specs.Scopes.{AllMembers}
use Rattle.declarations.proofs.AddLemmas.{adds_more}
use Rattle.names.proofs.ItemLemmas.{placed, as_many}
use Rattle.names.proofs.items.judge_definitions.Goals as goal

pub loop-members-preserved : goal.loop-members-preserved
loop-members-preserved c = λ p h.
    let all = subst (AllMembers p.text p.items) (sym c.members-members-items.ensures) h.members in
    let here = placed p.text p.items c.members-members-items.result.now c.loop-members.members-index c.members-item.result all c.loop-members-test.true c.members-item.is in
    adds_more (λ (i : ItemTree). definition_mistakes p i.definition) p.items c.loop-members.members-index here.item here.within here.is
    (c.loop-members.invariant p h) (c.in_ok-judge_definition.ensures p here.item.definition h here.members)

pub returns : goal.returns
returns c = λ p h.
    let all = subst (AllMembers p.text p.items) (sym c.members-members-items.ensures) h.members in
    let many = as_many p.text p.items c.members-members-items.result.now all in
    let past : length p.items ≤ c.loop-members.members-index = omega (arith, many, c.loop-members-test.false) in
    subst (Adds c.args.found.now.items c.loop-members.found.items)
    (ap (flat_map (λ (i : ItemTree). definition_mistakes p i.definition)) (take_all c.loop-members.members-index p.items past))
    (c.loop-members.invariant p h)
