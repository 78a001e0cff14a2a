use Rattle.std.proofs.Common.{◌≡◌, ◌∙◌, ap, false, rules}
use Rattle.std.proofs.Math.ListN.{replicate}
use Rattle.contracts.specs.Graphs.{groups}
use Rattle.contracts.proofs.EndlessLemmas.{heights_known}
use Rattle.contracts.proofs.HeightLemmas.{quiet_rings}
use Rattle.contracts.proofs.ringing.rings.Goals as goal

pub returns-then-are_known-clause-heights : goal.returns-then-are_known-clause-heights
returns-then-are_known-clause-heights c = heights_known (groups c.args.graph.now) c.args.heights.now c.requires.peeled (c.are_known.ensures c.if-are_known.true)

pub returns-then-are_known-clause-rings : goal.returns-then-are_known-clause-rings
returns-then-are_known-clause-rings c =
    quiet_rings (groups c.args.graph.now) c.args.heights.now c.in_ok-vec.field-0.items
    (heights_known (groups c.args.graph.now) c.args.heights.now c.requires.peeled (c.are_known.ensures c.if-are_known.true))
    (c.are_known.ensures c.if-are_known.true) (let is : c.in_ok-vec.field-0.items ≡ replicate c.len.result false = search rules in is ∙ ap (λ n. replicate n false) c.len.ensures)
