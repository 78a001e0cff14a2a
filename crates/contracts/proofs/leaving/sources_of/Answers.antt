use Rattle.std.proofs.Common.{◌+◌, sym, subst}
use Rattle.contracts.specs.Leaving.{AreSources}
use Rattle.contracts.specs.Positions.{numbers_of}
use Rattle.contracts.proofs.PartLemmas.{at_place}
use Rattle.contracts.proofs.PositionLemmas.{listed_once}
use Rattle.contracts.proofs.SourceLemmas.{sources_more}
use Rattle.contracts.proofs.leaving.sources_of.Goals as goal

pub position-requires : goal.position-requires
position-requires c = (c.requires.listed _ (at_place c.args.edges.now c.loop-i.i _ c.loop-i-test.true)).0

pub loop-i-preserved : goal.loop-i-preserved
loop-i-preserved c =
    let numbers = numbers_of c.args.states in
    let edges = c.args.edges.now in
    let i = c.loop-i.i in
    subst (AreSources numbers edges (i + 1)) (sym c.in_ok-push.ensures.items)
    (sources_more numbers edges i c.position.result c.loop-i.sources.items (listed_once c.args.states) c.loop-i-test.true c.position.ensures.within c.position.ensures.at c.loop-i.invariant)
