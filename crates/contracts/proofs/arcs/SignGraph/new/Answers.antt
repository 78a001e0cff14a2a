use Rattle.std.proofs.Common.{◌<◌, length, sym, subst, arith}
use Rattle.std.specs.Prelude.{All}
use Rattle.contracts.specs.Graphs.{groups}
use Rattle.contracts.specs.Positions.{numbers_of}
use Rattle.contracts.proofs.ArcLemmas.{arcs_made, arcs_within, drawn, starts_within}
use Rattle.contracts.proofs.arcs.SignGraph.new.Goals as goal

pub groups_of-requires : goal.groups_of-requires
groups_of-requires c = record {
  starts = subst (λ n. All (λ a. a.from < n) c.deref.result.now) (sym c.len.ensures)
      (subst (All (λ a. a.from < length (numbers_of c.args.states))) (sym c.deref.ensures.value)
      (starts_within (length (numbers_of c.args.states)) c.in_ok-arcs.arcs.items (arcs_within (numbers_of c.args.states) c.args.edges.now c.args.sign c.in_ok-arcs.arcs.items c.in_ok-arcs.ensures.arcs)));
}

pub first_heights-requires : goal.first_heights-requires
first_heights-requires c =
    let made = arcs_made _ c.args.edges.now _ _ _ _ _ c.in_ok-arcs.ensures.arcs c.deref.ensures.value c.len.ensures c.in_ok-groups.ensures.groups in
    let long = made.long in
    record { few = omega (arith, long, c.requires.few); range = made.range }

pub rings-requires-clause-few : goal.rings-requires-clause-few
rings-requires-clause-few c =
    let made = arcs_made _ c.args.edges.now _ _ _ _ _ c.in_ok-arcs.ensures.arcs c.deref.ensures.value c.len.ensures c.in_ok-groups.ensures.groups in
    let long = made.long in
    omega (arith, long, c.requires.few)

pub rings-requires-clause-range : goal.rings-requires-clause-range
rings-requires-clause-range c = (arcs_made _ c.args.edges.now _ _ _ _ _ c.in_ok-arcs.ensures.arcs c.deref.ensures.value c.len.ensures c.in_ok-groups.ensures.groups).range

pub returns-clause-range : goal.returns-clause-range
returns-clause-range c = (arcs_made _ c.args.edges.now _ _ _ _ _ c.in_ok-arcs.ensures.arcs c.deref.ensures.value c.len.ensures c.in_ok-groups.ensures.groups).range

pub returns-clause-drawn : goal.returns-clause-drawn
returns-clause-drawn c =
    drawn (numbers_of c.args.states) c.args.edges.now c.args.sign c.in_ok-arcs.arcs.items (groups c.in_ok-groups.groups) c.in_ok-arcs.ensures.arcs
    (arcs_made _ c.args.edges.now _ _ _ _ _ c.in_ok-arcs.ensures.arcs c.deref.ensures.value c.len.ensures c.in_ok-groups.ensures.groups)
