use Rattle.std.proofs.Common.{◌≡◌, ◌<◌, ℕ, length, ap, arith}
use Rattle.contracts.specs.declared.components.VertexStatus.TheVariants.{Complete}
use Rattle.contracts.specs.Graphs.{groups}
use Rattle.contracts.specs.Searches.{is_new, status_at}
use Rattle.contracts.proofs.ComponentLemmas.{all_complete}
use Rattle.contracts.proofs.StatusLemmas.{none_new}
use Rattle.contracts.proofs.components.components_of.Goals as goal
use Rattle.contracts.proofs.components.components_of.Goals.{After-drop-search-5}

complete_at : (c : After-drop-search-5) (v : ℕ) → v < length (groups c.args.graph.now) → status_at c.loop-start.search.statuses.items v ≡ Complete
complete_at c v lt =
    let now = c.loop-start.search in
    let kept = c.loop-start.invariant in
    let past = c.loop-start-test.false in
    let size = c.len-start-end.ensures in
    all_complete (groups c.args.graph.now) now.statuses.items now.pending.items now.bounds.items now.arcs.items kept.kept.search kept.idle v (kept.met v (omega (arith, past, size, lt)))

pub returns-clause-rings : goal.returns-clause-rings
returns-clause-rings c =
    let found = c.loop-start.invariant.kept.found in
    record { long = found.long; tells = λ v lt. found.tells v (complete_at c v lt) }

pub returns-clause-order : goal.returns-clause-order
returns-clause-order c =
    let now = c.loop-start.search in
    let found = c.loop-start.invariant.kept.found in
    let room = c.loop-start.invariant.kept.room in
    let none = ap length c.loop-start.invariant.idle in
    let size = c.loop-start.invariant.kept.search.long in
    let met = none_new now.statuses.items (λ v lt. ap is_new (complete_at c v (omega (arith, size, lt)))) in
    let long : length now.order.items ≡ length (groups c.args.graph.now) = omega (arith, room, none, met) in
    record { long = long; all = λ v lt. found.listed v (complete_at c v lt); within = found.within; after = found.after }
