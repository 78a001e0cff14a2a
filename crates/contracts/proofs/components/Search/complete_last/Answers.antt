use Rattle.std.proofs.Common.{◌≡◌, ◌++◌, ◌∷◌, [], ◌∙◌, ◌+◌, ◌-◌, ◌<◌, ℕ, length, drop, take, sym, refl, ap, subst, arith}
use Rattle.std.specs.Prelude.{All, count_by}
use Rattle.std.specs.Vec.{with_items}
use Rattle.std.proofs.lemmas.List.{length_push, take_rest}
use Rattle.std.proofs.lemmas.List.Elements.{All-drop}
use Rattle.contracts.specs.declared.components.VertexStatus.TheVariants.{Complete, New}
use Rattle.contracts.specs.Graphs.{groups}
use Rattle.contracts.specs.Searches.{IsSearch, TellsComponent, is_new, status_at, set_at_each}
use Rattle.contracts.proofs.RisingLemmas.{but_last}
use Rattle.contracts.proofs.ComponentLemmas.{found_same, pending_within, room_same, search_same}
use Rattle.contracts.proofs.CompletionLemmas.{completed_found, completed_met, completed_new, completed_room, completed_search}
use Rattle.contracts.proofs.WrittenLemmas.{vec_written}
use Rattle.contracts.proofs.StepLemmas.{complete_fewer}
use Rattle.contracts.proofs.components.Search.complete_last.Goals as goal
use Rattle.contracts.proofs.components.Search.complete_last.Goals.{After-deref, After-pop}

-- the component that is completed
part_is : (c : After-deref) → take (length c.deref.result.now - c.args.bound) (drop c.args.bound c.deref.result.now) ≡ drop c.args.bound c.args.self.now.pending.items
part_is c = take_rest c.deref.result.now c.args.bound ∙ ap (drop c.args.bound) c.deref.ensures.value

part_within : (c : After-deref) (n : ℕ) → n ≡ length (groups c.args.graph.now) → All (λ v. v < n) (take (length c.deref.result.now - c.args.bound) (drop c.args.bound c.deref.result.now))
part_within c n long =
    let old = c.args.self.now in
    let graph = groups c.args.graph.now in
    subst (λ k. All (λ v. v < k) (take (length c.deref.result.now - c.args.bound) (drop c.args.bound c.deref.result.now))) (sym long)
    (subst (All (λ v. v < length graph)) (sym (part_is c)) (All-drop (λ v. v < length graph) c.args.bound old.pending.items
    (pending_within graph old.statuses.items old.pending.items old.bounds.items old.arcs.items c.requires.kept.search)))

pub are_on_ring-on_ring-requires : goal.are_on_ring-on_ring-requires
are_on_ring-on_ring-requires c = record { within = part_within (goal.at.are_on_ring-on_ring-requires c).After-deref (length (groups c.args.graph.now)) refl }

pub write_each-requires : goal.write_each-requires
write_each-requires c = part_within (goal.at.write_each-requires c).After-deref (length c.deref_mut.result.now) (ap length c.deref_mut.ensures.value ∙ c.requires.kept.search.long)

pub write_each-requires-2 : goal.write_each-requires-2
write_each-requires-2 c = part_within (goal.at.write_each-requires-2 c).After-deref (length c.deref_mut-2.result.now) (ap length c.deref_mut-2.ensures.value ∙ c.requires.kept.found.long)

-- the fields after the call
statuses_are : (c : After-pop) → (with_items c.args.self.now.statuses c.write_each.new.items).items ≡ set_at_each c.args.self.now.statuses.items (drop c.args.bound c.args.self.now.pending.items) Complete
statuses_are c = vec_written c.args.self.now.statuses c.deref_mut.result.now c.write_each.new.items
    (take (length c.deref.result.now - c.args.bound) (drop c.args.bound c.deref.result.now)) (drop c.args.bound c.args.self.now.pending.items)
    Complete c.write_each.ensures c.deref_mut.ensures.value (take_rest c.deref.result.now c.args.bound ∙ ap (drop c.args.bound) c.deref.ensures.value)

bounds_are : (c : After-pop) → c.pop.new.self.items ≡ c.requires.last.0
bounds_are c = but_last c.args.self.now.bounds.items c.requires.last.0 c.pop.new.self.items c.args.bound c.requires.last.1
    (c.pop.ensures.rest ∙ ap (λ n. take (n - 1) c.args.self.now.bounds.items) c.args.self.now.bounds.ok.0)

search_is : (c : After-pop) → IsSearch (groups c.args.graph.now) c.args.self.now.statuses.items c.args.self.now.pending.items (c.requires.last.0 ++ c.args.bound ∷ []) c.args.self.now.arcs.items
search_is c = subst (λ l. IsSearch (groups c.args.graph.now) c.args.self.now.statuses.items c.args.self.now.pending.items l c.args.self.now.arcs.items) c.requires.last.1 c.requires.kept.search

-- whether it is on a ring
told_is : (c : After-pop) → TellsComponent (groups c.args.graph.now) (drop c.args.bound c.args.self.now.pending.items) c.are_on_ring-on_ring.result
told_is c = subst (λ l. TellsComponent (groups c.args.graph.now) l c.are_on_ring-on_ring.result) (take_rest c.deref.result.now c.args.bound ∙ ap (drop c.args.bound) c.deref.ensures.value) c.are_on_ring-on_ring.ensures

pub returns-clause-kept : goal.returns-clause-kept
returns-clause-kept c =
    let graph = groups c.args.graph.now in
    let old = c.args.self.now in
    let statuses = old.statuses.items in
    let pending = old.pending.items in
    let arcs = old.arcs.items in
    let index = c.args.bound in
    let part = drop index pending in
    let rest = c.requires.last.0 in
    let at = (goal.at.returns-clause-kept c).After-pop in
    let on_ring = c.are_on_ring-on_ring.result in
    let parts = take_rest c.deref.result.now index ∙ ap (drop index) c.deref.ensures.value in
    let rings = vec_written old.rings c.deref_mut-2.result.now c.write_each-2.new.items _ part on_ring c.write_each-2.ensures c.deref_mut-2.ensures.value parts in
    let order = c.in_ok-extend_from_slice.ensures.items ∙ ap (λ l. old.order.items ++ l) parts in
    record {
      search = search_same graph (set_at_each statuses part Complete) _ (take index pending) _ rest _ arcs _ (statuses_are at) c.truncate.ensures.items (bounds_are at) refl
          (completed_search graph statuses pending rest arcs old.rings.items old.order.items index on_ring c.requires.none (told_is at) (search_is at) c.requires.kept.found);
      found = found_same graph (set_at_each statuses part Complete) _ (set_at_each old.rings.items part on_ring) _ (old.order.items ++ part) _ (statuses_are at) rings order
          (completed_found graph statuses pending rest arcs old.rings.items old.order.items index on_ring c.requires.none (told_is at) (search_is at) c.requires.kept.found);
      room = room_same (length graph) (set_at_each statuses part Complete) _ (take index pending) _ (old.order.items ++ part) _ (statuses_are at) c.truncate.ensures.items order
          (completed_room graph statuses pending rest arcs old.rings.items old.order.items index on_ring c.requires.none (told_is at) (search_is at) c.requires.kept.found (length graph) c.requires.kept.room);
    }

pub returns-clause-met : goal.returns-clause-met
returns-clause-met c =
    let old = c.args.self.now in
    let statuses = old.statuses.items in
    let at = (goal.at.returns-clause-met c).After-pop in
    subst (λ l. (v : ℕ) → (status_at statuses v ≡ New → ⊥) → status_at l v ≡ New → ⊥) (sym (statuses_are at))
    (completed_met (groups c.args.graph.now) statuses old.pending.items c.requires.last.0 old.arcs.items old.rings.items old.order.items c.args.bound c.are_on_ring-on_ring.result
    c.requires.none (told_is at) (search_is at) c.requires.kept.found)

pub returns-clause-fewer : goal.returns-clause-fewer
returns-clause-fewer c =
    let old = c.args.self.now in
    let statuses = old.statuses.items in
    let at = (goal.at.returns-clause-fewer c).After-pop in
    let new = (with_items old.statuses c.write_each.new.items).items in
    let same : count_by is_new new ≡ count_by is_new statuses = ap (count_by is_new) (statuses_are at)
    ∙ completed_new (groups c.args.graph.now) statuses old.pending.items c.requires.last.0 old.arcs.items old.rings.items old.order.items c.args.bound c.are_on_ring-on_ring.result
    c.requires.none (told_is at) (search_is at) c.requires.kept.found in
    let one : length c.pop.new.self.items + 1 ≡ length old.bounds.items = let a = ap length (bounds_are at) in let b = ap length c.requires.last.1 in let d = length_push c.requires.last.0 c.args.bound in omega (arith, a, b, d) in
    complete_fewer (count_by is_new statuses) (count_by is_new new) (length c.args.graph.now.items.items) (length old.arcs.items) (length old.bounds.items) (length c.pop.new.self.items) same one
