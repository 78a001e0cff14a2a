use Rattle.std.proofs.Common.{◌≡◌, ◌++◌, ◌∷◌, [], ◌∙◌, ◌+◌, length, map, sym, ap, subst, arith}
use Rattle.std.proofs.Math.ListN.{set}
use Rattle.std.proofs.lemmas.List.{length-append, length-map, length_push}
use Rattle.std.specs.Prelude.{count_by}
use Rattle.contracts.specs.declared.components.VertexStatus.TheVariants.{Pending}
use Rattle.contracts.specs.Arcs.{arc}
use Rattle.contracts.specs.Graphs.{groups, group_at}
use Rattle.contracts.specs.Searches.{AreFound, is_new}
use Rattle.contracts.proofs.EntryLemmas.{entered, entered_found, fewer_new}
use Rattle.contracts.proofs.ComponentLemmas.{search_same}
use Rattle.contracts.proofs.StepLemmas.{enter_fewer, row_short}
use Rattle.contracts.proofs.components.Search.enter.Goals as goal
use Rattle.contracts.proofs.components.Search.enter.Goals.{In_ok-add_arcs}

-- the index is the number of pending vertices
place_is : (c : In_ok-add_arcs) → c.len-index.result ≡ length c.args.self.now.pending.items
place_is c = c.len-index.ensures ∙ c.args.self.now.pending.ok.0

arcs_are : (c : In_ok-add_arcs) → c.add_arcs.new.arcs.items ≡ c.args.self.now.arcs.items ++ map (arc (length c.args.self.now.pending.items)) (group_at (groups c.args.graph.now) c.args.v)
arcs_are c =
    let old = c.args.self.now.arcs.items in
    c.in_ok-add_arcs.ensures ∙ ap (λ k. old ++ map (arc k) c.group.result.now) (place_is c)
    ∙ ap (λ r. old ++ map (arc (length c.args.self.now.pending.items)) r) c.group.ensures

-- one vertex fewer is new
new_is : (c : In_ok-add_arcs) → count_by is_new (set c.args.self.now.statuses.items c.args.v (Pending c.len-index.result)) + 1 ≡ count_by is_new c.args.self.now.statuses.items
new_is c =
    let old = c.args.self.now in
    let statuses = old.statuses.items in
    subst (λ k. count_by is_new (set statuses c.args.v (Pending k)) + 1 ≡ count_by is_new statuses) (sym (place_is c))
    (fewer_new (groups c.args.graph.now) statuses old.pending.items old.bounds.items old.arcs.items c.args.v c.requires.v c.requires.new c.requires.leads c.requires.kept.search)

pub returns-clause-kept : goal.returns-clause-kept
returns-clause-kept c =
    let graph = groups c.args.graph.now in
    let old = c.args.self.now in
    let statuses = old.statuses.items in
    let pending = old.pending.items in
    let bounds = old.bounds.items in
    let arcs = old.arcs.items in
    let v = c.args.v in
    let n = length pending in
    let index = place_is (goal.at.returns-clause-kept c).In_ok-add_arcs in
    let search = c.requires.kept.search in
    let is = ap (λ k. set statuses v (Pending k)) index in
    record {
      search = search_same graph (set statuses v (Pending n)) _ (pending ++ v ∷ []) _ (bounds ++ n ∷ []) _ (arcs ++ map (arc n) (group_at graph v)) _
          is c.in_ok-push.ensures.items (c.in_ok-push-2.ensures.items ∙ ap (λ k. bounds ++ k ∷ []) index) (arcs_are (goal.at.returns-clause-kept c).In_ok-add_arcs)
          (entered graph statuses pending bounds arcs v c.requires.v c.requires.new c.requires.leads search);
      found = subst (λ l. AreFound graph l old.rings.items old.order.items) (sym is) (entered_found graph statuses pending bounds arcs v c.requires.v c.requires.new c.requires.leads search old.rings.items old.order.items c.requires.kept.found);
      room = let one = new_is (goal.at.returns-clause-kept c).In_ok-add_arcs in
          let more = ap length c.in_ok-push.ensures.items in
          let size = length_push pending v in
          let room = c.requires.kept.room in
          omega (arith, one, more, size, room);
    }

pub returns-clause-fewer : goal.returns-clause-fewer
returns-clause-fewer c =
    let graph = groups c.args.graph.now in
    let old = c.args.self.now in
    let statuses = old.statuses.items in
    let pending = old.pending.items in
    let bounds = old.bounds.items in
    let arcs = old.arcs.items in
    let v = c.args.v in
    let group = group_at graph v in
    let less = enter_fewer (count_by is_new statuses) (count_by is_new (set statuses v (Pending c.len-index.result))) (length c.args.graph.now.items.items) (length arcs) (length bounds) (length group)
    (new_is (goal.at.returns-clause-fewer c).In_ok-add_arcs) (row_short c.args.graph.now v c.requires.v) in
    let more_arcs = ap length (arcs_are (goal.at.returns-clause-fewer c).In_ok-add_arcs) in
    let size = length-append arcs (map (arc (length pending)) group) in
    let row_size = length-map group (arc (length pending)) in
    let more_bounds = ap length c.in_ok-push-2.ensures.items in
    let bounds_size = length_push bounds c.len-index.result in
    omega (arith, less, more_arcs, size, row_size, more_bounds, bounds_size)
