use Rattle.std.proofs.Common.{◌≡◌, ◌∙◌, ◌-◌, take, sym, ap, arith}
use Rattle.std.proofs.lemmas.List.{get_or_read}
use Rattle.contracts.specs.declared.components.VertexStatus.TheVariants.{New}
use Rattle.contracts.specs.Graphs.{groups}
use Rattle.contracts.specs.Searches.{status_at}
use Rattle.contracts.proofs.ComponentLemmas.{next_joined, next_leads, next_off, next_within}
use Rattle.contracts.proofs.components.Search.follow.Goals as goal
use Rattle.contracts.proofs.components.Search.follow.Goals.{After-index}

pub index-requires : goal.index-requires
index-requires c =
    let old = c.args.self.now in
    let search = c.requires.kept.search in
    let lt = next_within (groups c.args.graph.now) old.statuses.items old.pending.items old.bounds.items old.arcs.items c.args.end search c.requires.end c.requires.range in
    let long = search.long in
    let size = old.statuses.ok.0 in
    omega (arith, lt, long, size)

pub enter-requires-clause-v : goal.enter-requires-clause-v
enter-requires-clause-v c =
    let old = c.args.self.now in
    next_within (groups c.args.graph.now) old.statuses.items old.pending.items old.bounds.items old.arcs.items c.args.end c.requires.kept.search c.requires.end c.requires.range

pub enter-requires-clause-leads : goal.enter-requires-clause-leads
enter-requires-clause-leads c =
    let old = c.args.self.now in
    next_leads (groups c.args.graph.now) old.statuses.items old.pending.items old.bounds.items old.arcs.items c.args.end c.requires.kept.search c.requires.end

-- the status that is read
status_is : (c : After-index) → status_at c.args.self.now.statuses.items c.args.end ≡ c.index.result.now
status_is c =
    let old = c.args.self.now in
    let search = c.requires.kept.search in
    let lt = next_within (groups c.args.graph.now) old.statuses.items old.pending.items old.bounds.items old.arcs.items c.args.end search c.requires.end c.requires.range in
    let long = search.long in
    sym (get_or_read old.statuses.items c.args.end c.index.result.now (omega (arith, lt, long)) c.index.ensures New)

pub returns-in-Pending-clause-kept : goal.returns-in-Pending-clause-kept
returns-in-Pending-clause-kept c =
    let old = c.args.self.now in
    record {
      search = next_joined (groups c.args.graph.now) old.statuses.items old.pending.items old.bounds.items old.arcs.items c.args.end c.requires.kept.search c.requires.end
          c.join.new.bounds.items c.pop.new.self.items c.in-Pending.index (c.pop.ensures.rest ∙ ap (λ n. take (n - 1) old.arcs.items) old.arcs.ok.0)
          (status_is (goal.at.returns-in-Pending-clause-kept c).After-index ∙ c.in-Pending.is) c.join.ensures;
      found = c.requires.kept.found;
      room = c.requires.kept.room;
    }

pub returns-in-Complete-clause-kept : goal.returns-in-Complete-clause-kept
returns-in-Complete-clause-kept c =
    let old = c.args.self.now in
    record {
      search = next_off (groups c.args.graph.now) old.statuses.items old.pending.items old.bounds.items old.arcs.items c.args.end c.requires.kept.search c.requires.end
          c.pop-in-Complete.new.self.items (c.pop-in-Complete.ensures.rest ∙ ap (λ n. take (n - 1) old.arcs.items) old.arcs.ok.0)
          (status_is (goal.at.returns-in-Complete-clause-kept c).After-index ∙ c.in-Complete.is);
      found = c.requires.kept.found;
      room = c.requires.kept.room;
    }
