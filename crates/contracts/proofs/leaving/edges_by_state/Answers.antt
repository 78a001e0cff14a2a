use Rattle.std.proofs.Common.{◌<◌, ◌∙◌, length, map, ap, sym, subst}
use Rattle.std.specs.Prelude.{All}
use Rattle.std.proofs.lemmas.List.Elements.{All-contains}
use Rattle.contracts.specs.Chains.{AreEnds}
use Rattle.contracts.specs.Graphs.{groups}
use Rattle.contracts.specs.Leaving.{edge_at}
use Rattle.contracts.specs.Positions.{numbers_of}
use Rattle.contracts.specs.Spans.{cut}
use Rattle.contracts.proofs.SpanLemmas.{cut_map}
use Rattle.contracts.proofs.PartLemmas.{all_from}
use Rattle.contracts.proofs.SourceLemmas.{leaving_is, sources_start}
use Rattle.contracts.proofs.leaving.edges_by_state.Goals as goal

pub groups_of-requires : goal.groups_of-requires
groups_of-requires c = record { starts = subst (λ n. All (λ a. a.from < n) c.deref.result.now) (sym c.len.ensures) (subst (All (λ a. a.from < length (numbers_of c.args.states))) (sym c.deref.ensures.value) (sources_start _ _ _ _ c.in_ok-sources.ensures)) }

pub edges_at-requires : goal.edges_at-requires
edges_at-requires c =
    let edges = c.args.edges.now in
    subst (All (λ i. i < length edges)) (sym c.deref-2.ensures.value) (all_from (λ i. i < length edges) c.in_ok-indices.indices.items.items (λ i there.
    let a = c.in_ok-indices.ensures.ends i there in
    let within = All-contains (λ x. (x.from < length (numbers_of c.args.states)) × (x.to < length edges)) c.deref.result.now a.0 (subst (All (λ x. (x.from < length (numbers_of c.args.states)) × (x.to < length edges))) (sym c.deref.ensures.value) c.in_ok-sources.ensures.within) a.1 in
    subst (λ k. k < length edges) a.2 within.1))

pub returns : goal.returns
returns c =
    let numbers = numbers_of c.args.states in
    let edges = c.args.edges.now in
    let indices = c.in_ok-indices.indices in
    leaving_is numbers edges c.in_ok-sources.sources.items (groups indices) (cut c.in_ok-items.items.items indices.ends.items) c.requires.listed c.in_ok-sources.ensures
    (subst (λ n. AreEnds c.in_ok-sources.sources.items n (groups indices)) c.len.ensures (subst (λ l. AreEnds l c.len.result (groups indices)) c.deref.ensures.value c.in_ok-indices.ensures.exact))
    (ap (λ l. cut l indices.ends.items) (c.in_ok-items.ensures ∙ ap (map (edge_at edges)) c.deref-2.ensures.value) ∙ cut_map (edge_at edges) 0 indices.items.items indices.ends.items)
