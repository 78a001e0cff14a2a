-- The steps that a search for components has left.
use Rattle.std.proofs.Common.{◌≡◌, ℕ, ◌+◌, ◌*◌, ◌<◌, ◌≤◌, length, take, get_or, sym, ap, ◌∙◌, arith}
use Rattle.std.proofs.lemmas.List.{length-drop, length-take}
use Rattle.std.proofs.lemmas.Slice.{between_is}
use Rattle.contracts.specs.Graphs.{group_at, groups}
use Rattle.contracts.specs.Spans.{start_of}
use Rattle.contracts.specs.declared.groups.Groups.{Groups}
use Rattle.contracts.proofs.SpanLemmas.{cut_at, cut_long}

-- a group has no more elements than all items
pub row_short : (graph : Groups ℕ) (v : ℕ) → v < length (groups graph) → length (group_at (groups graph) v) ≤ length graph.items.items
row_short graph v lt =
    let items = graph.items.items in
    let ends = graph.ends.items in
    let start : ℕ = start_of 0 ends v in
    let end : ℕ = get_or ends v 0 in
    let count = cut_long 0 items ends in
    let at = ap length (sym (cut_at 0 items ends v (omega (arith, lt, count))) ∙ between_is items start end) in
    let a = length-drop start (take end items) in
    let b = length-take end items in
    omega (arith, at, a, b)

-- entering a vertex saves more steps than its group adds
pub enter_fewer : (before after size arcs bounds group : ℕ) → after + 1 ≡ before → group ≤ size → after * (size + 2) + (arcs + group) + (bounds + 1) < before * (size + 2) + arcs + bounds
enter_fewer before after size arcs bounds group one short =
    let e : before * (size + 2) ≡ (after + 1) * (size + 2) = ap (λ n. n * (size + 2)) (sym one) in
    omega (arith, e, short)

pub complete_fewer : (before after size arcs bounds fewer : ℕ) → after ≡ before → fewer + 1 ≡ bounds → after * (size + 2) + arcs + fewer < before * (size + 2) + arcs + bounds
complete_fewer before after size arcs bounds fewer same one =
    let e = ap (λ n. n * (size + 2)) same in
    omega (arith, e, one)
