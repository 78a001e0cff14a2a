use Rattle.std.proofs.Common.{◌≡◌, ◌<◌, ◌∙◌, [], get_or, length, sym, subst, arith}
use Rattle.std.proofs.Math.ListN.{length-set}
use Rattle.std.proofs.lemmas.List.{get_or-set_other}
use Rattle.contracts.specs.Chains.{AreChained, AreEnds, IsFirstArc}
use Rattle.contracts.specs.Spans.{cut}
use Rattle.contracts.proofs.ChainLemmas.{AreFilled, filled_all, filled_none, filled_put, linked, rows_are}
use Rattle.contracts.proofs.grouping.groups_of.Goals as goal

pub loop-vertex-init : goal.loop-vertex-init
loop-vertex-init c = record {
  filled = subst (λ l. AreFilled c.args.arcs.now 0 l []) (sym c.in_ok-items.ensures.items) (filled_none c.args.arcs.now);
  long = c.in_ok-chains.ensures.count;
  firsts = λ v from lt. let count = c.in_ok-chains.ensures.count in c.in_ok-chains.ensures.chained.first v (omega (arith, lt, count));
}

pub follow-requires : goal.follow-requires
follow-requires c =
    let n = c.loop-vertex.vertex in
    let test = c.loop-vertex-test.true in
    let count = c.loop-vertex.invariant.long in
    let less : n < length c.loop-vertex.ends.items = omega (arith, test, count) in
    record {
      vertex = subst (λ l. n < length l) (sym c.deref.ensures.value) less;
      first = subst (λ l. IsFirstArc c.args.arcs.now n 0 (get_or l n 0)) (sym c.deref.ensures.value) (c.loop-vertex.invariant.firsts n (omega arith) test);
      linked = subst (AreChained c.args.arcs.now 0 []) (sym c.deref-in-loop-vertex.ensures.value) (linked c.args.arcs.now c.in_ok-chains.chains.firsts.items c.in_ok-chains.chains.nexts.items c.in_ok-chains.ensures.chained);
    }

pub loop-vertex-preserved : goal.loop-vertex-preserved
loop-vertex-preserved c =
    let arcs = c.args.arcs.now in
    let n = c.loop-vertex.vertex in
    let ends = c.loop-vertex.ends.items in
    let test = c.loop-vertex-test.true in
    let count = c.loop-vertex.invariant.long in
    record {
      filled = filled_put arcs n c.loop-vertex.items.items c.follow.new.ends.items ends c.len.result (omega (arith, test, count)) c.in_ok-follow.ensures (c.len.ensures ∙ c.follow.new.ends.ok.0) c.loop-vertex.invariant.filled;
      long = length-set ends n c.len.result ∙ count;
      firsts = λ v from lt. subst (IsFirstArc arcs v 0) (sym (get_or-set_other ends n v c.len.result 0 (λ same. omega (arith, from, same)))) (c.loop-vertex.invariant.firsts v (omega (arith, from)) lt);
    }

pub returns : goal.returns
returns c =
    let arcs = c.args.arcs.now in
    let stop = c.loop-vertex-test.false in
    let most = c.loop-vertex.auto.vertex-end in
    let all : c.loop-vertex.vertex ≡ c.args.count = omega (arith, stop, most) in
    let count = c.loop-vertex.invariant.long in
    let filled = filled_all arcs c.loop-vertex.vertex c.loop-vertex.items.items c.loop-vertex.ends.items (omega (arith, count, all)) c.loop-vertex.invariant.filled in
    let exact = subst (λ n. AreEnds arcs n (cut c.loop-vertex.items.items c.loop-vertex.ends.items)) all filled.made in
    record {
      exact = exact;
      ends = filled.from;
      groups = λ within. rows_are arcs c.args.count (cut c.loop-vertex.items.items c.loop-vertex.ends.items) within exact;
    }
