use Rattle.std.proofs.Common.{arith, ◌≡◌, subst, sym, ap, All}
use Rattle.std.specs.Vec.Iter.{into_iter_items}
use Rattle.std.proofs.lemmas.List.Sums.{sum_by-cons}
use Rattle.std.proofs.lemmas.List.Elements.{All-head, All-tail}
use Rattle.crossbeam_deque.specs.Handles.{worker_flavor, worker_view}
use Rattle.pool.specs.Rule.{copies}
use Rattle.pool.specs.Counts.{DequeOwner, all_put, all_taken}
use Rattle.pool.specs.Owners.{owner_parts}
use Rattle.pool.proofs.Shares.{takes, ends}
use Rattle.pool.proofs.Places.{no_items}
use Rattle.pool.proofs.absorbing.sweep.Goals as goal

pub loop-owner-init : goal.loop-owner-init
loop-owner-init c = record {
  fifo = subst (All (λ (o : DequeOwner). worker_flavor o ≡ 0)) (sym c.into_iter-rest.ensures.rest) c.requires.fifo;
  parts = subst (All (λ (o : DequeOwner). owner_parts o ≡ 1024)) (sym c.into_iter-rest.ensures.rest) c.requires.parts;
  same = λ n. let e = ap (all_put n) c.into_iter-rest.ensures.rest in let f = ap (all_taken n) c.into_iter-rest.ensures.rest in omega arith;
}

pub pop_as-requires-clause-fifo : goal.pop_as-requires-clause-fifo
pop_as-requires-clause-fifo c fifo =
    let full = All-head (λ (o : DequeOwner). owner_parts o ≡ 1024) _ _ (subst (All (λ (o : DequeOwner). owner_parts o ≡ 1024)) c.in-Some.ensures.items c.loop-owner.invariant.parts) in
    takes _ _ (omega arith)

pub pop_as-requires-clause-lifo : goal.pop_as-requires-clause-lifo
pop_as-requires-clause-lifo c lifo =
    let fifo = All-head (λ (o : DequeOwner). worker_flavor o ≡ 0) _ _ (subst (All (λ (o : DequeOwner). worker_flavor o ≡ 0)) c.in-Some.ensures.items c.loop-owner.invariant.fifo) in
    absurd (omega arith)

pub pop_as-requires-clause-empty : goal.pop_as-requires-clause-empty
pop_as-requires-clause-empty c = ends _ _

pub loop-owner-preserved : goal.loop-owner-preserved
loop-owner-preserved c =
    let i = c.loop-owner.invariant in
    let o = c.in-Some.owner in
    let full = All-head (λ (x : DequeOwner). owner_parts x ≡ 1024) _ _ (subst (All (λ (x : DequeOwner). owner_parts x ≡ 1024)) c.in-Some.ensures.items i.parts) in
    record {
      fifo = All-tail (λ (x : DequeOwner). worker_flavor x ≡ 0) _ _ (subst (All (λ (x : DequeOwner). worker_flavor x ≡ 0)) c.in-Some.ensures.items i.fifo);
      parts = All-tail (λ (x : DequeOwner). owner_parts x ≡ 1024) _ _ (subst (All (λ (x : DequeOwner). owner_parts x ≡ 1024)) c.in-Some.ensures.items i.parts);
      same = λ n.
          let e = ap (all_put n) c.in-Some.ensures.items in
          let f = ap (all_taken n) c.in-Some.ensures.items in
          let a = c.in-None.ensures.rule.1 full n in
          let b = i.same n in
          omega (arith, sum_by-cons (λ (x : DequeOwner). copies n (worker_view x).put) o (into_iter_items c.next.new.self), sum_by-cons (λ (x : DequeOwner). copies n (worker_view x).taken) o (into_iter_items c.next.new.self));
    }

pub returns : goal.returns
returns c = λ n.
    let none = no_items (into_iter_items c.loop-owner.rest) (omega (arith, c.in_default.ensures.cases.0, c.loop-owner.rest.rest.ok.0)) in
    let e = ap (all_put n) none in
    let f = ap (all_taken n) none in
    let i = c.loop-owner.invariant.same n in
    omega arith
