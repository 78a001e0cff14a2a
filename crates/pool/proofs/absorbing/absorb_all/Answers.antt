use Rattle.std.proofs.Common.{arith, ◌≡◌, ◌<◌, ◌+◌, subst, sym, ap, All, vec_len}
use Rattle.std.specs.Global.{Vec}
use Rattle.std.specs.Vec.Iter.{into_iter_items}
use Rattle.std.proofs.lemmas.List.Sums.{sum_by-cons}
use Rattle.std.proofs.lemmas.List.Elements.{All-head, All-tail}
use Rattle.pool.specs.Counts.{DequeOwner, Ticket, taken_by}
use Rattle.pool.specs.Owners.{EachChanges, GotParts, owner_parts}
use Rattle.pool.specs.Rounds.{AreOf, all_by}
use Rattle.pool.proofs.Places.{each_twice, all_after, got_more, got_none, no_items, of_kept}
use Rattle.pool.proofs.absorbing.absorb_all.Goals as goal

pub loop-passes-init : goal.loop-passes-init
loop-passes-init c = record {
  owners = (0, omega (arith, c.into_iter-rest.ensures.len), got_none c.args.owners.now.items);
  rest = subst (All (λ (ps : Vec Ticket). AreOf c.args.owners.now.items ps.items)) (sym c.into_iter-rest.ensures.rest) c.requires.rounds;
  taken = λ n. let e = ap (all_by n) c.into_iter-rest.ensures.rest in omega arith;
}

pub absorb_round-requires-clause-parts : goal.absorb_round-requires-clause-parts
absorb_round-requires-clause-parts c =
    let so_far = c.loop-passes.invariant.owners in
    all_after (GotParts so_far.0) (λ (o : DequeOwner). 0 < owner_parts o) (λ (o : DequeOwner). 0 < owner_parts o) (λ a b got some. let e = got.parts in omega arith) _ _ so_far.2 c.requires.parts

pub absorb_round-requires-clause-passes : goal.absorb_round-requires-clause-passes
absorb_round-requires-clause-passes c =
    let so_far = c.loop-passes.invariant.owners in
    let here = All-head (λ (ps : Vec Ticket). AreOf c.args.owners.now.items ps.items) _ _ (subst (All (λ (ps : Vec Ticket). AreOf c.args.owners.now.items ps.items)) c.in-Some.ensures.items c.loop-passes.invariant.rest) in
    of_kept so_far.0 c.args.owners.now.items c.loop-passes.owners.items _ so_far.2 here

pub loop-passes-preserved : goal.loop-passes-preserved
loop-passes-preserved c =
    let i = c.loop-passes.invariant in
    let so_far = i.owners in record {
      owners = (so_far.0 + 1, omega (arith, c.in-Some.ensures.len), each_twice (GotParts so_far.0) (GotParts 1) (GotParts (so_far.0 + 1)) (got_more so_far.0) _ _ _ so_far.2 c.absorb_round.ensures.owners);
      rest = All-tail (λ (ps : Vec Ticket). AreOf c.args.owners.now.items ps.items) _ _ (subst (All (λ (ps : Vec Ticket). AreOf c.args.owners.now.items ps.items)) c.in-Some.ensures.items i.rest);
      taken = λ n.
          let e = ap (all_by n) c.in-Some.ensures.items in
          let a = c.absorb_round.ensures.taken n in
          let b = i.taken n in
          omega (arith, sum_by-cons (λ (ps : Vec Ticket). taken_by n ps.items) c.in-Some.passes (into_iter_items c.next.new.self));
    }

pub returns-clause-owners : goal.returns-clause-owners
returns-clause-owners c =
    let so_far = c.loop-passes.invariant.owners in
    let e : so_far.0 ≡ vec_len c.args.rounds = omega (arith, c.in_default.ensures.cases.0, so_far.1) in
    subst (λ k. EachChanges (GotParts k) c.args.owners.now.items c.loop-passes.owners.items) e so_far.2

pub returns-clause-taken : goal.returns-clause-taken
returns-clause-taken c = λ n.
    let none = ap (all_by n) (no_items (into_iter_items c.loop-passes.rest) (omega (arith, c.in_default.ensures.cases.0, c.loop-passes.rest.rest.ok.0))) in
    let i = c.loop-passes.invariant.taken n in
    omega arith
