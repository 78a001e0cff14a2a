use Rattle.std.proofs.Common.{arith, ◌≡◌, ◌<◌, ◌+◌, subst, sym, All, vec_len}
use Rattle.std.specs.Global.{Vec}
use Rattle.std.proofs.lemmas.List.Elements.{All-nil, All-push}
use Rattle.pool.specs.Counts.{DequeOwner, Ticket}
use Rattle.pool.specs.Owners.{EachChanges, IsWholeOwner, LostParts, owner_parts}
use Rattle.pool.specs.Rounds.{AreNew}
use Rattle.pool.proofs.Places.{all_after, cut_more, lost_none, new_more}
use Rattle.pool.proofs.cutting.cut_all.Goals as goal

pub loop-init : goal.loop-init
loop-init c = record {
  count = omega (arith, c.new-rounds.ensures.len);
  owners = subst (λ k. EachChanges (LostParts k) c.args.owners.now.items c.args.owners.now.items) (sym c.new-rounds.ensures.len) (lost_none c.args.owners.now.items);
  rounds = subst (All (λ (ps : Vec Ticket). AreNew c.args.owners.now.items ps.items)) (sym c.new-rounds.ensures.items) (All-nil (λ (ps : Vec Ticket). AreNew c.args.owners.now.items ps.items));
}

pub cut_round-requires : goal.cut_round-requires
cut_round-requires c = record {
  parts = all_after (LostParts (vec_len c.loop.rounds)) IsWholeOwner (λ (o : DequeOwner). 1 < owner_parts o)
      (λ a b lost whole. let e = lost.parts in let f = whole.parts in let few = c.requires.few in let i = c.loop.invariant.count in let t = c.loop-test.true in omega arith) _ _ c.loop.invariant.owners c.requires.whole;
}

pub loop-preserved : goal.loop-preserved
loop-preserved c =
    let i = c.loop.invariant in
    let passes = c.in_ok-cut_round.field-0 in
    let P = λ (ps : Vec Ticket). AreNew c.args.owners.now.items ps.items in
    let size : vec_len c.push.new.self ≡ vec_len c.loop.rounds + 1 = omega (arith, c.in_ok-push.ensures.len) in
    record {
      count = omega (arith, size, i.count);
      owners = subst (λ k. EachChanges (LostParts k) c.args.owners.now.items c.cut_round.new.owners.items) (sym size)
          (cut_more (vec_len c.loop.rounds) c.args.owners.now.items c.loop.owners.items c.cut_round.new.owners.items passes.items i.owners c.in_ok-cut_round.ensures);
      rounds = subst (All P) (sym c.in_ok-push.ensures.items) (All-push P c.loop.rounds.items passes i.rounds
          (new_more (vec_len c.loop.rounds) c.args.owners.now.items c.loop.owners.items c.cut_round.new.owners.items passes.items i.owners c.in_ok-cut_round.ensures));
    }

pub returns-clause-owners : goal.returns-clause-owners
returns-clause-owners c =
    let e : vec_len c.loop.rounds ≡ c.args.count = omega (arith, c.loop.invariant.count, c.loop-test.false, c.loop.auto.counter-end) in
    subst (λ k. EachChanges (LostParts k) c.args.owners.now.items c.loop.owners.items) e c.loop.invariant.owners

pub returns-clause-count : goal.returns-clause-count
returns-clause-count c = omega (arith, c.loop.invariant.count, c.loop-test.false, c.loop.auto.counter-end)
