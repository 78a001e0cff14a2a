use Rattle.std.proofs.Common.{arith, add-one, ◌≡◌, ◌<◌, subst, sym, ap, ◌∙◌, length, get_or}
use Rattle.std.proofs.lemmas.List.Sums.{sum_by-cons}
use Rattle.std.specs.Vec.Iter.{into_iter_items}
use Rattle.crossbeam_deque.specs.Handles.{view, worker_deque, IsPassOf}
use Rattle.pool.specs.Counts.{DequeOwner, Ticket, taken_by}
use Rattle.pool.specs.Owners.{GotParts, owner_parts}
use Rattle.pool.specs.Rule.{copies}
use Rattle.pool.proofs.Places.{next_is, done_more, left_more, length_one}
use Rattle.pool.proofs.absorbing.absorb_round.Goals as goal

pub absorb_at-requires-clause-part : goal.absorb_at-requires-clause-part
absorb_at-requires-clause-part c = λ o.
    let i = c.loop-pass.invariant in
    subst (λ (w : DequeOwner). 0 < owner_parts w) (sym (i.left c.loop-pass.index o (omega arith)))
    (c.requires.parts c.loop-pass.index o (omega (arith, c.in-Some.ensures.len, i.index)))

pub absorb_at-requires-clause-pass : goal.absorb_at-requires-clause-pass
absorb_at-requires-clause-pass c = λ o.
    let i = c.loop-pass.invariant in
    let p = c.in-Some.pass in
    let next = next_is c.args.passes.items c.loop-pass.index p p _ (sym i.rest ∙ c.in-Some.ensures.items) in
    let given = c.requires.passes.passes c.loop-pass.index o p (omega (arith, c.in-Some.ensures.len, i.index)) in
    subst (λ (w : DequeOwner). IsPassOf (worker_deque w) p) (sym (i.left c.loop-pass.index o (omega arith)))
    (subst (λ (q : Ticket). IsPassOf (worker_deque (get_or c.args.owners.now.items c.loop-pass.index o)) q) next.0 given)

pub loop-pass-preserved : goal.loop-pass-preserved
loop-pass-preserved c =
    let i = c.loop-pass.invariant in
    let p = c.in-Some.pass in
    let d = c.loop-pass.index in
    let below : d < length c.args.owners.now.items = omega (arith, c.in-Some.ensures.len, i.index) in
    let here : d < length c.loop-pass.owners.items = omega (arith, i.len) in
    let one = c.absorb_at.ensures.one in
    let next = λ (q : Ticket). next_is c.args.passes.items d p q _ (sym i.rest ∙ c.in-Some.ensures.items) in
    let part : (view p).parts ≡ 1 = ap (λ (q : Ticket). (view q).parts) (sym (next p).0) ∙ c.requires.passes.parts d p (omega (arith, c.requires.passes.lengths)) in
    let took : GotParts 1 one.old one.new = record { keeps = one.changes.keeps; parts = omega (arith, one.changes.parts) } in
    record {
      len = length_one d _ _ _ one ∙ i.len;
      index = omega (arith, c.in-Some.ensures.len, i.index);
      rest = rw add-one ((next p).1);
      done = done_more d _ c.args.owners.now.items c.loop-pass.owners.items _ here one (λ k old new. GotParts 1 old new) (λ o. i.left d o (omega arith)) took i.done;
      left = left_more d _ c.args.owners.now.items c.loop-pass.owners.items _ here one i.left;
      taken = λ n.
          let f = λ (q : Ticket). copies n (view q).taken in
          let e = ap (taken_by n) c.in-Some.ensures.items in
          let a = c.absorb_at.ensures.taken n in
          let b = i.taken n in
          omega (arith, sum_by-cons f p (into_iter_items c.next.new.self));
    }
