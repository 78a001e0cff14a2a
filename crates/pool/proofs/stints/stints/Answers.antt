use Rattle.std.proofs.Common.{subst, sym, ap, ◌∙◌, ◌≡◌, [], ◌∷◌, ◌++◌, All, map, arith, append_assoc}
use Rattle.std.specs.Global.{Vec}
use Rattle.std.specs.Vec.Iter.{into_iter_items}
use Rattle.std.proofs.lemmas.List.{map-append}
use Rattle.std.proofs.lemmas.List.Elements.{All-head, All-push, All-tail}
use Rattle.pool.specs.Counts.{DequeOwner, Ticket}
use Rattle.pool.specs.Owners.{IsOwn, owner_taken}
use Rattle.pool.specs.Rounds.{IsFresh}
use Rattle.pool.specs.Stints.{IsStint, owner_of}
use Rattle.pool.proofs.stints.stints.Goals as goal

pub loop-owner-preserved : goal.loop-owner-preserved
loop-owner-preserved g c =
    let job = c.args.common.now.job.now in
    let thieves = c.args.common.now.thieves.now in
    let i = c.loop-owner.invariant in
    let O = λ (o : DequeOwner). IsOwn (g.J.Job.takes job) o in
    let N = λ (o : DequeOwner). owner_taken o ≡ [] in
    let F = λ (ps : Vec Ticket). IsFresh (g.J.Job.takes job) thieves ps.items in
    let S = IsStint (g.J.Job.takes job) (g.J.Job.seats job) thieves in
    let owners = c.in-Some.ensures.items in
    let rounds = c.in-Some-Some.ensures.items in
    let seats = c.in-Some-Some.ensures'.items in
    let push = c.in_ok-push.ensures.items in
    record {
      rounds = omega (arith, c.in-Some.ensures.len, c.in-Some-Some.ensures.len, i.rounds);
      seats = omega (arith, c.in-Some.ensures.len, c.in-Some-Some.ensures'.len, i.seats);
      count = omega (arith, c.in-Some.ensures.len, c.in_ok-push.ensures.len, i.count);
      own = All-tail O _ _ (subst (All O) owners i.own);
      fresh = All-tail N _ _ (subst (All N) owners i.fresh);
      passes = All-tail F _ _ (subst (All F) rounds i.passes);
      each_seat = All-tail (g.J.Job.seats job) _ _ (subst (All (g.J.Job.seats job)) seats i.each_seat);
      each = subst (All S) (sym push) (All-push S c.loop-owner.all.items _ i.each record {
        index = omega (arith, c.in-Some.ensures.len, c.len.ensures, i.count, c.requires.thieves);
        own = All-head O _ _ (subst (All O) owners i.own);
        fresh = All-head N _ _ (subst (All N) owners i.fresh);
        passes = All-head F _ _ (subst (All F) rounds i.passes);
        seat = All-head (g.J.Job.seats job) _ _ (subst (All (g.J.Job.seats job)) seats i.each_seat);
      });
      owners = ap (λ l. map owner_of l ++ into_iter_items c.next.new.self) push ∙ ap (λ l. l ++ into_iter_items c.next.new.self) (map-append owner_of c.loop-owner.all.items (_ ∷ []))
          ∙ append_assoc (map owner_of c.loop-owner.all.items) (c.in-Some.owner ∷ []) (into_iter_items c.next.new.self) ∙ ap (λ l. map owner_of c.loop-owner.all.items ++ l) (sym owners) ∙ i.owners;
    }
