use Rattle.std.proofs.Common.{subst, sym, ◌≡◌, ◌<◌, arith, length, vec_len}
use Rattle.pool.specs.Owners.{AreThieves, EachChanges, GotParts, Took}
use Rattle.pool.proofs.Ends.{fifo_end, parts_done, parts_end, put_end, round_done, rounds_many}
use Rattle.pool.proofs.Places.{some_of}
use Rattle.pool.proofs.Rounds.{fresh_round}
use Rattle.pool.proofs.sharing.share_all.Goals as goal

pub stints-requires-clause-passes : goal.stints-requires-clause-passes
stints-requires-clause-passes g c κs within = λ k d below.
    let full = c.in_ok-owners.owners.items in
    let some : 0 < length full = omega (arith, c.in_ok-owners.ensures.count, c.len-count.ensures, c.requires.workers.0, c.in_ok-owners.owners.ok.0) in
    let thieves = subst (AreThieves full) (sym c.deref-2.ensures.value) (subst (λ l. AreThieves l c.in_ok-thieves.thieves.items) c.deref.ensures.value c.in_ok-thieves.ensures) in
    fresh_round (g.J.Job.takes c.args.job.now) full _ _ (some_of full 0 some) thieves c.in_ok-owners.ensures.filled.tasks (c.in_ok-rounds.ensures.rounds k d below)

pub absorb_all-requires-clause-parts : goal.absorb_all-requires-clause-parts
absorb_all-requires-clause-parts g c =
    let gathered = c.in_ok-all.ensures in
    let works = subst (λ l. EachChanges Took l c.in_ok-all.all.owners.items) c.in_ok-begun.ensures.owners gathered.owners in
    parts_done c.len-count.result c.in_ok-owners.owners.items _ c.in_ok-all.all.owners.items c.in_ok-rounds.ensures.owners works c.in_ok-owners.ensures.filled.whole (omega (arith, c.len-count.ensures, c.requires.workers.1))

pub absorb_all-requires-clause-rounds : goal.absorb_all-requires-clause-rounds
absorb_all-requires-clause-rounds g c = λ k d below.
    let full = c.in_ok-owners.owners.items in
    let gathered = c.in_ok-all.ensures in
    let works = subst (λ l. EachChanges Took l c.in_ok-all.all.owners.items) c.in_ok-begun.ensures.owners gathered.owners in
    let some : 0 < length full = omega (arith, c.in_ok-owners.ensures.count, c.len-count.ensures, c.requires.workers.0, c.in_ok-owners.owners.ok.0) in
    let thieves = subst (AreThieves full) (sym c.deref-2.ensures.value) (subst (λ l. AreThieves l c.in_ok-thieves.thieves.items) c.deref.ensures.value c.in_ok-thieves.ensures) in
    let size = thieves.lengths in
    round_done c.len-count.result full _ c.in_ok-all.all.owners.items c.in_ok-rounds.ensures.owners works c.in_ok-owners.ensures.filled.whole (omega (arith, c.len-count.ensures, c.requires.workers.1))
    (g.J.Job.takes c.args.job.now) c.deref-2.result.now (some_of c.deref-2.result.now 0 (omega (arith, some, size))) _ thieves (gathered.rounds k d below)

pub sweep-requires-clause-fifo : goal.sweep-requires-clause-fifo
sweep-requires-clause-fifo g c =
    let gathered = c.in_ok-all.ensures in
    let works = subst (λ l. EachChanges Took l c.in_ok-all.all.owners.items) c.in_ok-begun.ensures.owners gathered.owners in
    let rounds : vec_len c.in_ok-all.all.rounds ≡ c.len-count.result = rounds_many c.len-count.result c.in_ok-all.all.rounds _ _ c.in_ok-owners.owners gathered.count c.in_ok-begun.ensures.owners c.in_ok-rounds.ensures.owners.lengths c.in_ok-owners.ensures.count (sym c.in_ok-all.all.rounds.ok.0) (sym c.in_ok-owners.owners.ok.0) in
    fifo_end c.len-count.result c.in_ok-owners.owners.items _ c.in_ok-all.all.owners.items c.in_ok-rounds.ensures.owners works c.in_ok-owners.ensures.filled.whole (omega (arith, c.len-count.ensures, c.requires.workers.1)) c.absorb_all.new.owners.items
    (subst (λ k. EachChanges (GotParts k) c.in_ok-all.all.owners.items c.absorb_all.new.owners.items) rounds c.absorb_all.ensures.owners)

pub sweep-requires-clause-parts : goal.sweep-requires-clause-parts
sweep-requires-clause-parts g c =
    let gathered = c.in_ok-all.ensures in
    let works = subst (λ l. EachChanges Took l c.in_ok-all.all.owners.items) c.in_ok-begun.ensures.owners gathered.owners in
    let rounds : vec_len c.in_ok-all.all.rounds ≡ c.len-count.result = rounds_many c.len-count.result c.in_ok-all.all.rounds _ _ c.in_ok-owners.owners gathered.count c.in_ok-begun.ensures.owners c.in_ok-rounds.ensures.owners.lengths c.in_ok-owners.ensures.count (sym c.in_ok-all.all.rounds.ok.0) (sym c.in_ok-owners.owners.ok.0) in
    parts_end c.len-count.result c.in_ok-owners.owners.items _ c.in_ok-all.all.owners.items c.in_ok-rounds.ensures.owners works c.in_ok-owners.ensures.filled.whole (omega (arith, c.len-count.ensures, c.requires.workers.1)) c.absorb_all.new.owners.items
    (subst (λ k. EachChanges (GotParts k) c.in_ok-all.all.owners.items c.absorb_all.new.owners.items) rounds c.absorb_all.ensures.owners)

pub returns-clause-each : goal.returns-clause-each
returns-clause-each g c = λ n.
    let gathered = c.in_ok-all.ensures in
    let works = subst (λ l. EachChanges Took l c.in_ok-all.all.owners.items) c.in_ok-begun.ensures.owners gathered.owners in
    let rounds : vec_len c.in_ok-all.all.rounds ≡ c.len-count.result = rounds_many c.len-count.result c.in_ok-all.all.rounds _ _ c.in_ok-owners.owners gathered.count c.in_ok-begun.ensures.owners c.in_ok-rounds.ensures.owners.lengths c.in_ok-owners.ensures.count (sym c.in_ok-all.all.rounds.ok.0) (sym c.in_ok-owners.owners.ok.0) in
    let put = put_end c.len-count.result c.in_ok-owners.owners.items _ c.in_ok-all.all.owners.items c.in_ok-rounds.ensures.owners works c.in_ok-owners.ensures.filled.whole (omega (arith, c.len-count.ensures, c.requires.workers.1)) c.absorb_all.new.owners.items
    (subst (λ k. EachChanges (GotParts k) c.in_ok-all.all.owners.items c.absorb_all.new.owners.items) rounds c.absorb_all.ensures.owners) n in
    let counted = gathered.counted n in
    let taken = c.absorb_all.ensures.taken n in
    let swept = c.in_ok-sweep.ensures n in
    let given = c.in_ok-owners.ensures.put n in
    omega arith
