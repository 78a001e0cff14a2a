-- The work of all workers, put together.
use Rattle.std.proofs.Common.{◌≡◌, ℕ, ◌+◌, ◌<◌, List, [], ◌∷◌, ◌++◌, All, ap, ◌∙◌, sym, subst, arith, map, length, length-append, get_or, ⊎_elim}
use Rattle.std.specs.Global.{Vec}
use Rattle.std.proofs.Math.Nat.{eq-or-lt_of_le}
use Rattle.std.proofs.lemmas.List.{get_or_append_left, get_or_push, map-append}
use Rattle.std.proofs.lemmas.List.Elements.{All-append, All-nil, All-push}
use Rattle.std.proofs.lemmas.List.Sums.{sum_by_push}
use Rattle.crossbeam_deque.specs.Handles.{worker_view}
use Rattle.tasks.specs.declared.task.Task.{Task}
use Rattle.pool.specs.Rule.{copies}
use Rattle.pool.specs.Counts.{DequeOwner, Ticket, all_taken, method_of, taken_by, times, times_done}
use Rattle.pool.specs.Owners.{EachChanges, Thief, Took}
use Rattle.pool.specs.Rounds.{AreRound, all_by}
use Rattle.pool.specs.Stints.{AreGathered, IsWork}
use Rattle.pool.specs.declared.bench.Bench.{Bench}
use Rattle.pool.specs.declared.done.Done.{Done}
use Rattle.pool.specs.declared.gathering.Gathered.{Gathered}
use Rattle.pool.proofs.Puts.{times-append}

-- one more owner
each_push : (change : DequeOwner → DequeOwner → Type 0) (os ps : List DequeOwner) (o p : DequeOwner) → EachChanges change os ps → change o p → EachChanges change (os ++ o ∷ []) (ps ++ p ∷ [])
each_push change os ps o p h k = record {
  lengths = omega (arith, length-append os (o ∷ []), length-append ps (p ∷ []), h.lengths);
  each = λ d x below. ⊎_elim
      (λ (last : d ≡ length os).
      let a : get_or (os ++ o ∷ []) d x ≡ o = get_or_push os o x d (sym last) in
      let b : get_or (ps ++ p ∷ []) d x ≡ p = get_or_push ps p x d (h.lengths ∙ sym last) in
      subst (λ (y : DequeOwner). change y (get_or (ps ++ p ∷ []) d x)) (sym a) (subst (change o) (sym b) k))
      (λ (less : d < length os).
      let a : get_or (os ++ o ∷ []) d x ≡ get_or os d x = get_or_append_left os (o ∷ []) x d less in
      let b : get_or (ps ++ p ∷ []) d x ≡ get_or ps d x = get_or_append_left ps (p ∷ []) x d (omega (arith, h.lengths, less)) in
      subst (λ (y : DequeOwner). change y (get_or (ps ++ p ∷ []) d x)) (sym a) (subst (change (get_or os d x)) (sym b) (h.each d x less)))
      (eq-or-lt_of_le (omega (arith, below, length-append os (o ∷ []))));
}

module _ {S X : Type 0} (takes : Task → Type 0) (seats : S → Type 0) (gives : ℕ → X → Type 0) (thieves : List Thief) where
  -- nothing was gathered yet
  pub gathered_none : (all : Gathered S X) → all.owners.items ≡ [] → all.rounds.items ≡ [] → all.seats.items ≡ [] → all.done.items ≡ [] → AreGathered takes seats gives thieves [] all
  gathered_none all o r s d = record {
    owners = record { lengths = ap length o; each = λ k x below. absurd (omega (arith, below)) };
    count = ap length r;
    rounds = subst (All (λ (ps : Vec Ticket). AreRound takes thieves ps.items)) (sym r) (All-nil (λ (ps : Vec Ticket). AreRound takes thieves ps.items));
    counted = λ n.
        let a : times_done n all.done.items ≡ 0 = ap (times_done n) d in
        let b : all_taken n all.owners.items ≡ 0 = ap (all_taken n) o in
        let c : all_by n all.rounds.items ≡ 0 = ap (all_by n) r in
        omega arith;
    given = subst (All (λ x. gives (method_of x) x.out)) (sym d) (All-nil (λ x. gives (method_of x) x.out));
    seats_count = ap length s;
    each_seat = subst (All seats) (sym s) (All-nil seats);
  }

  -- one more worker's work
  pub gathered_more : (begun : List DequeOwner) (owner : DequeOwner) (old new : Gathered S X) (s : DequeOwner × Vec Ticket × Bench S X)
      → new.owners.items ≡ old.owners.items ++ s.0 ∷ [] → new.rounds.items ≡ old.rounds.items ++ s.1 ∷ [] → new.seats.items ≡ old.seats.items ++ s.2.seat ∷ []
      → new.done.items ≡ old.done.items ++ s.2.done.items → AreGathered takes seats gives thieves begun old → IsWork takes seats gives thieves owner s
      → AreGathered takes seats gives thieves (begun ++ owner ∷ []) new
  gathered_more begun owner old new s o r q d all work =
      let R = λ (ps : Vec Ticket). AreRound takes thieves ps.items in
      let G = λ (x : Done X). gives (method_of x) x.out in
      record {
        owners = subst (EachChanges Took (begun ++ owner ∷ [])) (sym o) (each_push Took begun old.owners.items owner s.0 all.owners work.own);
        count = (let e = ap length r in omega (arith, length-append begun (owner ∷ []), length-append old.rounds.items (s.1 ∷ []), all.count));
        rounds = subst (All R) (sym r) (All-push R old.rounds.items s.1 all.rounds work.round);
        counted = λ n.
            let a : times_done n new.done.items ≡ times_done n old.done.items + times_done n s.2.done.items
            = ap (times_done n) d ∙ ap (times n) (map-append method_of old.done.items s.2.done.items) ∙ times-append n (map method_of old.done.items) (map method_of s.2.done.items) in
            let b = ap (all_taken n) o in
            let c = ap (all_by n) r in
            let e = all.counted n in
            let f = work.counted n in
            omega (arith, sum_by_push (λ (x : DequeOwner). copies n (worker_view x).taken) old.owners.items s.0, sum_by_push (λ (ps : Vec Ticket). taken_by n ps.items) old.rounds.items s.1);
        given = subst (All G) (sym d) (All-append G old.done.items s.2.done.items all.given work.given);
        seats_count = (let e = ap length q in omega (arith, length-append begun (owner ∷ []), length-append old.seats.items (s.2.seat ∷ []), all.seats_count));
        each_seat = subst (All seats) (sym q) (All-push seats old.seats.items s.2.seat all.each_seat work.seat);
      }
