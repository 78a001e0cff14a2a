-- The deques from the beginning to the end of the work.
use Rattle.std.proofs.Common.{◌≡◌, ℕ, ◌+◌, ◌<◌, ◌≤◌, List, All, ap, ◌∙◌, sym, subst, arith, length, get_or, vec_len}
use Rattle.std.specs.Global.{Vec}
use Rattle.crossbeam_deque.specs.Handles.{IsPassOf, stealer_deque, worker_deque, worker_flavor, worker_view}
use Rattle.tasks.specs.declared.task.Task.{Task}
use Rattle.pool.specs.Rule.{copies}
use Rattle.pool.specs.Counts.{DequeOwner, Ticket, all_put}
use Rattle.pool.specs.Owners.{AreThieves, EachChanges, GotParts, IsWholeOwner, Keeps, LostParts, Thief, Took, owner_parts}
use Rattle.pool.specs.Rounds.{AreOf, AreRound}
use Rattle.pool.proofs.Places.{all_after, each_twice, keeps_twice, sum_kept}

module _ (count : ℕ) (full cut done : List DequeOwner) (begins : EachChanges (LostParts count) full cut) (works : EachChanges Took cut done) (whole : All IsWholeOwner full) (few : count ≤ 64) where
  -- from the beginning to the end of the work
  so_far : EachChanges (λ a b. Keeps a b × (owner_parts b + count ≡ owner_parts a)) full done
  so_far = each_twice (LostParts count) Took (λ a b. Keeps a b × (owner_parts b + count ≡ owner_parts a))
      (λ a b c h k. (keeps_twice a b c h.keeps k.keeps, (let e = h.parts in let f = k.parts in omega arith))) full cut done begins works

  pub parts_done : All (λ (o : DequeOwner). 0 < owner_parts o) done
  parts_done = all_after (λ a b. Keeps a b × (owner_parts b + count ≡ owner_parts a)) IsWholeOwner (λ (o : DequeOwner). 0 < owner_parts o) (λ a b h w. let e = h.1 in let f = w.parts in omega arith) full done so_far whole

  -- the passes of a round are of these deques
  pub round_done : (takes : Task → Type 0) (thieves : List Thief) (t : Thief) (ps : List Ticket) → AreThieves full thieves → AreRound takes thieves ps → AreOf done ps
  round_done takes thieves t ps are round = record {
    lengths = (let e = so_far.lengths in let f = are.lengths in let g = round.lengths in omega arith);
    passes = λ d o p below.
        let inside : d < length full = (let e = so_far.lengths in omega arith) in
        let e : stealer_deque (get_or thieves d t) ≡ worker_deque (get_or done d o) = are.each d o t inside ∙ sym (so_far.each d o inside).0.deque in
        subst (λ x. IsPassOf x (get_or ps d p)) e (round.passes d t p (let f = are.lengths in omega arith));
    parts = round.parts;
  }

  module _ (end : List DequeOwner) (ends : EachChanges (GotParts count) done end) where
    to_the_end : EachChanges (λ a b. Keeps a b × (owner_parts b ≡ owner_parts a)) full end
    to_the_end = each_twice (λ a b. Keeps a b × (owner_parts b + count ≡ owner_parts a)) (GotParts count) (λ a b. Keeps a b × (owner_parts b ≡ owner_parts a))
        (λ a b c h k. (keeps_twice a b c h.0 k.keeps, (let e = h.1 in let f = k.parts in omega arith))) full done end so_far ends

    pub fifo_end : All (λ (o : DequeOwner). worker_flavor o ≡ 0) end
    fifo_end = all_after (λ a b. Keeps a b × (owner_parts b ≡ owner_parts a)) IsWholeOwner (λ (o : DequeOwner). worker_flavor o ≡ 0) (λ a b h w. h.0.flavor ∙ w.fifo) full end to_the_end whole

    pub parts_end : All (λ (o : DequeOwner). owner_parts o ≡ 1024) end
    parts_end = all_after (λ a b. Keeps a b × (owner_parts b ≡ owner_parts a)) IsWholeOwner (λ (o : DequeOwner). owner_parts o ≡ 1024) (λ a b h w. h.1 ∙ w.parts) full end to_the_end whole

    -- at the end, the tasks put are those put at the beginning
    pub put_end : (n : ℕ) → all_put n full ≡ all_put n end
    put_end n = sum_kept (λ (o : DequeOwner). copies n (worker_view o).put) full end to_the_end.lengths (λ d o below. ap (copies n) (sym (to_the_end.each d o below).0.put))

-- there are as many rounds as workers
pub rounds_many : (count : ℕ) (rounds : Vec (Vec Ticket)) (begun cut : List DequeOwner) (full : Vec DequeOwner) → length rounds.items ≡ length begun → begun ≡ cut → length cut ≡ length full.items
    → vec_len full ≡ count → length rounds.items ≡ vec_len rounds → length full.items ≡ vec_len full → vec_len rounds ≡ count
rounds_many count rounds begun cut full a b c d e f = let g = ap length b in omega arith
