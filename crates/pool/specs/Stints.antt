-- What a worker begins and ends with.
use Rattle.std.specs.Prelude.{◌≡◌, ℕ, ◌+◌, ◌<◌, List, [], All, IfOk, Result, length, slice_index_or}
use Rattle.std.specs.Global.{Vec}
use Rattle.crossbeam_deque.specs.Handles.{worker_view}
use Rattle.tasks.specs.declared.task.Task.{Task}
use Rattle.source.specs.declared.fault.Memory.{Memory}
use Rattle.pool.specs.Rule.{copies}
use Rattle.pool.specs.Counts.{DequeOwner, Ticket, all_taken, method_of, taken_by, times_done}
use Rattle.pool.specs.Owners.{EachChanges, IsOwn, Thief, Took}
use Rattle.pool.specs.Rounds.{AreRound, IsFresh, all_by}
use Rattle.pool.specs.declared.bench.Bench.{Bench}
use Rattle.pool.specs.declared.gathering.Gathered.{Gathered}

-- the own deque of a worker when it begins
abbrev pub owner_of : {S : Type 0} → ℕ × DequeOwner × Vec Ticket × S → DequeOwner
owner_of s = s.1

-- A worker's number, its own deque, from which nothing was taken, a pass of each deque, none of which has taken anything, and a seat in
-- which tasks may be run.
module _ {S : Type 0} (takes : Task → Type 0) (seats : S → Type 0) where
  pub record IsStint (thieves : List Thief) (s : ℕ × DequeOwner × Vec Ticket × S) : Type 0 where
    pub index : s.0 < length thieves
    pub own : IsOwn takes s.1
    pub fresh : (worker_view s.1).taken ≡ []
    pub passes : IsFresh takes thieves s.2.items
    pub seat : seats s.3

module _ {S X : Type 0} (takes : Task → Type 0) (seats : S → Type 0) (gives : ℕ → X → Type 0) (thieves : List Thief) where
  -- The worker that began with this deque of its own has done what it took from all deques, each task once, and its seat is one in which
  -- tasks may be run.
  pub record IsWork (begun : DequeOwner) (s : DequeOwner × Vec Ticket × Bench S X) : Type 0 where
    pub own : Took begun s.0
    pub round : AreRound takes thieves s.1.items
    pub counted : (n : ℕ) → times_done n s.2.done.items ≡ copies n (worker_view s.0).taken + taken_by n s.1.items
    pub given : All (λ d. gives (method_of d) d.out) s.2.done.items
    pub seat : seats s.2.seat

  -- the workers that began with these deques ended so, each with its work or out of memory
  pub record AreWork (begun : List DequeOwner) (shifts : List (Result (DequeOwner × Vec Ticket × Bench S X) Memory)) : Type 0 where
    pub lengths : length begun ≡ length shifts
    pub each : (k : ℕ) (o : DequeOwner) (s : Result (DequeOwner × Vec Ticket × Bench S X) Memory) → k < length shifts
        → IfOk (slice_index_or shifts k s) (IsWork (slice_index_or begun k o))

  -- what the workers that began with these deques have done, put together
  pub record AreGathered (begun : List DequeOwner) (all : Gathered S X) : Type 0 where
    pub owners : EachChanges Took begun all.owners.items
    pub count : length all.rounds.items ≡ length begun
    pub rounds : All (λ (ps : Vec Ticket). AreRound takes thieves ps.items) all.rounds.items
    pub counted : (n : ℕ) → times_done n all.done.items ≡ all_taken n all.owners.items + all_by n all.rounds.items
    pub given : All (λ d. gives (method_of d) d.out) all.done.items
    pub seats_count : length all.seats.items ≡ length begun
    pub each_seat : All seats all.seats.items
