-- Passes of all deques, one for each, in order: what a worker steals with.
use Rattle.std.specs.Prelude.{◌≡◌, ℕ, ◌<◌, List, [], All, length, slice_index_or, sum_by}
use Rattle.std.specs.Global.{Vec}
use Rattle.crossbeam_deque.specs.Handles.{IsPassOf, stealer_deque, stealer_flavor, view, worker_deque, worker_view}
use Rattle.tasks.specs.declared.task.Task.{Task}
use Rattle.pool.specs.Counts.{DequeOwner, Ticket, taken_by}
use Rattle.pool.specs.Owners.{CutOff, Thief}
use Rattle.pool.specs.declared.held.HeldTask.{HeldTask}

-- there is a pass of each deque, with one part, and all of its tasks may be run
pub record AreRound (takes : Task → Type 0) (thieves : List Thief) (ps : List Ticket) : Type 0 where
  pub lengths : length ps ≡ length thieves
  pub passes : (d : ℕ) (t : Thief) (p : Ticket) → d < length thieves
      → IsPassOf (stealer_deque (slice_index_or thieves d t)) (slice_index_or ps d p)
  pub parts : All (λ (p : Ticket). (view p).parts ≡ 1) ps
  pub tasks : All (λ (p : Ticket). All (λ (x : HeldTask). takes x.task) (view p).put) ps
  pub fifo : All (λ (t : Thief). stealer_flavor t ≡ 0) thieves

-- the same, and no pass has taken anything
pub record IsFresh (takes : Task → Type 0) (thieves : List Thief) (ps : List Ticket) : Type 0 where
  pub round : AreRound takes thieves ps
  pub none : (n : ℕ) → taken_by n ps ≡ 0

-- a pass of each deque was cut off
pub record AreCutOff (owners owners' : List DequeOwner) (ps : List Ticket) : Type 0 where
  pub lengths : length owners' ≡ length owners
  pub count : length ps ≡ length owners
  pub each : (d : ℕ) (o : DequeOwner) (p : Ticket) → d < length owners
      → CutOff (slice_index_or owners d o) (slice_index_or owners' d o) (slice_index_or ps d p)

-- a pass of this deque that has one part and has taken nothing
pub record IsNewPass (o : DequeOwner) (p : Ticket) : Type 0 where
  pub pass : IsPassOf (worker_deque o) p
  pub part : (view p).parts ≡ 1
  pub none : (view p).taken ≡ []
  pub put : (view p).put ≡ (worker_view o).put

-- a new pass of each deque
pub record AreNew (owners : List DequeOwner) (ps : List Ticket) : Type 0 where
  pub lengths : length ps ≡ length owners
  pub each : (d : ℕ) (o : DequeOwner) (p : Ticket) → d < length owners → IsNewPass (slice_index_or owners d o) (slice_index_or ps d p)

-- a pass of each deque, with one part
pub record AreOf (owners : List DequeOwner) (ps : List Ticket) : Type 0 where
  pub lengths : length ps ≡ length owners
  pub passes : (d : ℕ) (o : DequeOwner) (p : Ticket) → d < length owners
      → IsPassOf (worker_deque (slice_index_or owners d o)) (slice_index_or ps d p)
  pub parts : All (λ (p : Ticket). (view p).parts ≡ 1) ps

-- how often the passes of all workers have taken a task of the number
abbrev pub all_by : ℕ → List (Vec Ticket) → ℕ
all_by n rounds = sum_by (λ (ps : Vec Ticket). taken_by n ps.items) rounds
