-- How often a number occurs among tasks and results.
use Rattle.std.specs.Prelude.{◌≡◌, ◌==◌, ℕ, ◌+◌, List, All, count_by, map, sum_by}
use Rattle.std.specs.declared.alloc.Global.{Global}
use Rattle.crossbeam_deque.specs.Handles.{Pass, view, worker_view}
use Rattle.crossbeam_deque.specs.declared.handles.Worker.{Worker}
use Rattle.pool.specs.Rule.{copies}
use Rattle.pool.specs.declared.bench.Bench.{Bench}
use Rattle.pool.specs.declared.deque.Sharing.{Sharing}
use Rattle.pool.specs.declared.done.Done.{Done}
use Rattle.pool.specs.declared.held.Hand.{Hand}
use Rattle.pool.specs.declared.held.HeldTask.{HeldTask}

-- the owner's side of a deque
abbrev pub DequeOwner : Type 0
DequeOwner = Worker HeldTask Global Hand Sharing

-- what a worker needs to steal from a deque
abbrev pub Ticket : Type 0
Ticket = Pass HeldTask Hand Global

-- how often the number occurs in the list
abbrev pub times : ℕ → List ℕ → ℕ
times n xs = count_by (λ x. x == n) xs

-- the method of a result
abbrev pub method_of : {X : Type 0} → Done X → ℕ
method_of d = d.method.0

-- how many of these results are of the method
abbrev pub times_done : {X : Type 0} → ℕ → List (Done X) → ℕ
times_done n done = times n (map method_of done)

-- how often a task of the number was put into these deques
abbrev pub all_put : ℕ → List DequeOwner → ℕ
all_put n owners = sum_by (λ (o : DequeOwner). copies n (worker_view o).put) owners

-- how often the owners' own passes have taken a task of the number
abbrev pub all_taken : ℕ → List DequeOwner → ℕ
all_taken n owners = sum_by (λ (o : DequeOwner). copies n (worker_view o).taken) owners

-- how often these passes have taken a task of the number
abbrev pub taken_by : ℕ → List Ticket → ℕ
taken_by n passes = sum_by (λ (p : Ticket). copies n (view p).taken) passes

-- The results of a bench grew by as much as the taken tasks did, whose count went from `before` to `after` for each number. If the old
-- results are as the job promises, so are the new ones.
module _ {S X : Type 0} (gives : ℕ → X → Type 0) where
  pub record Does (before after : ℕ → ℕ) (old new : Bench S X) : Type 0 where
    pub counted : (n : ℕ) → times_done n new.done.items + before n ≡ times_done n old.done.items + after n
    pub given : All (λ d. gives (method_of d) d.out) old.done.items → All (λ d. gives (method_of d) d.out) new.done.items
