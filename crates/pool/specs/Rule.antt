-- The rule of a deque: the tasks that were put are those that all passes have taken and those inside, each as often.
use Rattle.std.specs.Prelude.{◌≡◌, ◌==◌, ℕ, ◌<◌, List, [], ◌++◌, count_by, sum_by}
use mathlib.Core.Option.{some}
use lib.ListN.{get_elem?}
use Rattle.tasks.specs.Tasks.{number_of}
use Rattle.pool.specs.declared.held.Hand.{Hand}
use Rattle.pool.specs.declared.held.HeldTask.{HeldTask}

abbrev pub hand : ℕ → List HeldTask → List HeldTask → Hand
hand parts put taken = record { parts = parts; put = put; taken = taken }

-- the number of a task in a deque
abbrev pub held_number : HeldTask → ℕ
held_number x = number_of x.task

abbrev pub parts_of : Hand → ℕ
parts_of v = v.parts

-- how many of these tasks have the number
abbrev pub copies : ℕ → List HeldTask → ℕ
copies n xs = count_by (λ x. held_number x == n) xs

-- how often the pass has taken a task of the number
abbrev pub took : ℕ → Hand → ℕ
took n v = copies n v.taken

-- a pass with no part has taken nothing, and one with a part knows what was put
abbrev pub Fits : List HeldTask → Hand → Type 0
Fits put v = (v.parts ≡ 0 → v.taken ≡ []) × (0 < v.parts → v.put ≡ put)

abbrev pub EachFits : List HeldTask → List Hand → Type 0
EachFits put views = (port : ℕ) (v : Hand) → get_elem? views port ≡ some v → Fits put v

-- These tasks are inside, and these are the views of all passes. There are 1024 parts in all; what was put is what is gone followed by
-- what is inside; and the passes have taken what is gone.
abbrev pub Shares : List HeldTask → List Hand → Type 0
Shares items views = (put : List HeldTask) × (gone : List HeldTask) × (put ≡ gone ++ items) × (sum_by parts_of views ≡ 1024)
    × ((n : ℕ) → sum_by (took n) views ≡ copies n gone)
    × EachFits put views

-- these tasks are in the list, side by side
abbrev pub IsPart : List HeldTask → List HeldTask → Type 0
IsPart put xs = (front : List HeldTask) × (rest : List HeldTask) × (put ≡ (front ++ xs) ++ rest)
