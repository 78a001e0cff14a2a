-- Tasks as callers see them.
use Rattle.std.specs.Prelude.{ℕ, zero, suc, List, [], ◌∷◌, ◌++◌}
use Rattle.rules.specs.declared.lowered.Program.{Program}
use Rattle.tasks.specs.declared.task.Task.{Task}

abbrev pub number_of : Task → ℕ
number_of t = t.method.0

-- the program of its method
abbrev pub task_program : Task → Program
task_program t = t.program.value

-- the numbers below this one, in order
abbrev pub numbers_below : ℕ → List ℕ
numbers_below zero = []
numbers_below (suc n) = numbers_below n ++ n ∷ []
