use Rattle.std.proofs.Common.{◌≡◌, drop}
use Rattle.rows.specs.Rows.{row_model}
use Rattle.rules.specs.Switches.{bound_leaves}
use Rattle.rules.proofs.switching.bind.Given as goal

abbrev pub invariant-loop-number : goal.invariant-loop-number
invariant-loop-number l = bound_leaves (row_model l.row) (drop l.number l.targets) (drop l.number l.types) ≡ bound_leaves (row_model l.fn.row) l.targets l.types
