use Rattle.std.proofs.Common.{◌≡◌, ◌++◌, drop}
use Rattle.nearest.specs.Locals.{bound_names, those_before}
use Rattle.nearest.proofs.locals.add_binds.Given as goal

-- the names added and those left are all that were to be added
abbrev pub invariant-loop-bind : goal.invariant-loop-bind
invariant-loop-bind l = l.names.items ++ those_before l.place (bound_names (drop l.bind-index l.binds)) ≡ l.fn.names.items ++ those_before l.place (bound_names l.binds)
