use Rattle.std.proofs.Common.{◌≡◌, ◌++◌, map, take}
use Rattle.declarations.specs.Numbered.{unnamed_names}
use Rattle.declarations.proofs.state_names.add_unnamed.Given as goal

abbrev pub invariant-loop-edge : goal.invariant-loop-edge
invariant-loop-edge l = l.names.items ≡ l.fn.names.items ++ unnamed_names (map (λ e. e.message) (take l.edge-index l.others))
