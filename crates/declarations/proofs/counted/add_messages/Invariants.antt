use Rattle.std.proofs.Common.{◌≡◌, ◌++◌, map, take}
use Rattle.declarations.proofs.counted.add_messages.Given as goal

abbrev pub invariant-loop-edge : goal.invariant-loop-edge
invariant-loop-edge l = l.names.items ≡ l.fn.names.items ++ map (λ e. e.message) (take l.edge-index l.edges)
