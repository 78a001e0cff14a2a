use Rattle.std.proofs.Common.{◌≡◌, ◌++◌, map, take}
use Rattle.traces.proofs.watching.add_endpoints.Given as goal

abbrev pub invariant-loop-endpoint : goal.invariant-loop-endpoint
invariant-loop-endpoint l = map (λ v. v.0) l.variables.items ≡ map (λ v. v.0) l.fn.variables.items ++ map (λ e. e.variable.0) (take l.endpoint-index l.endpoint-items)
