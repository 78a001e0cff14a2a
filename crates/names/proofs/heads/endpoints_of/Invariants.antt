use Rattle.std.proofs.Common.{◌≡◌, map, take}
use Rattle.names.proofs.heads.endpoints_of.Given as goal

abbrev pub invariant-loop-case : goal.invariant-loop-case
invariant-loop-case l = l.names.items ≡ map (λ a. a.endpoint) (take l.case-index l.list)
