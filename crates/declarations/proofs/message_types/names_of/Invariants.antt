use Rattle.std.proofs.Common.{◌≡◌, map, take}
use Rattle.declarations.proofs.message_types.names_of.Given as goal

abbrev pub invariant-loop-param : goal.invariant-loop-param
invariant-loop-param l = l.names.items ≡ map (λ p. p.name) (take l.param-index l.params)
