use Rattle.std.proofs.Common.{◌≡◌, map, take}
use Rattle.declarations.proofs.members.names_of_methods.Given as goal

abbrev pub invariant-loop-method : goal.invariant-loop-method
invariant-loop-method l = l.names.items ≡ map (λ x. x.name) (take l.method-index l.methods)
