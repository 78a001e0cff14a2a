use Rattle.std.proofs.Common.{◌≡◌, map, take}
use Rattle.flow.specs.Cases.{entrance_model, key_of}
use Rattle.flow.proofs.cases.keys_of.Given as goal

abbrev pub invariant-loop-case : goal.invariant-loop-case
invariant-loop-case l = l.keys.items ≡ map (λ c. key_of (entrance_model c)) (take l.case-index l.cases)
