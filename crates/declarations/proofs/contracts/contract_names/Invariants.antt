use Rattle.std.proofs.Common.{◌≡◌, map, take}
use Rattle.std.specs.List.{flat_map}
use Rattle.declarations.specs.Scopes.{declared_among}
use Rattle.declarations.proofs.contracts.contract_names.Given as goal

abbrev pub invariant-loop-item : goal.invariant-loop-item
invariant-loop-item l = l.names.items ≡ flat_map (λ m. map (λ d. d.outline.name) (declared_among m)) (take l.item-index l.items)
