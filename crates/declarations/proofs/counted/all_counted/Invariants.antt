use Rattle.std.proofs.Common.{◌≡◌, take}
use Rattle.std.specs.List.{flat_map}
use Rattle.declarations.specs.Declarations.{counted_states}
use Rattle.declarations.specs.Outlines.{outlined_states}
use Rattle.declarations.specs.Scopes.{declared_among}
use Rattle.declarations.proofs.counted.all_counted.Given as goal

abbrev pub invariant-loop-item : goal.invariant-loop-item
invariant-loop-item l = l.names.items ≡ flat_map (λ m. flat_map (λ d. counted_states (outlined_states d.outline)) (declared_among m)) (take l.item-index l.items)
