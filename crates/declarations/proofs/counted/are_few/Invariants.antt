use Rattle.std.proofs.Common.{◌≡◌, ◌+◌, length, take}
use Rattle.std.specs.List.{flat_map}
use Rattle.declarations.specs.Scopes.{declared_among}
use Rattle.declarations.proofs.counted.are_few.Given as goal

abbrev pub invariant-loop-item : goal.invariant-loop-item
invariant-loop-item l = l.left + length (flat_map (λ m. flat_map (λ d. d.counted.all.items) (declared_among m)) (take l.item-index l.items)) ≡ l.most
