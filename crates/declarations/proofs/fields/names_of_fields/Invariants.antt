use Rattle.std.proofs.Common.{◌≡◌, map, take}
use Rattle.declarations.proofs.fields.names_of_fields.Given as goal

abbrev pub invariant-loop-field : goal.invariant-loop-field
invariant-loop-field l = l.names.items ≡ map (λ x. x.name) (take l.field-index l.fields)
