use Rattle.std.proofs.Common.{◌≡◌, take}
use Rattle.std.specs.List.{filter}
use Rattle.declarations.specs.Types.{is_heap}
use Rattle.declarations.proofs.fields.owning_fields.Given as goal

abbrev pub invariant-loop-field : goal.invariant-loop-field
invariant-loop-field l = l.owning.items ≡ filter (λ f. is_heap f.ty) (take l.field-index l.fields)
