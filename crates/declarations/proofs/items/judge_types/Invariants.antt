use Rattle.std.proofs.Common.{take}
use Rattle.std.specs.List.{flat_map}
use Rattle.declarations.specs.Types.{type_unknown}
use Rattle.declarations.specs.Mistakes.{Adds}
use Rattle.declarations.specs.Program.{ProgramText}
use Rattle.declarations.specs.Scopes.{IsScope}
use Rattle.declarations.proofs.items.judge_types.Given as goal

abbrev pub invariant-loop-field : goal.invariant-loop-field
invariant-loop-field l = (p : ProgramText) → IsScope p l.scope → Adds l.fn.found.items l.found.items (flat_map (λ x. type_unknown p x.ty) (take l.field-index l.fields))
