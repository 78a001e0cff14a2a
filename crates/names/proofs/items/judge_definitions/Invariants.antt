use Rattle.std.proofs.Common.{take}
use Rattle.std.specs.List.{flat_map}
use Rattle.names.specs.Findings.{definition_mistakes}
use Rattle.declarations.specs.Mistakes.{Adds}
use Rattle.declarations.specs.Program.{ProgramText}
use Rattle.declarations.specs.Scopes.{IsScope}
use Rattle.names.proofs.items.judge_definitions.Given as goal

abbrev pub invariant-loop-members : goal.invariant-loop-members
invariant-loop-members l = (p : ProgramText) → IsScope p l.scope → Adds l.fn.found.items l.found.items (flat_map (λ i. definition_mistakes p i.definition) (take l.members-index p.items))
