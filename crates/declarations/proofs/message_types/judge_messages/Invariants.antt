use Rattle.std.proofs.Common.{take}
use Rattle.std.specs.List.{flat_map}
use Rattle.tree.specs.Trees.{message_tree}
use Rattle.declarations.specs.ContractMistakes.{message_mistakes}
use Rattle.declarations.specs.Mistakes.{Adds}
use Rattle.declarations.specs.Program.{ProgramText}
use Rattle.declarations.specs.Scopes.{IsScope}
use Rattle.declarations.proofs.message_types.judge_messages.Given as goal

abbrev pub invariant-loop-message : goal.invariant-loop-message
invariant-loop-message l = (p : ProgramText) → IsScope p l.scope
    → Adds l.fn.found.items l.found.items (flat_map (λ m. message_mistakes p (message_tree m.now)) (take l.message-index l.messages))
