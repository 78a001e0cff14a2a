use Rattle.std.proofs.Common.{take}
use Rattle.std.specs.Prelude.{List}
use Rattle.std.specs.List.{flat_map}
use Rattle.source.specs.declared.token.Span.{Span}
use Rattle.tree.specs.Trees.{state_tree}
use Rattle.declarations.specs.ContractMistakes.{state_mistakes}
use Rattle.declarations.specs.Mistakes.{Adds}
use Rattle.tables.specs.Tables.{IsTable}
use Rattle.tables.specs.Words.{words_at}
use Rattle.declarations.proofs.state_paths.judge_states.Given as goal

abbrev pub invariant-loop-state : goal.invariant-loop-state
invariant-loop-state l = (messages states : List Span) → IsTable (words_at l.text messages) l.declared.messages → IsTable (words_at l.text states) l.declared.states
    → Adds l.fn.found.items l.found.items (flat_map (λ s. state_mistakes l.text messages states (state_tree s.now)) (take l.state-index l.state-items))
