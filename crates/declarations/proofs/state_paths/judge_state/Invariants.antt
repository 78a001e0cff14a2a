use Rattle.std.proofs.Common.{take}
use Rattle.std.specs.Prelude.{List}
use Rattle.std.specs.List.{flat_map}
use Rattle.source.specs.declared.token.Span.{Span}
use Rattle.tree.specs.Trees.{path_tree}
use Rattle.declarations.specs.ContractMistakes.{path_mistakes}
use Rattle.declarations.specs.Mistakes.{Adds}
use Rattle.tables.specs.Tables.{IsTable}
use Rattle.tables.specs.Words.{words_at}
use Rattle.declarations.proofs.state_paths.judge_state.Given as goal

abbrev pub invariant-loop-path : goal.invariant-loop-path
invariant-loop-path l = (messages states : List Span) → IsTable (words_at l.text messages) l.declared.messages → IsTable (words_at l.text states) l.declared.states
    → Adds l.fn.found.items l.found.items (flat_map (λ p. path_mistakes l.text messages states (path_tree p)) (take l.path-index l.path-items))
