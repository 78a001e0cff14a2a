use Rattle.std.proofs.Common.{take}
use Rattle.std.specs.Prelude.{List}
use Rattle.std.specs.List.{flat_map}
use Rattle.source.specs.declared.token.Span.{Span}
use Rattle.declarations.specs.Listed.{asked_message}
use Rattle.declarations.specs.Mistakes.{Adds}
use Rattle.tables.specs.Tables.{IsTable}
use Rattle.tables.specs.Words.{words_at}
use Rattle.declarations.proofs.state_paths.judge_edges.Given as goal

abbrev pub invariant-loop-edge : goal.invariant-loop-edge
invariant-loop-edge l = (names : List Span) → IsTable (words_at l.text names) l.table → Adds l.fn.found.items l.found.items (flat_map (λ e. asked_message l.text names e.message) (take l.edge-index l.edges))
