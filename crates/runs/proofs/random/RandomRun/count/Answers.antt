use Rattle.std.proofs.Common.{◌∙◌}
use Rattle.runs.proofs.TallyLemmas.{run_counts}
use Rattle.runs.proofs.random.RandomRun.count.Goals as goal

pub returns-then-is_better-clause-tallies : goal.returns-then-is_better-clause-tallies
returns-then-is_better-clause-tallies c = λ t m is run.
    c.count.ensures t m is (run_counts t m c.args.run c.kind.result c.len.result run c.kind.ensures (c.len.ensures ∙ c.args.run.journal.events.ok.0))

pub returns-else-is_better-clause-tallies : goal.returns-else-is_better-clause-tallies
returns-else-is_better-clause-tallies c = λ t m is run.
    c.count.ensures t m is (run_counts t m c.args.run c.kind.result c.len.result run c.kind.ensures (c.len.ensures ∙ c.args.run.journal.events.ok.0))
