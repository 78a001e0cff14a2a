use Rattle.sound.proofs.Statements.{runs_safe}
use Rattle.sound.proofs.laws.empty_report_is_safe.Goals as goal

pub returns : goal.returns
returns c = λ p bound well sound bounds nothing n w entry run.
    runs_safe p bound n (λ v r. c.graph_runs_are_safe.ensures p bound well sound bounds nothing n v entry r) w run
