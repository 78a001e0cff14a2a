use Rattle.sound.proofs.Statements.{runs_bounded}
use Rattle.sound.proofs.laws.runs_are_bounded.Goals as goal

pub returns : goal.returns
returns c = λ p bound well sound bounds n w run.
    runs_bounded p bound n (λ v r. c.graph_runs_are_bounded.ensures p bound well sound bounds n v r) w run
