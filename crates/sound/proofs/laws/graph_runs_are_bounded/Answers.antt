use Rattle.sound.proofs.AnyRun.{runs_are_bounded as law}
use Rattle.sound.proofs.laws.graph_runs_are_bounded.Goals as goal

pub returns : goal.returns
returns c = law c.two_ends.ensures.held c.two_ends.ensures.bounded
