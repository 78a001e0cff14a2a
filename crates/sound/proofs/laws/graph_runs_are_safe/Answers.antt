use Rattle.sound.proofs.Whole.{empty_report_is_safe as law}
use Rattle.sound.proofs.laws.graph_runs_are_safe.Goals as goal

pub returns : goal.returns
returns c = law c.two_ends.ensures.held c.two_ends.ensures.bounded
