use Rattle.contract_traces.proofs.rings.Rings.leave.Given as goal

abbrev pub decreases-loop-self : goal.decreases-loop-self
decreases-loop-self l = l.self.left
