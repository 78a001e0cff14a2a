use Rattle.std.proofs.Common.{◌-◌, ◌∷◌, [], length}
use Rattle.contracts.specs.Graphs.{groups}
use Rattle.contracts.specs.Reached.{union}
use Rattle.contracts.proofs.MarkLemmas.{HasFollowed}
use Rattle.contracts.proofs.marking.reached_from.Given as goal

abbrev pub invariant-works : goal.invariant-works
invariant-works l = HasFollowed (union (groups l.sends) (groups l.receives)) (l.first ∷ []) l.marks.items l.work.items l.at

abbrev pub decreases-works : goal.decreases-works
decreases-works l = length (groups l.sends) - l.at
