use Rattle.std.proofs.Common.{◌≤◌, ◌+◌, length, min, take}
use Rattle.replays.specs.declared.limits.TheConstants.{MOST_SCHEDULE}
use Rattle.replays.proofs.ScheduleLemmas.{IsSoFar}
use Rattle.replays.proofs.schedule.read_schedule.Given as goal

-- the events so far are those of the lines so far, and there are no more lines than bytes
abbrev pub invariant-lines : goal.invariant-lines
invariant-lines l = record {
  short : l.number + length l.rest ≤ 1 + MOST_SCHEDULE;
  so_far : IsSoFar (take (min MOST_SCHEDULE (length l.bytes)) l.bytes) l.rest l.number l.events.items;
}

abbrev pub decreases-lines : goal.decreases-lines
decreases-lines l = length l.rest
