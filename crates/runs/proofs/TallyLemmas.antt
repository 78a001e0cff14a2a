-- Counting runs.
use Rattle.std.proofs.Common.{◌≡◌, ◌⊎◌, ℕ, None, Option, Some, length, subst, sym, inl, inr}
use Rattle.std.specs.Prelude.{IsSomeAnd}
use Rattle.replays.specs.EventLines.{TraceWords}
use Rattle.replays.specs.RunLines.{kind_of}
use Rattle.replays.specs.declared.end.EndKind.{EndKind}
use Rattle.runs.specs.Ends.{IsRun}
use Rattle.runs.specs.Tallies.{HasRun, IsTally}
use Rattle.runs.specs.declared.ending.Simulation.{Simulation}
use Rattle.runs.specs.declared.tallies.Tally.{Tally}

-- one more run is one_more
pub one_more_tally : (t : TraceWords) (m : ℕ) (kind : EndKind) (old : Option Tally) (new events : ℕ) → IsTally t m kind old → HasRun t m kind events
    → (new ≡ events) ⊎ IsSomeAnd old (λ tally. new ≡ tally.events) → HasRun t m kind new
one_more_tally t m kind old new events is run (inl same) = subst (HasRun t m kind) (sym same) run
one_more_tally t m kind None new events is run (inr same) = absurd same
one_more_tally t m kind (Some tally) new events is run (inr same) = subst (HasRun t m kind) (sym same) is

-- a run counts as one that ends in its way
pub run_counts : (t : TraceWords) (m : ℕ) (r : Simulation) (kind : EndKind) (events : ℕ) → IsRun t m r → kind ≡ kind_of r.end
    → events ≡ length r.journal.events.items → HasRun t m kind events
run_counts t m r kind events is ends long = record { run = r; is = is; ends = sym ends; long = sym long }
