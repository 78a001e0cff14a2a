-- Why a check or a run of it fails.
use Rattle.std.specs.Prelude.{◌≡◌, ℕ, Bool, true, false, ◌&&◌, leb}
use Rattle.devices.specs.declared.fault.CheckFault.{CheckFault}
use Rattle.devices.specs.declared.fault.CheckFault.TheVariants.{Workers, Slots, Memory}
use Rattle.devices.specs.declared.fault.Input.TheVariants.{Schedule}
use Rattle.devices.specs.declared.fault.RunFault.{RunFault}
use Rattle.devices.specs.declared.fault.RunFault.TheVariants as run
use Rattle.singcheck.specs.declared.limits.TheConstants.{MOST_WORKERS, MOST_SLOTS}

-- whether the number of workers is from 1 to 64
abbrev pub workers_fit : ℕ → Bool
workers_fit workers = leb 1 workers && leb workers MOST_WORKERS

-- whether the number of slots is from 1 to 16,777,216
abbrev pub slots_fit : ℕ → Bool
slots_fit slots = leb 1 slots && leb slots MOST_SLOTS

-- why `check` fails: the workers are looked at first, then the slots; after that the only fault is `Memory`
abbrev pub ExplainsFault : ℕ → ℕ → CheckFault → Type 0
ExplainsFault workers slots Workers = workers_fit workers ≡ false
ExplainsFault workers slots Slots = (workers_fit workers ≡ true) × (slots_fit slots ≡ false)
ExplainsFault workers slots Memory = (workers_fit workers ≡ true) × (slots_fit slots ≡ true)

-- the same for the test of the numbers alone, which never runs out of memory
abbrev pub AreUnfit : ℕ → ℕ → CheckFault → Type 0
AreUnfit workers slots Workers = workers_fit workers ≡ false
AreUnfit workers slots Slots = (workers_fit workers ≡ true) × (slots_fit slots ≡ false)
AreUnfit workers slots Memory = ⊥

-- why a run of `check` fails, by the same order; it has no entry and no schedule
abbrev pub RunExplains : ℕ → ℕ → RunFault → Type 0
RunExplains workers slots run.Workers = workers_fit workers ≡ false
RunExplains workers slots run.Slots = (workers_fit workers ≡ true) × (slots_fit slots ≡ false)
RunExplains workers slots run.Entry = ⊥
RunExplains workers slots (run.Schedule line) = ⊥
RunExplains workers slots (run.Read Schedule) = ⊥
RunExplains workers slots _ = (workers_fit workers ≡ true) × (slots_fit slots ≡ true)
