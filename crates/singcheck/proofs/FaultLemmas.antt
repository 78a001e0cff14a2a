-- Why a run of `check` fails, given why one of its parts failed.
use Rattle.std.proofs.Common.{◌≡◌, ℕ, true}
use Rattle.devices.specs.RunFaults.{IsReadFault}
use Rattle.devices.specs.declared.fault.Input.TheVariants.{Text, Schedule}
use Rattle.devices.specs.declared.fault.RunFault.{RunFault}
use Rattle.devices.specs.declared.fault.RunFault.TheVariants as run
use Rattle.singcheck.specs.CheckFaults.{RunExplains, workers_fit, slots_fit}

pub read_explains : (workers slots : ℕ) (fault : RunFault) → workers_fit workers ≡ true → slots_fit slots ≡ true → IsReadFault Text fault → RunExplains workers slots fault
read_explains workers slots (run.Read Text) w s told = (w, s)
read_explains workers slots (run.Read Schedule) w s told = absurd (cc)
read_explains workers slots run.Memory w s told = (w, s)
read_explains workers slots run.Write w s told = absurd told
read_explains workers slots run.Workers w s told = absurd told
read_explains workers slots run.Slots w s told = absurd told
read_explains workers slots run.Entry w s told = absurd told
read_explains workers slots (run.Schedule line) w s told = absurd told
