-- Why a run fails.
use Rattle.std.specs.Prelude.{◌≡◌}
use Rattle.devices.specs.declared.fault.CheckFault.{CheckFault}
use Rattle.devices.specs.declared.fault.CheckFault.TheVariants as check
use Rattle.devices.specs.declared.fault.Input.{Input}
use Rattle.devices.specs.declared.fault.Input.TheVariants.{Text}
use Rattle.devices.specs.declared.fault.RunFault.{RunFault}
use Rattle.devices.specs.declared.fault.RunFault.TheVariants.{Read, Write, Workers, Slots, Memory}

-- reading an input fails only if its device fails or memory runs out
abbrev pub IsReadFault : Input → RunFault → Type 0
IsReadFault input (Read which) = which ≡ input
IsReadFault input Memory = Unit {0}
IsReadFault input _ = ⊥

-- the fault of `bounds` is `Read` of the text, `Write` or `Memory`
abbrev pub IsBoundsFault : RunFault → Type 0
IsBoundsFault (Read which) = which ≡ Text
IsBoundsFault Write = Unit {0}
IsBoundsFault Memory = Unit {0}
IsBoundsFault _ = ⊥

-- the fault of `replay` is none of workers and slots, which it does not have
abbrev pub IsReplayFault : RunFault → Type 0
IsReplayFault Workers = ⊥
IsReplayFault Slots = ⊥
IsReplayFault _ = Unit {0}

-- the fault of a check as that of a run that checks
abbrev pub run_fault_of : CheckFault → RunFault
run_fault_of check.Workers = Workers
run_fault_of check.Slots = Slots
run_fault_of check.Memory = Memory
