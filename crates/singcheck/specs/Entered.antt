-- For proofs within the crate: the lookup of an entry in a text.
use Rattle.std.specs.Prelude.{◌≡◌, ℕ, List, Option, None, Some, IsSomeAnd, map, slice_get, string_bytes, true}
use Rattle.program.specs.Programs.{ProgramModel}
use Rattle.rules.specs.Programs.{is_entry, model_of}
use Rattle.machine.specs.Outcomes.{QueueBounds}
use Rattle.machine.specs.Runs.{AreBounds}
use Rattle.semantics.specs.Events.{Run}
use Rattle.semantics.specs.Worlds.{World}
use Rattle.sound.specs.Premises.{IsEntry, NothingIsFound}
use Rattle.sound.specs.Safe.{IsSafe}
use Rattle.devices.specs.declared.fault.Input.TheVariants as input
use Rattle.devices.specs.declared.fault.RunFault.{RunFault}
use Rattle.devices.specs.declared.fault.RunFault.TheVariants.{Read, Entry, Schedule, Memory}
use Rattle.singcheck.specs.Replays.{HasEntry, LacksEntry, method_names, struct_names}
use Rattle.singcheck.specs.declared.entering.Begun.{Begun}

-- a run may begin with this method of a program
abbrev pub MayBegin : ProgramModel → ℕ → Type 0
MayBegin p n = IsSomeAnd (slice_get p.methods n) (λ m. is_entry m ≡ true)

-- if nothing is found in the methods of a program, its runs are safe
abbrev pub AreCleanSafe : ProgramModel → Type 0
AreCleanSafe p =
    (bound : QueueBounds) → AreBounds p bound → NothingIsFound p → (n : ℕ) (w : World) → IsEntry p n → Run p bound n w → IsSafe p bound w

-- this is the program of the text, and the entry is this method of it
pub record IsBegun (text entry : List ℕ) (b : Begun) : Type 0 where
  pub entered : HasEntry text entry (model_of b.program) b.method.0
  pub structs : map string_bytes b.structs.items ≡ struct_names text entered.has.resolved.items
  pub methods : map (λ name. name.items) b.methods.items ≡ method_names text entered.has.resolved.items

-- the run may begin; or the text has no such entry
abbrev pub ComesIn : List ℕ → List ℕ → Option Begun → Type 0
ComesIn text entry None = LacksEntry text entry
ComesIn text entry (Some b) = IsBegun text entry b

-- the errors of a replay of a schedule: it cannot be read, a line is malformed, or out of memory
abbrev pub IsScheduledFault : RunFault → Type 0
IsScheduledFault (Read input.Schedule) = Unit {0}
IsScheduledFault (Schedule line) = Unit {0}
IsScheduledFault Memory = Unit {0}
IsScheduledFault _ = ⊥

-- the same errors, or there is no entry
abbrev pub IsAnswerFault : RunFault → Type 0
IsAnswerFault Entry = Unit {0}
IsAnswerFault fault = IsScheduledFault fault
