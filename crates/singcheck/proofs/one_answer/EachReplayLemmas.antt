-- Each text, entry and schedule has a result of `replay`, or there is no such entry, or a line is malformed.
use Rattle.std.proofs.Common.{◌≡◌, ℕ, List, Option, None, Some, slice_get, refl, sym, ap, subst, ◌∙◌}
use Rattle.std.proofs.Math.Path.{fun_ext}
use Rattle.std.specs.Option.{option_map}
use Rattle.program.specs.Parts.{ContractModel}
use Rattle.program.specs.Programs.{ProgramModel}
use Rattle.program.specs.declared.types.Side.{Side}
use Rattle.wellformed.specs.Told.{program_told}
use Rattle.machine.specs.Outcomes.{QueueBounds}
use Rattle.machine.specs.Replays as graph_replays
use Rattle.machine.specs.Replays.{ReplayModel}
use Rattle.machine.specs.Runs.{AreBounds}
use Rattle.machine.specs.declared.halts.Event.{Event}
use Rattle.machine.proofs.BoundLemmas.{bound_is, bound_past}
use Rattle.replays.specs.Names.{Words}
use Rattle.replays.specs.Schedules.{IsFirstMalformed, IsSchedule}
use Rattle.devices.specs.declared.fault.Status.{Status}
use Rattle.devices.specs.declared.fault.Status.TheVariants.{Found}
use Rattle.singcheck.specs.Checks.{HasProgram}
use Rattle.singcheck.specs.Replays.{Answered as answered, ComesTo, HasEntry, IsRan, NoEntry, NoSchedule, OfFindings, OfRun, stop_status}
use Rattle.singcheck.specs.Replays.{struct_names}
use Rattle.singcheck.proofs.PrintedLemmas.{Agreeing, graph_printed, printed}
use Rattle.singcheck.proofs.one_answer.EachLemmas.{Answered, program_there, sound_some}
use Rattle.singcheck.proofs.one_answer.InsertLemmas.{report_there}

-- laws of the crates below: a program has bounds, a schedule is read, and events have a replay
pub record Replaying : Type 0 where
  pub bounds : (text : List ℕ) (p : ProgramModel) → HasProgram text p → ((bound : QueueBounds) → AreBounds p bound → ⊥) → ⊥
  pub read : (bytes : List ℕ) → ((events : List Event) → ¬ IsSchedule bytes events) → ((n : ℕ) → ¬ IsFirstMalformed bytes n) → ⊥
  pub replays : (p : ProgramModel) (bound : QueueBounds) (m : ℕ) (events : List Event)
      → ((r : ReplayModel) → ¬ graph_replays.IsReplay p bound m events r) → ⊥
  pub agree : Agreeing

-- a program has one bound for each end of a contract
bound_at : (p : ProgramModel) (a b : QueueBounds) (n : ℕ) (side : Side) → AreBounds p a → AreBounds p b
    → (o : Option ContractModel) → slice_get p.contracts n ≡ o → a n side ≡ b n side
bound_at p a b n side are also None none = sym (bound_past p a n side are none) ∙ bound_past p b n side also none
bound_at p a b n side are also (Some c) there =
    bound_is p b n side c.parts (a n side) also (ap (option_map (λ (x : ContractModel). x.parts)) there) ∣ are.are n c side there ∣₁

one_bounds : (p : ProgramModel) (a b : QueueBounds) → AreBounds p a → AreBounds p b → a ≡ b
one_bounds p a b are also = fun_ext (λ n. fun_ext (λ side. bound_at p a b n side are also (slice_get p.contracts n) refl))

-- from an entry, the events of a schedule have a result
pub ran_some : Replaying → (entry lines text : List ℕ) (p : ProgramModel) (n : ℕ) (events : List Event) → HasEntry text entry p n
    → IsSchedule lines events
    → ((bytes : List ℕ) (status : Status) → ¬ IsRan entry lines text bytes status) → ⊥
ran_some laws entry lines text p n events entered told none = laws.bounds text p entered.has (λ bound are.
    laws.replays p bound n events (λ r is.
    let words : Words = record { program = p; structs = struct_names text entered.has.resolved.items } in
    none (graph_printed words events r) (stop_status r.halt) (record {
      program = p;
      n = n;
      entered = entered;
      events = events;
      told = told;
      steps = r.steps;
      halt = r.halt;
      led = λ other others. printed laws.agree words other n events r
          (subst (λ (b : QueueBounds). graph_replays.IsReplay p b n events r) (one_bounds p bound other are others) is);
      is = refl;
    })))

-- for an entry, the schedule is read or has a malformed line
scheduled_some : Replaying → (entry lines text : List ℕ) (p : ProgramModel) (n : ℕ) → HasEntry text entry p n
    → (ComesTo entry lines text → ⊥) → ⊥
scheduled_some laws entry lines text p n entered none = laws.read lines
    (λ events told. ran_some laws entry lines text p n events entered told (λ bytes status ran. none (answered bytes status (OfRun ran))))
    (λ line malformed. none (NoSchedule line (record { program = p; n = n; entered = entered; malformed = malformed })))

-- a program has the entry or lacks it
entered_some : Replaying → (entry lines text : List ℕ) (p : ProgramModel) → HasProgram text p → (ComesTo entry lines text → ⊥) → ⊥
entered_some laws entry lines text p has none =
    none (NoEntry (record {
      program = p;
      has = has;
      none =
          λ n at. scheduled_some laws entry lines text p n (record { has = has; at = at }) none;
    }))

pub replay_some : Answered → Replaying → (entry lines text : List ℕ) → (ComesTo entry lines text → ⊥) → ⊥
replay_some stages laws entry lines text none = sound_some stages text
    (λ found are.
    let report = report_there found in
    none (answered report.0 Found (OfFindings (record { found = found; are = are; told = report.1 }) refl)))
    (λ contracts resolved sound.
    entered_some laws entry lines text (program_told (record { text = text; items = resolved.items })) (program_there text contracts resolved sound) none)
