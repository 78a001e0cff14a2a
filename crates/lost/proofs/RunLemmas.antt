-- What is lost stays lost after an event, and out of reach in every run.
use Rattle.std.proofs.Common.{◌≡◌, ◌∷◌, ◌≤◌, ℕ, Bool, true, false, List, [], Contains, Option, Some, None}
use Rattle.std.proofs.Common.{arith, inl, inr, length, refl, subst, ⊎_elim}
use Rattle.std.specs.Prelude.{if◌then◌else◌, nat_lt}
use Rattle.std.proofs.lemmas.List.Elements.{Contains-append_right}
use Rattle.program.specs.Programs.{ProgramModel}
use Rattle.flow.specs.Graphs.{Instruction}
use Rattle.machine.specs.Frames.{choices, instruction_at}
use Rattle.machine.specs.Instructions.{outcome_from}
use Rattle.machine.specs.Heaps.{FieldsHold}
use Rattle.machine.specs.Machine.{event_outcome, outcome_in, outcome_of}
use Rattle.machine.specs.Runs.{RunsTo}
use Rattle.machine.specs.Runs as runs
use Rattle.machine.specs.Outcomes.{Moved, NoChoice, QueueBounds}
use Rattle.machine.specs.World.{Frame, World, stack_at}
use Rattle.machine.specs.declared.halts.Event.{Event}
use Rattle.lost.specs.Lost.{IsLost, IsReached}
use Rattle.lost.proofs.StayLemmas.{IsNext, IsOldOrNew}
use Rattle.lost.proofs.StayLemmas.{old_stack}
use Rattle.lost.proofs.EventLemmas.{instruction_still}
use Rattle.lost.proofs.TestLemmas.{IsAfter}

module _ (p : ProgramModel) (bound : QueueBounds) (w : World) (e : Event) where
  in_still : (frames : List Frame) → ((f : Frame) → Contains frames f → (a : ℕ) → Contains f.variables (Some a) → IsReached w a)
      → IsAfter (IsNext w) (outcome_in p bound w e frames)
  in_still [] all = tt
  in_still (f ∷ rest) all = at (instruction_at p f)
    where
      chosen : (i : Instruction) (b : Bool)
          → IsAfter (IsNext w) (if b then outcome_from p bound w e.process f rest i e.choice else NoChoice)
      chosen i true =
          instruction_still p bound w e.process f rest (all f (0, omega arith, refl))
          (λ g has a inside. inl (all g (Contains-append_right (f ∷ []) rest g has) a inside)) i e.choice
      chosen i false = tt

      at : (i : Option Instruction) → IsAfter (IsNext w) (outcome_of p bound w e f rest i)
      at None = tt
      at (Some i) = chosen i (nat_lt e.choice (choices i))

  pub next_of : (v : World) → event_outcome p bound w e ≡ Moved v → IsNext w v
  next_of v moved = subst (IsAfter (IsNext w)) moved (in_still (stack_at w.processes e.process) (old_stack w e.process))

-- a world after any number of events
pub record IsLater (w v : World) : Type 0 where
  pub reached : (a : ℕ) → IsReached v a → IsOldOrNew w a
  pub longer : length w.blocks ≤ length v.blocks

later_again : (w v u : World) → IsLater w v → IsNext v u → IsLater w u
later_again w v u one two =
    let first = one.longer in
    let second = two.lasting.longer in
    record {
      reached = λ a is. ⊎_elim (λ old. one.reached a old) (λ new. inr (omega (arith, first, new))) (two.reached a is);
      longer = omega (arith, first, second);
    }

later : (p : ProgramModel) (bound : QueueBounds) (w v : World) (events : List Event) → RunsTo p bound w events v → IsLater w v
later p bound w _ _ runs.stays = record { reached = λ a is. inl is; longer = omega arith }
later p bound w _ _ (runs.moves events v u e run moved) = later_again w v u (later p bound w v events run) (next_of p bound v e u moved)

-- an event leaves what is lost lost
pub step_lost : (p : ProgramModel) (bound : QueueBounds) (w v : World) (e : Event) → FieldsHold w.blocks
    → event_outcome p bound w e ≡ Moved v → (a : ℕ) → IsLost w a → IsLost v a
step_lost p bound w v e fields moved a lost =
    let next = next_of p bound w e v moved in
    let there = lost.there in
    let longer = next.lasting.longer in
    record {
      there = omega (arith, there, longer);
      alive = next.lasting.alive fields a lost;
      unreached = λ is. ⊎_elim (λ old. lost.unreached old) (λ new. absurd (omega (arith, there, new))) (next.reached a is);
    }

-- what is lost stays out of reach
pub run_lost : (p : ProgramModel) (bound : QueueBounds) (w v : World) (events : List Event) → RunsTo p bound w events v → (a : ℕ)
    → IsLost w a → IsReached v a → ⊥
run_lost p bound w v events run a lost is =
    let within = lost.there in
    ⊎_elim (λ old. lost.unreached old) (λ new. absurd (omega (arith, within, new))) ((later p bound w v events run).reached a is)
