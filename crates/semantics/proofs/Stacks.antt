-- Stacks of frames that are the same but for points, and what is made of them.
use Rattle.std.proofs.Common.{◌≡◌, ℕ, zero, suc, Bool, true, false, List, [], ◌∷◌, ◌++◌, length, refl, sym, ap, subst, Some, None, set}
use Rattle.std.specs.Prelude.{Option, if◌then◌else◌}
use Rattle.program.specs.Methods.{MethodModel}
use Rattle.program.specs.Programs.{ProgramModel}
use Rattle.semantics.specs.Laid.{IsAt}
use Rattle.semantics.specs.Rests.{Rest, Call}
use Rattle.semantics.proofs.Standing.{method_is_at}
use Rattle.machine.specs.Frames as graph_frames
use Rattle.machine.specs.Frames.{method_at, point_instruction}
use Rattle.machine.specs.Outcomes.{FaultTest}
use Rattle.machine.specs.Outcomes as graph
use Rattle.machine.specs.World as graph_world
use Rattle.semantics.specs.Same.{AreStacks, IsCall, IsFrame, IsOutcome, IsStack, Stands}
use Rattle.semantics.specs.Worlds.{Frame, Outcome, NoChoice, after_tests, call_next, call_target, entered_at, frame_at_entry, stack_at}

module _ (p : ProgramModel) where
  pub stack_same : (fs : List (List graph_world.Frame)) (ss : List (List Frame)) → AreStacks p fs ss → (q : ℕ)
      → IsStack p (graph_world.stack_at fs q) (stack_at ss q)
  stack_same [] [] h q = tt
  stack_same [] (s ∷ ss) h q = absurd h
  stack_same (f ∷ fs) [] h q = absurd h
  stack_same (f ∷ fs) (s ∷ ss) h zero = h.0
  stack_same (f ∷ fs) (s ∷ ss) h (suc q) = stack_same fs ss h.1 q

  pub set_same : (fs : List (List graph_world.Frame)) (ss : List (List Frame)) (q : ℕ) (f : List graph_world.Frame) (s : List Frame)
      → AreStacks p fs ss → IsStack p f s → AreStacks p (set fs q f) (set ss q s)
  set_same [] [] q f s h k = tt
  set_same [] (t ∷ ss) q f s h k = absurd h
  set_same (g ∷ fs) [] q f s h k = absurd h
  set_same (g ∷ fs) (t ∷ ss) zero f s h k = (k, h.1)
  set_same (g ∷ fs) (t ∷ ss) (suc q) f s h k = (h.0, set_same fs ss q f s h.1 k)

  pub append_same : (fs : List (List graph_world.Frame)) (ss : List (List Frame)) (f : List graph_world.Frame) (s : List Frame)
      → AreStacks p fs ss → IsStack p f s → AreStacks p (fs ++ f ∷ []) (ss ++ s ∷ [])
  append_same [] [] f s h k = (k, tt)
  append_same [] (t ∷ ss) f s h k = absurd h
  append_same (g ∷ fs) [] f s h k = absurd h
  append_same (g ∷ fs) (t ∷ ss) f s h k = (h.0, append_same fs ss f s h.1 k)

  pub same_count : (fs : List (List graph_world.Frame)) (ss : List (List Frame)) → AreStacks p fs ss → length fs ≡ length ss
  same_count [] [] h = refl
  same_count [] (t ∷ ss) h = absurd h
  same_count (g ∷ fs) [] h = absurd h
  same_count (g ∷ fs) (t ∷ ss) h = ap suc (same_count fs ss h.1)

  -- ---- outcomes
  pub record Alike (o : graph.Outcome) (s : Outcome) : Type 0 where
    pub is : IsOutcome p o s

  pub after_alike : (tests : List FaultTest) {o : graph.Outcome} {s : Outcome} → Alike o s
      → Alike (graph.after_tests tests o) (after_tests tests s)
  after_alike [] h = h
  after_alike (Some fault ∷ tests) h = record { is = refl }
  after_alike (None ∷ tests) h = after_alike tests h

  pub if_alike : (b : Bool) {o : graph.Outcome} {s : Outcome} → Alike o s
      → Alike (if b then o else graph.NoChoice) (if b then s else NoChoice)
  if_alike true h = h
  if_alike false h = record { is = tt }

  -- ---- a frame that begins
  pub entry_same : (n : ℕ) (given : List (Option ℕ)) → IsFrame p (graph_frames.frame_at_entry p n given) (frame_at_entry p n given)
  entry_same n given = by (method_at p n) refl
    where
      by : (o : Option MethodModel) → method_at p n ≡ o → IsFrame p (graph_frames.entered_at o n given) (entered_at o n given)
      by None e = record {
        is = refl;
        stands = subst (λ (o : Option MethodModel). IsAt (point_instruction o) 0 (entered_at None n given).rest) (sym e) refl;
      }
      by (Some m) e = record {
        is = refl;
        stands = subst (λ (o : Option MethodModel). IsAt (point_instruction o) (graph_frames.entered_at (Some m) n given).point
            (entered_at (Some m) n given).rest) (sym e) (method_is_at m);
      }

  -- ---- a frame that waits
  pub target_same : (n point : ℕ) (r : Rest) → IsCall r → Stands p n point r
      → graph_frames.call_target (point_instruction (method_at p n) point) ≡ call_target r
  target_same n point (Call place method arguments target next) c (k, (is, there)) = ap graph_frames.call_target is
  target_same n point _ c h = absurd c

  pub next_same : (n point : ℕ) (r : Rest) → IsCall r → Stands p n point r
      → Stands p n (graph_frames.call_next (point_instruction (method_at p n) point)) (call_next r)
  next_same n point (Call place method arguments target next) c (k, (is, there)) =
      subst (λ (at : ℕ). Stands p n at next) (sym (ap graph_frames.call_next is)) there
  next_same n point _ c h = absurd c
