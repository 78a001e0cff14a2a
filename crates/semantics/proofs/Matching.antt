-- The cases of a switch, and what they bind.
use Rattle.std.proofs.Common.{◌≡◌, ℕ, Bool, true, false, List, [], ◌∷◌, refl, sym, ap, ◌∙◌, subst, Some, None}
use Rattle.std.specs.Prelude.{Option, if◌then◌else◌, ◌==◌, ◌&&◌}
use Rattle.program.specs.Lists.{is_among}
use Rattle.program.specs.declared.statement.Awaited.{Awaited}
use Rattle.program.specs.declared.statement.Mention.{Mention}
use Rattle.flow.specs.Cases as graph
use Rattle.flow.specs.Cases.{EntranceModel, awaits, case_for}
use Rattle.flow.specs.Graphs.{Instruction}
use Rattle.semantics.specs.Laid.{AreAt, IsAt}
use Rattle.semantics.specs.Rests.{Arms, NoArm, MoreArms}
use Rattle.semantics.specs.Worlds.{Arm, arm_for, first_mentions}

module _ (at : ℕ → Option Instruction) where
  pub mentions_same : (es : List EntranceModel) (arms : Arms) → AreAt at es arms → (seen : List ℕ)
      → graph.first_mentions seen es ≡ first_mentions seen arms
  mentions_same [] NoArm h seen = refl
  mentions_same [] (MoreArms m awaited targets body others) h seen = absurd h
  mentions_same (e ∷ es) NoArm h seen = absurd h
  mentions_same (e ∷ es) (MoreArms m awaited targets body others) h seen =
      ap (λ (x : Mention). if is_among seen x.variable.0 then graph.first_mentions seen es
      else (x ∷ graph.first_mentions (x.variable.0 ∷ seen) es)) h.0
      ∙ by (λ now. mentions_same es others h.1.1.1.1 now) (is_among seen m.variable.0)
    where
      by : ((now : List ℕ) → graph.first_mentions now es ≡ first_mentions now others) → (b : Bool)
          → (if b then graph.first_mentions seen es else (m ∷ graph.first_mentions (m.variable.0 ∷ seen) es))
          ≡ (if b then first_mentions seen others else (m ∷ first_mentions (m.variable.0 ∷ seen) others))
      by more true = more seen
      by more false = ap (λ (ms : List Mention). m ∷ ms) (more (m.variable.0 ∷ seen))

  abbrev pub IsCase : Option EntranceModel → Option Arm → Type 0
  IsCase None None = Unit {0}
  IsCase (Some c) (Some a) = (c.targets ≡ a.targets) × IsAt at c.next a.body
  IsCase _ _ = ⊥

  pub case_same : (es : List EntranceModel) (arms : Arms) → AreAt at es arms → (v : ℕ) (message : Option ℕ)
      → IsCase (case_for es v message) (arm_for arms v message)
  case_same [] NoArm h v message = tt
  case_same [] (MoreArms m awaited targets body others) h v message = absurd h
  case_same (e ∷ es) NoArm h v message = absurd h
  case_same (e ∷ es) (MoreArms m awaited targets body others) h v message =
      subst (λ (x : Mention). IsCase (if (x.variable.0 == v) && awaits e.awaited message then Some e else case_for es v message)
      (arm_for (MoreArms m awaited targets body others) v message)) (sym h.0)
      (subst (λ (x : Awaited). IsCase (if (m.variable.0 == v) && awaits x message then Some e else case_for es v message)
      (arm_for (MoreArms m awaited targets body others) v message)) (sym h.1.0)
      (by (case_same es others h.1.1.1.1 v message) ((m.variable.0 == v) && awaits awaited message)))
    where
      by : IsCase (case_for es v message) (arm_for others v message) → (b : Bool) → IsCase (if b then Some e else case_for es v message)
          (if b then Some record { targets = targets; body = body } else arm_for others v message)
      by more true = (h.1.1.0, h.1.1.1.0)
      by more false = more
