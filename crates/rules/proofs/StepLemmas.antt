-- A step whose breach is read as a finding.
use Rattle.std.proofs.Common.{◌≡◌, List, refl}
use Rattle.rules.specs.Outcomes.{Step, Goes, Fails, said_by}

module _ {X F G : Type 0} (says : F → G) where
  -- it leads to the same pairs
  pub said_goes : (s : Step X F) (to : List X) → said_by says s ≡ Goes to → s ≡ Goes to
  said_goes (Goes all) to e = cc
  said_goes (Fails breach) to e = cc

  -- it fails exactly with the finding of its breach
  pub said_fails : (s : Step X F) (g : G) → said_by says s ≡ Fails g → (b : F) × (s ≡ Fails b) × (says b ≡ g)
  said_fails (Goes all) g e = absurd (no_step e)
    where
      no_step : Path (Step X G) (Goes all) (Fails g) → ⊥
      no_step k = cc
  said_fails (Fails b) g e = (b, refl, same e)
    where
      same : Path (Step X G) (Fails (says b)) (Fails g) → says b ≡ g
      same k = cc
