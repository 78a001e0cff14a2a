-- The bytes read, with one more part.
use Rattle.std.proofs.Common.{◌≡◌, ℕ, ◌-◌, ◌<◌, ◌≤◌, List, ◌++◌, length, take, ap, arith, length-append, length-take}

-- one more part fits
pub longer : (old part new : List ℕ) (n room most : ℕ) → new ≡ old ++ take n part → length old < most → room ≤ most - length old → length part ≡ room → length new ≤ most
longer old part new n room most e low fits size = omega (arith, ap length e, length-append old (take n part), length-take n part)
