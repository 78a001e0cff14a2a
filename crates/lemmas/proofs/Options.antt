-- Facts on options that two crates need.
use Rattle.std.proofs.Common.{◌≡◌, ℕ, Option, Some, None, false, refl}
use Rattle.std.specs.Prelude.{is_some}

pub none_is : (o : Option ℕ) → is_some o ≡ false → o ≡ None
none_is None h = refl
none_is (Some n) h = cc
