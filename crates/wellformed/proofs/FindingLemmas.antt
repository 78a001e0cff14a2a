-- If nothing is found, all is well.
use Rattle.std.proofs.Common.{◌≡◌, ◌==◌, Bool, true, false, List, [], ◌∷◌, length, if◌then◌else◌, refl}
use Rattle.std.proofs.lemmas.Bool.{eqb-true}
use Rattle.source.specs.declared.place.Place.{Place}
use Rattle.declarations.specs.declared.mistake.Mismatch.{Mismatch}
use Rattle.declarations.specs.declared.mistake.Mistake.{Mistake}
use Rattle.declarations.specs.declared.mistake.Mistake.TheVariants.{WrongNumber}
use Rattle.declarations.specs.Types.{unless}
use Rattle.names.specs.Values.{number_of_arguments}

pub unless_none : (mismatch : Mismatch) (well : Bool) (place : Place) → unless well place mismatch ≡ [] → well ≡ true
unless_none mismatch true place none = refl
unless_none mismatch false place none = cc

-- the same for any mistake
pub none_said : (well : Bool) (x : Mistake) → (if well then [] else x ∷ []) ≡ [] → well ≡ true
none_said true x none = refl
none_said false x none = cc

-- there are as many arguments as parameters
pub as_many : {X Y : Type 0} → (asked : List X) (given : List Y) (place : Place) → number_of_arguments asked given place ≡ [] → length asked ≡ length given
as_many asked given place none = eqb-true (length asked) (length given) (none_said (length asked == length given) (WrongNumber place (length asked) (length given)) none)
