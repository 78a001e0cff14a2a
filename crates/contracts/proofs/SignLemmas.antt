-- Equal signs.
use Rattle.std.proofs.Common.{◌≡◌, true, false, not, refl}
use denote.Enum.Bare.{sameb}
use Rattle.program.specs.declared.contract.Sign.{Sign}
use Rattle.program.specs.declared.contract.Sign.TheVariants.{Send, Receive}
use Rattle.program.specs.contracts.contract.Sign.{the_type}

pub sign_same : (a b : Sign) → sameb the_type a b ≡ true → a ≡ b
sign_same Send Send h = refl
sign_same Receive Receive h = refl
sign_same Send Receive h = cc
sign_same Receive Send h = cc

pub sign_other : (a b : Sign) → sameb the_type a b ≡ false → a ≡ b → ⊥
sign_other Send Send h = λ _. cc
sign_other Receive Receive h = λ _. cc
sign_other Send Receive h = λ e. cc
sign_other Receive Send h = λ e. cc

pub differ : (a b : Sign) → not (sameb the_type a b) ≡ true → a ≡ b → ⊥
differ Send Send h = λ _. cc
differ Receive Receive h = λ _. cc
differ Send Receive h = λ e. cc
differ Receive Send h = λ e. cc

pub agree : (a b : Sign) → not (sameb the_type a b) ≡ false → a ≡ b
agree Send Send h = refl
agree Receive Receive h = refl
agree Send Receive h = cc
agree Receive Send h = cc

-- what holds for both signs
pub each_sign : (P : Sign → Type 0) → P Send → P Receive → (sign : Sign) → P sign
each_sign P a b Send = a
each_sign P a b Receive = b
