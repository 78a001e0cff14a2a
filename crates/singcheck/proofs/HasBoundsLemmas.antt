-- The contracts of a program have bounds.
use Rattle.std.proofs.Common.{◌≡◌, ℕ, zero, suc, ◌≤◌, List, [], ◌∷◌, length, Some, refl, sym, subst, arith}
use Rattle.std.specs.Prelude.{All, slice_get}
use Rattle.std.proofs.lemmas.List.Elements.{All-head, All-tail}
use Rattle.tree.specs.Trees.{contracts_of}
use Rattle.program.specs.Parts.{ContractModel, IsWhole, Parts}
use Rattle.program.specs.Programs.{ProgramModel}
use Rattle.program.specs.declared.types.Side.{Side}
use Rattle.program.specs.declared.types.Side.TheVariants.{Exp, Imp}
use Rattle.names.specs.Findings.{program_mistakes}
use Rattle.declarations.specs.Program.{ProgramText}
use Rattle.declarations.specs.Resolution.{resolved_contracts}
use Rattle.contracts.specs.Bounds.{IsBound, sign_to}
use Rattle.contracts.specs.Conditions.{IsSound}
use Rattle.machine.specs.Outcomes.{QueueBounds}
use Rattle.machine.specs.Runs.{AreBounds}
use Rattle.singcheck.specs.Checks.{HasProgram}

-- laws of the crates below about contracts
pub record Bounded : Type 0 where
  pub whole : (p : ProgramText) → program_mistakes p ≡ [] → All (λ (c : ContractModel). IsWhole c.parts) (resolved_contracts p.text (contracts_of p.items))
  pub bounded : (parts : Parts) → IsWhole parts → IsSound parts → (side : Side) → ((n : ℕ) → IsBound parts.edges parts.first (sign_to side) n → ⊥) → ⊥

-- these are the bounds of the contracts, and 0 past their end
record BoundsOf (contracts : List ContractModel) (bound : QueueBounds) : Type 0 where
  pub are : (n : ℕ) (c : ContractModel) (side : Side) → slice_get contracts n ≡ Some c → IsBound c.parts.edges c.parts.first (sign_to side) (bound n side)
  pub past : (n : ℕ) (side : Side) → length contracts ≤ n → bound n side ≡ 0

abbrev none_bounds : QueueBounds
none_bounds n side = 0

-- the bounds of one more contract, before those of the others
abbrev front : ℕ → ℕ → QueueBounds → QueueBounds
front to_imp to_exp bound zero Imp = to_imp
front to_imp to_exp bound zero Exp = to_exp
front to_imp to_exp bound (suc n) side = bound n side

in_front : (c : ContractModel) (cs : List ContractModel) (to_imp to_exp : ℕ) (bound : QueueBounds) → IsBound c.parts.edges c.parts.first (sign_to Imp) to_imp → IsBound c.parts.edges c.parts.first (sign_to Exp) to_exp → BoundsOf cs bound → BoundsOf (c ∷ cs) (front to_imp to_exp bound)
in_front c cs to_imp to_exp bound imp exp of = record { are = are; past = past }
  where
    are : (n : ℕ) (x : ContractModel) (side : Side) → slice_get (c ∷ cs) n ≡ Some x → IsBound x.parts.edges x.parts.first (sign_to side) (front to_imp to_exp bound n side)
    are zero x Imp there = let same : c ≡ x = cc in subst (λ y. IsBound y.parts.edges y.parts.first (sign_to Imp) to_imp) same imp
    are zero x Exp there = let same : c ≡ x = cc in subst (λ y. IsBound y.parts.edges y.parts.first (sign_to Exp) to_exp) same exp
    are (suc n) x side there = of.are n x side there

    past : (n : ℕ) (side : Side) → length (c ∷ cs) ≤ n → front to_imp to_exp bound n side ≡ 0
    past zero side le = absurd (omega (arith, le))
    past (suc n) side le = of.past n side (omega (arith, le))

bounds_of : Bounded → (contracts : List ContractModel) → All (λ c. IsWhole c.parts) contracts → All (λ c. IsSound c.parts) contracts → ((bound : QueueBounds) → BoundsOf contracts bound → ⊥) → ⊥
bounds_of laws [] whole sound none = none none_bounds (record { are = λ n c side there. absurd (cc); past = λ n side le. refl })
bounds_of laws (c ∷ cs) whole sound none =
    let are_whole = λ (x : ContractModel). IsWhole x.parts in
    let are_sound = λ (x : ContractModel). IsSound x.parts in
    let one = laws.bounded c.parts (All-head are_whole c cs whole) (All-head are_sound c cs sound) in
    one Imp (λ to_imp imp. one Exp (λ to_exp exp.
    bounds_of laws cs (All-tail are_whole c cs whole) (All-tail are_sound c cs sound) (λ bound of. none (front to_imp to_exp bound) (in_front c cs to_imp to_exp bound imp exp of))))

pub has_bounds : Bounded → (text : List ℕ) (p : ProgramModel) → HasProgram text p → ((bound : QueueBounds) → AreBounds p bound → ⊥) → ⊥
has_bounds laws text p has none =
    let whole = subst (All (λ c. IsWhole c.parts)) (sym has.resolved.are) (laws.whole (record { text = text; items = has.resolved.items }) has.resolved.clean) in
    bounds_of laws p.contracts whole has.sound (λ bound of. none bound (record { are = of.are; past = of.past }))
