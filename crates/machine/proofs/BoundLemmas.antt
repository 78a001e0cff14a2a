-- The bounds of a program's contracts.
use Rattle.std.proofs.Common.{◌≡◌, ℕ, ◌≤◌, List, length, Option, None, Some, slice_get, ⊎_elim, refl, sym, subst, arith}
use Rattle.std.proofs.Math.Logic.{∥∥₁_elim}
use Rattle.std.proofs.Math.Nat.{ℕ_set}
use Rattle.std.proofs.lemmas.Option.{slice_get_cases}
use Rattle.std.specs.Option.{option_map}
use Rattle.program.specs.Parts.{ContractModel, Parts}
use Rattle.program.specs.Programs.{ProgramModel}
use Rattle.program.specs.declared.contract.Edge.{Edge}
use Rattle.program.specs.declared.contract.Sign.{Sign}
use Rattle.program.specs.declared.types.Side.{Side}
use Rattle.program.specs.declared.number.StateId.{StateId}
use Rattle.contracts.specs.Bounds.{IsBound, sign_to}
use Rattle.machine.specs.Outcomes.{QueueBounds}
use Rattle.machine.specs.Runs.{AreBounds}

-- a contract has one bound for each sign
pub least : (edges : List Edge) (first : StateId) (sign : Sign) (m n : ℕ) → IsBound edges first sign m → IsBound edges first sign n → m ≤ n
least edges first sign m n one other =
    let long = one.long in
    let most = other.most one.from one.to one.way one.walk one.reached one.leads one.one_sign in
    omega (arith, long, most)

one_bound : (edges : List Edge) (first : StateId) (sign : Sign) (m n : ℕ) → ∥ IsBound edges first sign m ∥₁ → IsBound edges first sign n → m ≡ n
one_bound edges first sign m n one y = ∥∥₁_elim one (ℕ_set m n) (λ x.
    let up = least edges first sign m n x y in
    let down = least edges first sign n m y x in
    omega (arith, up, down))

-- that bound is the program's
pub bound_is : (p : ProgramModel) (bound : QueueBounds) (n : ℕ) (side : Side) (parts : Parts) (k : ℕ) → AreBounds p bound
    → option_map (λ (c : ContractModel). c.parts) (slice_get p.contracts n) ≡ Some parts → ∥ IsBound parts.edges parts.first (sign_to side) k ∥₁ → k ≡ bound n side
bound_is p bound n side parts k are there is = at (slice_get p.contracts n) refl there
  where
    at : (o : Option ContractModel) → slice_get p.contracts n ≡ o → option_map (λ (c : ContractModel). c.parts) o ≡ Some parts → k ≡ bound n side
    at None here none = absurd (cc)
    at (Some c) here some =
        let same : parts ≡ c.parts = cc in
        one_bound c.parts.edges c.parts.first (sign_to side) k (bound n side) (subst (λ (x : Parts). ∥ IsBound x.edges x.first (sign_to side) k ∥₁) same is) (are.are n c side here)

outside : (contracts : List ContractModel) (n : ℕ) → slice_get contracts n ≡ None → length contracts ≤ n
outside contracts n none = ⊎_elim (λ h. absurd (let there = h.2 in cc)) (λ h. h.0) (slice_get_cases contracts n).1

-- a contract that does not exist has bound 0
pub bound_past : (p : ProgramModel) (bound : QueueBounds) (n : ℕ) (side : Side) → AreBounds p bound → slice_get p.contracts n ≡ None → 0 ≡ bound n side
bound_past p bound n side are none = sym (are.past n side (outside p.contracts n none))
