use Rattle.std.proofs.Common.{◌≡◌, ◌∙◌, List, [], ◌∷◌, length, map, sym, refl, arith}
use Rattle.std.specs.Prelude.{Contains}
use Rattle.std.proofs.lemmas.Bool.{eqb-true, eqb-false}
use Rattle.std.proofs.lemmas.List.{length-map}
use Rattle.contracts.specs.Conditions.{FindingModel, finding_model, AreExactly, IsFlaw, IsSound}
use Rattle.source.specs.declared.finding.Finding.{Finding}
use Rattle.contracts.specs.Parts.{Parts, contract_parts}
use Rattle.contracts.proofs.sound.Sound.judge.Goals as goal

-- a list that is not empty has an element
some_in : (xs : List FindingModel) → (length xs ≡ 0 → ⊥) → (f : FindingModel) × Contains xs f
some_in [] some = absurd (some refl)
some_in (x ∷ xs) some = (x, (0, omega arith, refl))

pub returns-then-not-is_empty : goal.returns-then-not-is_empty
returns-then-not-is_empty c =
    let size = length-map c.in_ok-found.found.items finding_model in
    let long = c.in_ok-found.found.ok in
    let differ = eqb-false _ _ (sym c.is_empty.ensures ∙ c.if-not-is_empty.true) in
    let some = some_in (map finding_model c.in_ok-found.found.items) (λ none. differ (omega (arith, size, long.0, none))) in
    ((some.0, c.in_ok-found.ensures.exactly.right some.0 some.1), c.in_ok-found.ensures.exactly)

-- if nothing is found, the contract is sound
none_found : (parts : Parts) (found : List Finding) → AreExactly (IsFlaw parts) (map finding_model found) → length found ≡ 0 → IsSound parts
none_found parts found exactly none = λ f fault.
    let there = exactly.all f fault in
    let lt = there.1 in
    let size = length-map found finding_model in
    absurd (omega (arith, size, none, lt))

pub sound_of-requires-clause-sound : goal.sound_of-requires-clause-sound
sound_of-requires-clause-sound c =
    let long = c.in_ok-found.found.ok in
    none_found (contract_parts c.args.contract.now) c.in_ok-found.found.items c.in_ok-found.ensures.exactly (sym long.0 ∙ eqb-true _ _ (sym c.is_empty.ensures ∙ c.if-not-is_empty.false))

pub returns : goal.returns
returns c =
    let long = c.in_ok-found.found.ok in
    (c.in_ok-sound.ensures, none_found (contract_parts c.args.contract.now) c.in_ok-found.found.items c.in_ok-found.ensures.exactly (sym long.0 ∙ eqb-true _ _ (sym c.is_empty.ensures ∙ c.if-not-is_empty.false)))
