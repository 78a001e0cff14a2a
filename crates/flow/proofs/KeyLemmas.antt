-- The case for what arrives at an endpoint, by the position of its key.
use Rattle.std.proofs.Common.{◌≡◌, ℕ, suc, ◌+◌, Bool, true, false, not, cond, ◌&&◌, ◌==◌, List, [], ◌∷◌, length, map, Option, Some, None, if◌then◌else◌, ltb, sym, refl, ap, ◌∙◌, arith, ⊎_elim}
use Rattle.std.specs.Prelude.{position, slice_get}
use Rattle.std.specs.List.{position_or_len}
use Rattle.std.specs.Option.{option_and_then, option_cmp}
use Rattle.std.specs.Ordering.{is_eq, nat_cmp, ordering_then}
use Rattle.std.specs.declared.cmp.Ordering.{Ordering}
use Rattle.std.specs.declared.cmp.Ordering.TheVariants.{Less, Equal, Greater}
use Rattle.std.proofs.lemmas.Bool.{cases_Bool, cond-false, cond-true, ltb-false}
use Rattle.std.proofs.lemmas.Bool.Decides.{nat_tests}
use Rattle.std.proofs.lemmas.List.{length-map}
use Rattle.std.proofs.lemmas.Option.{slice_get_past}
use Rattle.program.specs.declared.statement.Awaited.{Awaited}
use Rattle.program.specs.declared.statement.Awaited.TheVariants.{Message, Closed}
use Rattle.flow.specs.Cases.{CaseKey, EntranceModel, awaited_number, awaits, case_for, key_cmp, key_of}

pub both_equal : (a b : Ordering) → is_eq (ordering_then a b) ≡ is_eq a && is_eq b
both_equal Less b = refl
both_equal Equal b = refl
both_equal Greater b = refl

pub number_same : (x y : ℕ) → is_eq (nat_cmp x y) ≡ (y == x)
number_same x y = grind (arith, nat_tests)

awaited_same : (message : Option ℕ) (awaited : Awaited) → is_eq (option_cmp nat_cmp message (awaited_number awaited)) ≡ awaits awaited message
awaited_same None (Message id) = refl
awaited_same None Closed = refl
awaited_same (Some m) (Message id) = number_same m id.0
awaited_same (Some m) Closed = refl

abbrev pub is_key : ℕ → Option ℕ → CaseKey → Bool
is_key endpoint message x = is_eq (key_cmp (endpoint, message) x)

key_same : (endpoint : ℕ) (message : Option ℕ) (c : EntranceModel) → is_key endpoint message (key_of c) ≡ (c.endpoint.variable.0 == endpoint) && awaits c.awaited message
key_same endpoint message c =
    both_equal (nat_cmp endpoint c.endpoint.variable.0) (option_cmp nat_cmp message (awaited_number c.awaited))
    ∙ ap (λ b. b && is_eq (option_cmp nat_cmp message (awaited_number c.awaited))) (number_same endpoint c.endpoint.variable.0)
    ∙ ap (λ b. (c.endpoint.variable.0 == endpoint) && b) (awaited_same message c.awaited)

one_more : (n : ℕ) → 1 + n ≡ suc n
one_more n = omega arith

case_step : (b : Bool) (c : EntranceModel) (cases : List EntranceModel) (other : Option EntranceModel) (at : ℕ) → other ≡ slice_get cases at → (if b then Some c else other) ≡ slice_get (c ∷ cases) (cond (not b) (1 + at) 0)
case_step true c cases other at is = refl
case_step false c cases other at is = is ∙ sym (ap (slice_get (c ∷ cases)) (one_more at))

-- the case is the first one with its key
case_there : (cases : List EntranceModel) (endpoint : ℕ) (message : Option ℕ) → case_for cases endpoint message ≡ slice_get cases (position_or_len (is_key endpoint message) (map key_of cases))
case_there [] endpoint message = refl
case_there (c ∷ cases) endpoint message =
    let at = position_or_len (is_key endpoint message) (map key_of cases) in
    let here = (c.endpoint.variable.0 == endpoint) && awaits c.awaited message in
    case_step here c cases (case_for cases endpoint message) at (case_there cases endpoint message)
    ∙ ap (λ b. slice_get (c ∷ cases) (cond (not b) (1 + at) 0)) (sym (key_same endpoint message c))

-- there is none if no case has the key
pub case_at : (cases : List EntranceModel) (endpoint : ℕ) (message : Option ℕ) → case_for cases endpoint message ≡ option_and_then (slice_get cases) (position (is_key endpoint message) (map key_of cases))
case_at cases endpoint message =
    let keys = map key_of cases in
    let at = position_or_len (is_key endpoint message) keys in
    let size = length-map cases key_of in
    let find = option_and_then (slice_get cases) in
    case_there cases endpoint message
    ∙ ⊎_elim
    (λ yes. sym (ap find (cond-true (ltb at (length keys)) (Some at) None yes)))
    (λ no.
    let le = ltb-false at (length keys) no in
    slice_get_past cases at (omega (arith, le, size)) ∙ sym (ap find (cond-false (ltb at (length keys)) (Some at) None no)))
    (cases_Bool (ltb at (length keys)))
