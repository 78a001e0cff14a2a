-- Breaches that compare as equal are the same.
use Rattle.std.proofs.Common.{◌≡◌, ◌↔◌, ℕ, List, [], ◌∷◌, get_or, refl, sym, ap, subst, ◌∙◌}
use Rattle.std.specs.Ordering.{nat_cmp, ordering_then}
use Rattle.std.specs.declared.cmp.Ordering.{Ordering}
use Rattle.std.specs.declared.cmp.Ordering.TheVariants.{Equal}
use Rattle.std.proofs.lemmas.Cmp.{nat_cmp_total, nat_list_cmp_total, tied_itself}
use Rattle.program.specs.declared.number.MessageId.{MessageId}
use Rattle.program.specs.declared.number.VarId.{VarId}
use Rattle.rules.specs.Reasons.{numbers, reason_cmp}
use Rattle.rules.specs.declared.breach.Breach.{Breach}
use Rattle.rules.specs.declared.breach.Reason.{Reason}
use Rattle.rules.specs.declared.breach.Reason.TheVariants.{NotOwned, NotSent, WrongFor, WrongForCall, NotCovered, NothingToReceive}
use Rattle.rules.specs.declared.breach.Reason.TheVariants.{Overwritten, StillOwned, NotBack, Lent, Twice, WrongForResult, NoResult, WrongForField}
use Rattle.lemmas.proofs.Orders.{same_bytes, same_number, then_equal}

-- the reasons with these numbers, by the number of the check
abbrev reasons : ℕ → ℕ → ℕ → List Reason
reasons v e m =
    let variable : VarId = record { 0 = v } in
    let endpoint : VarId = record { 0 = e } in
    let message : MessageId = record { 0 = m } in
    NoResult ∷ NotOwned variable ∷ NotSent endpoint message ∷ WrongFor variable endpoint message ∷ WrongForCall variable
    ∷ NotCovered endpoint message ∷ NothingToReceive ∷ Overwritten variable ∷ StillOwned variable ∷ NotBack variable ∷ Lent variable
    ∷ Twice variable ∷ WrongForResult variable ∷ NoResult ∷ WrongForField variable ∷ []

-- the reason with these numbers
abbrev reason_of : List ℕ → Reason
reason_of (check ∷ v ∷ e ∷ m ∷ []) = get_or (reasons v e m) check NoResult
reason_of _ = NoResult

read_back : (r : Reason) → reason_of (numbers r) ≡ r
read_back (NotOwned variable) = refl
read_back (NotSent endpoint message) = refl
read_back (WrongFor variable endpoint message) = refl
read_back (WrongForCall variable) = refl
read_back (NotCovered endpoint message) = refl
read_back NothingToReceive = refl
read_back (Overwritten variable) = refl
read_back (StillOwned variable) = refl
read_back (NotBack variable) = refl
read_back (Lent variable) = refl
read_back (Twice variable) = refl
read_back (WrongForResult variable) = refl
read_back NoResult = refl
read_back (WrongForField variable) = refl

one_reason : (a b : Reason) → reason_cmp a b ≡ Equal → a ≡ b
one_reason a b e = sym (read_back a) ∙ ap reason_of (same_bytes (numbers a) (numbers b) e) ∙ read_back b

-- how the order of breaches computes
abbrev order : Breach → Breach → Ordering
order a b = ordering_then (ordering_then (nat_cmp a.place.line b.place.line) (nat_cmp a.place.col b.place.col)) (reason_cmp a.reason b.reason)

one_breach : (a b : Breach) → order a b ≡ Equal → a ≡ b
one_breach a b e =
    let both = then_equal (ordering_then (nat_cmp a.place.line b.place.line) (nat_cmp a.place.col b.place.col)) (reason_cmp a.reason b.reason) e in
    let place = then_equal (nat_cmp a.place.line b.place.line) (nat_cmp a.place.col b.place.col) both.0 in
    let line = same_number a.place.line b.place.line place.0 in
    let col = same_number a.place.col b.place.col place.1 in
    let reason = one_reason a.reason b.reason both.1 in
    λ i. record { place = record { line = line i; col = col i }; reason = reason i }

itself : (a : Breach) → order a a ≡ Equal
itself a =
    let reasons_are = reason_cmp a.reason a.reason in
    ap (λ o. ordering_then (ordering_then o (nat_cmp a.place.col a.place.col)) reasons_are) (tied_itself nat_cmp_total a.place.line)
    ∙ ap (λ o. ordering_then o reasons_are) (tied_itself nat_cmp_total a.place.col)
    ∙ tied_itself nat_list_cmp_total (numbers a.reason)

pub equal_is_one : (a b : Breach) → (order a b ≡ Equal) ↔ (a ≡ b)
equal_is_one a b = (one_breach a b, λ e. subst (λ x. order a x ≡ Equal) e (itself a))
