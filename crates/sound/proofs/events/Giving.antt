-- Addresses that go to another owner.
use Rattle.std.proofs.Common.{◌≡◌, ◌≢◌, ◌==◌, ℕ, ◌+◌, ◌<◌, ◌≤◌, Bool, true, false, not, List, [], ◌∷◌, Some, length, map, refl, sym, ap}
use Rattle.std.proofs.Common.{◌∙◌, subst, arith, ⊎_elim}
use Rattle.std.proofs.lemmas.Bool.{cases_Bool, eqb-true}
use Rattle.std.specs.Prelude.{Option, ◌||◌, if◌then◌else◌}
use Rattle.program.specs.declared.number.VarId.{VarId}
use Rattle.rules.specs.declared.breach.Reason.{Reason}
use Rattle.source.specs.declared.place.Place.{Place}
use Rattle.program.specs.Lists.{Each, is_among}
use Rattle.program.specs.Methods.{MethodModel, VariableModel}
use Rattle.program.specs.declared.call.Argument.{Argument}
use Rattle.program.specs.declared.types.HeapType.{HeapType}
use Rattle.program.specs.declared.statement.Mention.{Mention}
use Rattle.rules.specs.Arguments.{payload}
use Rattle.rules.specs.Endpoints.{declared_leaf, is_wrong}
use Rattle.rules.specs.Mentions.{is_lent}
use Rattle.rows.specs.Rows.{leaf_at, is_owned}
use Rattle.sound.proofs.Parameters.{each_taken}
use Rattle.rows.specs.declared.row.Leaf.{Leaf}
use Rattle.machine.specs.Frames.{address, payloads_claimed, addresses}
use Rattle.machine.specs.World.{Block, read, owns, let_go}
use Rattle.sound.specs.Operands.{AreOfTypes}
use Rattle.sound.proofs.Arguments.{PairApart, standing_of, go_counts, claimed_of, or_right, or_false}
use Rattle.sound.proofs.events.Calling.{no_copies}
use Rattle.sound.proofs.Checks.{Passed, not_refused, number}
use Rattle.sound.proofs.events.Entering.{ArgsFit, arg_fits}
use Rattle.sound.proofs.Invariant.{HasLeaf, RowFits, one_if, one_at, standing, StaysCutOff, standing_in, AreDeclared}
use Rattle.sound.proofs.Kept.{IsKept, leaf_kept}
use Rattle.sound.proofs.Lists.{not_false}
use Rattle.machine.proofs.ChangeLemmas.{eqb_same, eqb_apart}

-- ---- what is given
abbrev pub given : List (Option ℕ) → List Argument → List ℕ
given vs arguments = addresses vs arguments

-- an address is given as often as variables of arguments hold it
pub given_some : (bs : List Block) (vs : List (Option ℕ)) (row : List Leaf) (types : List HeapType) (arguments : List Argument) (a : ℕ)
    → ArgsFit bs vs row types arguments → standing_in a (given vs arguments) ≡ standing_of a vs arguments
given_some bs vs row [] [] a fit = refl
given_some bs vs row [] (b ∷ arguments) a fit = absurd fit
given_some bs vs row (k ∷ types) [] a fit = absurd fit
given_some bs vs row (k ∷ types) (b ∷ arguments) a fit =
    let more = given_some bs vs row types arguments a fit.1 in
    let one : one_if (address (read vs (number b)) == a) ≡ one_if (fit.0.at == a) =
    ap (λ (x : Option ℕ). one_if (address x == a)) fit.0.is in
    let two : one_at a (read vs (number b)) ≡ one_if (fit.0.at == a) = ap (one_at a) fit.0.is in
    omega arith

pub in_given : (xs : List ℕ) (a : ℕ) → is_among xs a ≡ true → 0 < standing_in a xs
in_given [] a h = absurd (cc)
in_given (x ∷ xs) a h =
    ⊎_elim (λ e. let z : one_if (x == a) ≡ 1 = ap one_if e in omega arith)
    (λ e. let z = in_given xs a (sym (ap (λ (b : Bool). b || is_among xs a) e) ∙ h) in omega arith) (cases_Bool (x == a))

pub not_in_given : (xs : List ℕ) (a : ℕ) → is_among xs a ≡ false → standing_in a xs ≡ 0
not_in_given [] a h = refl
not_in_given (x ∷ xs) a h =
    let k = or_false (x == a) (is_among xs a) h in
    let z : one_if (x == a) ≡ 0 = ap one_if k.0 in
    let e = not_in_given xs a k.1 in
    omega arith

-- an address that is given at most once is given exactly if it is among the given ones
pub given_counts : (xs : List ℕ) (a : ℕ) → standing_in a xs ≤ 1 → standing_in a xs ≡ one_if (is_among xs a)
given_counts xs a once = ⊎_elim
    (λ e. let some = in_given xs a e in let z : one_if (is_among xs a) ≡ 1 = ap one_if e in omega arith)
    (λ e. let none = not_in_given xs a e in let z : one_if (is_among xs a) ≡ 0 = ap one_if e in omega arith) (cases_Bool (is_among xs a))

-- if all arguments are claimed, what they have is what they claim
pub all_claims_of : (a : ℕ) (vs : List (Option ℕ)) (arguments : List Argument) → Each (λ b. b.claimed ≡ true) arguments
    → claimed_of a vs arguments ≡ standing_of a vs arguments
all_claims_of a vs [] h = refl
all_claims_of a vs (b ∷ arguments) h =
    ap (λ (c : Bool). (if c then one_at a (read vs (number b)) else 0) + claimed_of a vs arguments) h.0
    ∙ ap (λ (n : ℕ). one_at a (read vs (number b)) + n) (all_claims_of a vs arguments h.1)

-- what is given leaves the variables
pub given_leaves : (a : ℕ) (bs : List Block) (vs : List (Option ℕ)) (row : List Leaf) (types : List HeapType) (arguments : List Argument)
    → ArgsFit bs vs row types arguments → PairApart arguments → Each (λ b. b.claimed ≡ true) arguments → standing a vs ≤ 1
    → (standing a (let_go vs arguments) + one_if (is_among (given vs arguments) a) ≡ standing a vs)
    × (standing_in a (given vs arguments) ≡ one_if (is_among (given vs arguments) a))
given_leaves a bs vs row types arguments fit apart claims once =
    let one = go_counts a vs arguments apart in
    let two = all_claims_of a vs arguments claims in
    let three = given_some bs vs row types arguments a fit in
    let less : standing_in a (given vs arguments) ≤ 1 = omega arith in
    let four = given_counts (given vs arguments) a less in
    (omega arith, four)

-- what goes into a message or the fields of a block fits, as arguments do
pub taken_fit : (m : MethodModel) (bs : List Block) (vs : List (Option ℕ)) (row : List Leaf) (wrong : VarId → Reason)
    (types : List HeapType) (given : List Mention) → RowFits bs m.variables vs row
    → AreOfTypes m.variables types (map (λ x. x.variable.0) given) → Passed (each_taken m row wrong types given)
    → ArgsFit bs vs row types (payloads_claimed given)
taken_fit m bs vs row wrong [] [] fits are h = tt
taken_fit m bs vs row wrong [] (x ∷ given) fits are h = absurd are
taken_fit m bs vs row wrong (k ∷ types) [] fits are h = absurd are
taken_fit m bs vs row wrong (k ∷ types) (x ∷ given) fits are h = (
  arg_fits bs m.variables vs row k (payload x) fits are.0
      (not_false (is_owned row x.variable.0) (not_refused (not (is_owned row x.variable.0)) _ h.1.0))
      (not_refused (is_wrong k (leaf_at row x.variable.0)) _ h.1.1.0),
  taken_fit m bs vs row wrong types given fits are.1 h.1.1.1,
)

-- nothing of it is lent
pub taken_own : (m : MethodModel) (row : List Leaf) (wrong : VarId → Reason) (variables : List VariableModel)
    (types : List HeapType) (given : List Mention) → AreOfTypes variables types (map (λ x. x.variable.0) given)
    → Passed (each_taken m row wrong types given)
    → Each (λ a. a.claimed ≡ true → is_lent m (number a) ≡ false) (payloads_claimed given)
taken_own m row wrong variables [] [] are h = tt
taken_own m row wrong variables [] (x ∷ given) are h = absurd are
taken_own m row wrong variables (k ∷ types) [] are h = tt
taken_own m row wrong variables (k ∷ types) (x ∷ given) are h =
    (λ c. not_refused (is_lent m x.variable.0) _ h.0, taken_own m row wrong variables types given are.1 h.1.1.1)

pub payloads_claim : (payloads : List Mention) → Each (λ b. b.claimed ≡ true) (payloads_claimed payloads)
payloads_claim [] = tt
payloads_claim (x ∷ payloads) = (refl, payloads_claim payloads)

-- what is given is as declared, if its blocks are kept
pub given_declared : (bs bs' : List Block) (vs : List (Option ℕ)) (row : List Leaf) (types : List HeapType) (arguments : List Argument)
    → StaysCutOff bs bs' → ArgsFit bs vs row types arguments
    → ((a : ℕ) → is_among (given vs arguments) a ≡ true → a < length bs → IsKept bs bs' a) → AreDeclared bs' types (given vs arguments)
given_declared bs bs' vs row [] [] cut fit kept = tt
given_declared bs bs' vs row [] (a ∷ arguments) cut fit kept = absurd fit
given_declared bs bs' vs row (k ∷ types) [] cut fit kept = absurd fit
given_declared bs bs' vs row (k ∷ types) (a ∷ arguments) cut fit kept =
    let is : address (read vs (number a)) ≡ fit.0.at = ap address fit.0.is in (
      subst (λ (n : ℕ). HasLeaf bs' k n (declared_leaf k)) (sym is)
          (leaf_kept bs bs' k fit.0.at (declared_leaf k) cut (kept fit.0.at
          (ap (λ (n : ℕ). (n == fit.0.at) || is_among (given vs arguments) fit.0.at) is
          ∙ ap (λ (b : Bool). b || is_among (given vs arguments) fit.0.at) (eqb_same fit.0.at fit.0.at refl)) fit.0.leaf.there)
          fit.0.leaf),
      given_declared bs bs' vs row types arguments cut fit.1
          (λ x has within. kept x (or_right (address (read vs (number a)) == x) (is_among (given vs arguments) x) has) within),
    )

-- the process owns what is given
pub given_own : (bs : List Block) (self : ℕ) (vs : List (Option ℕ)) (row : List Leaf) (types : List HeapType) (arguments : List Argument)
    (a : ℕ) → ArgsFit bs vs row types arguments → ((y v : ℕ) → read vs v ≡ Some y → owns bs self y ≡ true)
    → is_among (given vs arguments) a ≡ true → owns bs self a ≡ true
given_own bs self vs row [] [] a fit own h = absurd (cc)
given_own bs self vs row [] (b ∷ arguments) a fit own h = absurd fit
given_own bs self vs row (k ∷ types) [] a fit own h = absurd fit
given_own bs self vs row (k ∷ types) (b ∷ arguments) a fit own h = ⊎_elim
    (λ e. own a (number b) (fit.0.is ∙ ap Some (sym (ap address fit.0.is) ∙ eqb-true (address (read vs (number b))) a e)))
    (λ e. given_own bs self vs row types arguments a fit.1 own (sym (ap (λ (x : Bool). x || is_among (given vs arguments) a) e) ∙ h))
    (cases_Bool (address (read vs (number b)) == a))

-- an address in a variable that no argument names is not given
pub not_given : (bs : List Block) (vs : List (Option ℕ)) (row : List Leaf) (types : List HeapType) (arguments : List Argument) (v a : ℕ)
    → ArgsFit bs vs row types arguments → standing a vs ≤ 1 → read vs v ≡ Some a → Each (λ b. number b ≢ v) arguments
    → is_among (given vs arguments) a ≡ false
not_given bs vs row [] [] v a fit once is apart = refl
not_given bs vs row [] (b ∷ arguments) v a fit once is apart = absurd fit
not_given bs vs row (k ∷ types) [] v a fit once is apart = absurd fit
not_given bs vs row (k ∷ types) (b ∷ arguments) v a fit once is apart =
    ap (λ (x : Bool). x || is_among (given vs arguments) a)
    (eqb_apart (address (read vs (number b))) a (λ e. apart.0
    (no_copies vs (number b) v a once (fit.0.is ∙ ap Some (sym (ap address fit.0.is) ∙ e)) is)))
    ∙ not_given bs vs row types arguments v a fit.1 once is apart.1
