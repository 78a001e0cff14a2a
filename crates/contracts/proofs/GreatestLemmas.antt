-- Walks of one sign in a sound contract are short, so one of them is the longest.
use Rattle.std.proofs.Common.{◌≡◌, ◌≢◌, ℕ, zero, suc, ◌+◌, ◌<◌, ◌≤◌, List, [], ◌∷◌, length, map, sym, refl, ap, ◌∙◌, subst, arith, eqb-true, inr, ⊎_elim}
use Rattle.std.specs.Prelude.{Contains, AllPairs}
use Rattle.std.specs.Cmp.{nat_eq_equiv}
use Rattle.std.proofs.lemmas.Bool.{cases_lt}
use Rattle.std.proofs.lemmas.Bool.Decides.{Decides-eqb}
use Rattle.std.proofs.lemmas.List.{length-map}
use Rattle.std.proofs.lemmas.List.Elements.{All-nil, All-cons, All-head, All-tail, All-map}
use Rattle.std.proofs.lemmas.List.Kept.{AllPairs-cons}
use Rattle.std.proofs.lemmas.Map.Made.{IsDistinct-from_AllPairs, length-le_from_is_member}
use Rattle.std.proofs.lemmas.Map.Views.{list_any-from_Contains, Contains-from_any}
use Rattle.std.proofs.lemmas.Option.{slice_get_read}
use Rattle.program.specs.declared.contract.Sign.{Sign}
use Rattle.program.specs.declared.contract.Edge.{Edge}
use Rattle.program.specs.declared.number.StateId.{StateId}
use Rattle.contracts.specs.Bounds.{IsBound}
use Rattle.contracts.specs.Conditions.{IsSound}
use Rattle.contracts.specs.Parts.{Parts, StateModel, IsWhole, state_ids}
use Rattle.contracts.specs.Walks.{IsWalk, HasSign, IsRoundBy}
use Rattle.contracts.proofs.ArcLemmas.{none_in}
use Rattle.contracts.proofs.PartLemmas.{all_from, contains_map}
use Rattle.contracts.proofs.ListLemmas.{made_from}
use Rattle.contracts.proofs.RoundLemmas.{round}

-- If no number is the greatest, each has one above it, and so on past the limit. The distance to the limit falls each
-- time.
above : (P : ℕ → Type 0) (limit : ℕ) → ((n : ℕ) → P n → n ≤ limit) → ((n : ℕ) → P n → ((m : ℕ) → P m → m ≤ n) → ⊥)
    → (rest n : ℕ) → limit < n + rest → P n → ⊥
above P limit within none zero n far is = let le = within n is in omega (arith, far, le)
above P limit within none (suc rest) n far is = none n is
    (λ m more. ⊎_elim (λ less. absurd (above P limit within none rest m (omega (arith, less, far)) more)) (λ le. le) (cases_lt n m))

-- It cannot be that numbers up to a limit have no greatest one.
greatest : (P : ℕ → Type 0) (limit n : ℕ) → ((m : ℕ) → P m → m ≤ limit) → P n → ((m : ℕ) → P m → ((k : ℕ) → P k → k ≤ m) → ⊥) → ⊥
greatest P limit n within is none = above P limit within none (suc limit) n (omega arith) is

-- different numbers of a list are no more than the list has
no_more : (xs ys : List ℕ) → AllPairs (λ x y. x ≢ y) xs → ((x : ℕ) → Contains xs x → Contains ys x) → length xs ≤ length ys
no_more xs ys apart stands = length-le_from_is_member nat_eq_equiv xs ys (IsDistinct-from_AllPairs Decides-eqb xs apart)
    (λ q is. list_any-from_Contains nat_eq_equiv q ys (stands q (Contains-from_any eqb-true q xs is)))

-- the part of a walk before one of its edges; that edge is in the list
record Until (edges : List Edge) (sign : Sign) (p : StateId) (e : Edge) : Type 0 where
  before : List Edge
  leads : IsWalk edges p before e.from
  one_sign : HasSign sign before
  listed : Contains edges e

until : (edges : List Edge) (sign : Sign) (walk : List Edge) (p q : StateId) (e : Edge) → IsWalk edges p walk q → HasSign sign walk
    → Contains walk e → Until edges sign p e
until edges sign [] p q e leads signs c = absurd (none_in e c)
until edges sign (d ∷ walk) p q e leads signs (zero, lt, same) = record {
  before = [];
  leads = sym leads.1 ∙ ap (λ (x : Edge). x.from) same;
  one_sign = All-nil (λ (x : Edge). x.sign ≡ sign);
  listed = subst (Contains edges) same leads.0;
}
until edges sign (d ∷ walk) p q e leads signs (suc k, lt, same) =
    let Signed : Edge → Type 0 = λ x. x.sign ≡ sign in
    let rest = until edges sign walk d.to q e leads.2 (All-tail Signed d walk signs) (k, omega (arith, lt), same) in
    record {
      before = d ∷ rest.before;
      leads = (leads.0, leads.1, rest.leads);
      one_sign = All-cons Signed d rest.before (All-head Signed d walk signs) rest.one_sign;
      listed = rest.listed;
    }

-- the number of the state that an edge leaves
abbrev left_number : Edge → ℕ
left_number e = e.from.0

abbrev id_of : ℕ → StateId
id_of n = record { 0 = n }

-- a walk that leaves a state a second time goes round it
comes_back : (edges : List Edge) (sign : Sign) (e d : Edge) (walk : List Edge) (p q : StateId) → IsWalk edges p (e ∷ walk) q
    → HasSign sign (e ∷ walk) → Contains walk d → left_number e ≡ left_number d → IsRoundBy edges sign e.from
comes_back edges sign e d walk p q leads signs c same =
    let Signed : Edge → Type 0 = λ x. x.sign ≡ sign in
    let u = until edges sign walk e.to q d leads.2 (All-tail Signed e walk signs) c in
    let back : d.from ≡ e.from = ap id_of (sym same) in
    record {
      first = e;
      others = u.before;
      walk = (leads.0, refl, subst (λ x. IsWalk edges e.to u.before x) back u.leads);
      one_sign = All-cons Signed e u.before (All-head Signed e walk signs) u.one_sign;
    }

-- if edges of a sign lead round no state, a walk of that sign leaves no state twice
left_once : (edges : List Edge) (sign : Sign) → ((e : Edge) → Contains edges e → IsRoundBy edges sign e.from → ⊥)
    → (walk : List Edge) (p q : StateId) → IsWalk edges p walk q → HasSign sign walk → AllPairs (λ x y. x ≢ y) (map left_number walk)
left_once edges sign quiet [] p q leads signs = λ i j d less lt same. absurd (omega (arith, lt))
left_once edges sign quiet (e ∷ walk) p q leads signs = AllPairs-cons (λ x y. x ≢ y) (left_number e) (map left_number walk)
    (All-map (λ x. left_number e ≢ x) left_number walk (all_from (λ d. left_number e ≢ left_number d) walk differs))
    (left_once edges sign quiet walk e.to q leads.2 (All-tail (λ (x : Edge). x.sign ≡ sign) e walk signs))
  where
    differs : (d : Edge) → Contains walk d → left_number e ≢ left_number d
    differs d c same = quiet e leads.0 (comes_back edges sign e d walk p q leads signs c same)

-- in a sound contract, edges of one sign do not lead round a state that an edge leaves, since that state is listed
sound_quiet : (parts : Parts) → IsWhole parts → IsSound parts → (sign : Sign) (e : Edge) → Contains parts.edges e
    → IsRoundBy parts.edges sign e.from → ⊥
sound_quiet parts whole sound sign e c by =
    let s = made_from (λ (x : StateModel). x.id) parts.states e.from (whole.from e c) in
    let at = slice_get_read parts.states (length parts.states) s.1.0 s.0 refl s.1.1 (sym s.1.2) in
    let by_state : IsRoundBy parts.edges sign s.0.id = subst (IsRoundBy parts.edges sign) (sym s.2) by in
    sound (round s.0) (s.1.0, inr (inr (inr (record { state = s.0; at = at; sign = sign; round = by_state; is = refl }))))

-- a walk of one sign has no more edges than there are states
walk_short : (parts : Parts) → IsWhole parts → IsSound parts → (sign : Sign) (walk : List Edge) (p q : StateId)
    → IsWalk parts.edges p walk q → HasSign sign walk → length walk ≤ length parts.states
walk_short parts whole sound sign walk p q leads signs =
    let apart = left_once parts.edges sign (sound_quiet parts whole sound sign) walk p q leads signs in
    let most = no_more (map left_number walk) (map number (state_ids parts)) apart listed in
    let long = length-map walk left_number in
    let states = length-map parts.states (λ (s : StateModel). s.id) in
    let numbers = length-map (state_ids parts) number in
    omega (arith, most, long, states, numbers)
  where
    number : StateId → ℕ
    number id = id.0

    listed : (x : ℕ) → Contains (map left_number walk) x → Contains (map number (state_ids parts)) x
    listed x c =
        let e = made_from left_number walk x c in
        let u = until parts.edges sign walk p q e.0 leads signs e.1 in
        subst (Contains (map number (state_ids parts))) e.2 (contains_map number (state_ids parts) e.0.from (whole.from e.0 u.listed))

-- a walk of this sign and length begins at a state that can be reached
record HasWalk (edges : List Edge) (first : StateId) (sign : Sign) (n : ℕ) : Type 0 where
  from : StateId
  to : StateId
  way : List Edge
  walk : List Edge
  reached : IsWalk edges first way from
  leads : IsWalk edges from walk to
  one_sign : HasSign sign walk
  long : length walk ≡ n

-- It cannot be that a sound contract has no bound.
pub bound_there : (parts : Parts) → IsWhole parts → IsSound parts → (sign : Sign)
    → ((n : ℕ) → IsBound parts.edges parts.first sign n → ⊥) → ⊥
bound_there parts whole sound sign none = greatest (HasWalk edges first sign) (length parts.states) 0 short empty longest
  where
    edges : List Edge
    edges = parts.edges

    first : StateId
    first = parts.first

    short : (n : ℕ) → HasWalk edges first sign n → n ≤ length parts.states
    short n h =
        let most = walk_short parts whole sound sign h.walk h.from h.to h.leads h.one_sign in
        let long = h.long in
        omega (arith, most, long)

    at : (p q : StateId) (way walk : List Edge) → IsWalk edges first way p → IsWalk edges p walk q → HasSign sign walk
        → HasWalk edges first sign (length walk)
    at p q way walk reached leads one_sign = record {
      from = p;
      to = q;
      way = way;
      walk = walk;
      reached = reached;
      leads = leads;
      one_sign = one_sign;
      long = refl;
    }

    empty : HasWalk edges first sign 0
    empty = at first first [] [] refl refl (All-nil (λ (x : Edge). x.sign ≡ sign))

    longest : (n : ℕ) → HasWalk edges first sign n → ((m : ℕ) → HasWalk edges first sign m → m ≤ n) → ⊥
    longest n h most = none n (record {
      most = λ p q way walk reached leads one_sign.
          most (length walk) (at p q way walk reached leads one_sign);
      from = h.from;
      to = h.to;
      way = h.way;
      walk = h.walk;
      reached = h.reached;
      leads = h.leads;
      one_sign = h.one_sign;
      long = h.long;
    })
