-- All flaws of a contract are in one list, made from its edges, messages and states.
use Rattle.std.proofs.Common.{◌≡◌, ℕ, List, [], ◌∷◌, ◌++◌, Some, sym, subst, inl, inr}
use Rattle.std.specs.Prelude.{Contains, slice_get}
use Rattle.std.specs.List.{flat_map}
use Rattle.std.proofs.lemmas.List.Elements.{Contains-append_left, Contains-append_right}
use Rattle.std.proofs.lemmas.Map.Made.{Contains-tail}
use Rattle.std.proofs.lemmas.Option.{slice_get_within, get_or_from_slice_get}
use Rattle.program.specs.declared.contract.Edge.{Edge}
use Rattle.contracts.specs.Conditions.{FindingModel, IsFlaw, AreExactly}
use Rattle.contracts.specs.Parts.{Parts, StateModel, MessageModel}
use Rattle.contracts.proofs.ArcLemmas.{none_in}
use Rattle.contracts.proofs.ConditionLemmas.{against, twice, both}
use Rattle.contracts.proofs.ListLemmas.{contains_head, contains_tail, contains_either}
use Rattle.contracts.proofs.RoundLemmas.{round}

-- It cannot be that no list has exactly the elements for which P holds, although nothing decides P. If P held for the
-- first element, that one and those of the others would be such a list. So it does not, and those of the others are
-- one.
chosen : {X : Type 0} (P : X → Type 0) (from : List X)
    → ((found : List X) → ((x : X) → Contains found x → P x) → ((x : X) → P x → Contains from x → Contains found x) → ⊥) → ⊥
chosen {X} P [] none = none [] (λ x c. absurd (none_in x c)) (λ x holds c. c)
chosen {X} P (y ∷ ys) none = chosen P ys without
  where
    with : (found : List X) → ((x : X) → Contains found x → P x) → ((x : X) → P x → Contains ys x → Contains found x) → P y → ⊥
    with found right all holds = none (y ∷ found)
        (λ x c. contains_either (P x) y x found c (λ same. subst P same holds) (right x))
        (λ x p c. contains_either (Contains (y ∷ found) x) y x ys c
        (λ same. subst (Contains (y ∷ found)) same (contains_head y found))
        (λ later. contains_tail y x found (all x p later)))

    without : (found : List X) → ((x : X) → Contains found x → P x) → ((x : X) → P x → Contains ys x → Contains found x) → ⊥
    without found right all = none found right
        (λ x p c. all x p (Contains-tail y ys x (λ same. with found right all (subst P (sym same) p)) c))

-- what one element adds is among what all add
pub in_flat : {X Y : Type 0} (f : X → List Y) (xs : List X) (x : X) (y : Y)
    → Contains xs x → Contains (f x) y → Contains (flat_map f xs) y
in_flat f [] x y c d = absurd (none_in x c)
in_flat f (z ∷ zs) x y c d = contains_either (Contains (flat_map f (z ∷ zs)) y) z x zs c
    (λ same. Contains-append_left (f z) (flat_map f zs) y (subst (λ w. Contains (f w) y) (sym same) d))
    (λ later. Contains-append_right (f z) (flat_map f zs) y (in_flat f zs x y later d))

-- what can be wrong at an edge of a message
abbrev of_message : Edge → MessageModel → List FindingModel
of_message e m = against e m ∷ twice e m ∷ []

-- what can be wrong at an edge, whichever of the messages it names
abbrev at_edge : List MessageModel → Edge → List FindingModel
at_edge messages e = flat_map (of_message e) messages

-- what can be wrong at a state
abbrev at_state : StateModel → List FindingModel
at_state s = both s ∷ round s ∷ []

abbrev at_edges : Parts → List FindingModel
at_edges parts = flat_map (at_edge parts.messages) parts.edges

abbrev at_states : Parts → List FindingModel
at_states parts = flat_map at_state parts.states

-- all that can be wrong
abbrev candidates : Parts → List FindingModel
candidates parts = at_edges parts ++ at_states parts

first_of : (f g : FindingModel) → Contains (f ∷ g ∷ []) f
first_of f g = contains_head f (g ∷ [])

second_of : (f g : FindingModel) → Contains (f ∷ g ∷ []) g
second_of f g = contains_tail f g (g ∷ []) (contains_head g [])

read_in : {X : Type 0} (xs : List X) (i : ℕ) (x : X) → slice_get xs i ≡ Some x → Contains xs x
read_in xs i x at = (i, slice_get_within xs i x at, get_or_from_slice_get xs i x x at)

edge_listed : (parts : Parts) (i : ℕ) (e : Edge) (m : MessageModel) (f g : FindingModel) → slice_get parts.edges i ≡ Some e
    → Contains parts.messages m → f ≡ g → Contains (of_message e m) g → Contains (candidates parts) f
edge_listed parts i e m f g at listed is c =
    let here = in_flat (of_message e) parts.messages m g listed c in
    let there = in_flat (at_edge parts.messages) parts.edges e g (read_in parts.edges i e at) here in
    subst (Contains (candidates parts)) (sym is) (Contains-append_left (at_edges parts) (at_states parts) g there)

state_listed : (parts : Parts) (i : ℕ) (s : StateModel) (f g : FindingModel) → slice_get parts.states i ≡ Some s
    → f ≡ g → Contains (at_state s) g → Contains (candidates parts) f
state_listed parts i s f g at is c =
    let there = in_flat at_state parts.states s g (read_in parts.states i s at) c in
    subst (Contains (candidates parts)) (sym is) (Contains-append_right (at_edges parts) (at_states parts) g there)

-- whatever is wrong is among all that can be
fault_listed : (parts : Parts) (f : FindingModel) → IsFlaw parts f → Contains (candidates parts) f
fault_listed parts f (i, inl x) =
    let e = x.edge in
    let m = x.message in
    edge_listed parts i e m f (against e m) x.at x.listed x.is (first_of (against e m) (twice e m))
fault_listed parts f (i, inr (inl x)) =
    let e = x.edge in
    let m = x.message in
    edge_listed parts i e m f (twice e m) x.at x.listed x.is (second_of (against e m) (twice e m))
fault_listed parts f (i, inr (inr (inl x))) =
    let s = x.state in
    state_listed parts i s f (both s) x.at x.is (first_of (both s) (round s))
fault_listed parts f (i, inr (inr (inr x))) =
    let s = x.state in
    state_listed parts i s f (round s) x.at x.is (second_of (both s) (round s))

-- It can't be that no list has all that is wrong.
pub faults_listed : (parts : Parts) → ((found : List FindingModel) → AreExactly (IsFlaw parts) found → ⊥) → ⊥
faults_listed parts none = chosen (IsFlaw parts) (candidates parts)
    (λ found right all. none found (record { right = right; all = λ f fault. all f fault (fault_listed parts f fault) }))
