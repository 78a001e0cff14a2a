-- Numbers of states and messages in the lists of a contract.
use Rattle.std.proofs.Common.{◌≡◌, ◌≢◌, ℕ, zero, suc, ◌<◌, ◌≤◌, List, [], ◌∷◌, length, map, get_or, sym, refl, ap, ◌∙◌, subst, arith, ⊎_elim}
use Rattle.std.specs.Prelude.{Contains, All, AllPairs, string_bytes}
use Rattle.std.proofs.lemmas.List.{length-map, get_or-map}
use Rattle.std.proofs.lemmas.List.Elements.{All-get_or, All-map}
use Rattle.std.proofs.lemmas.Bool.{cases_order}
use Rattle.program.specs.declared.limits.TheConstants.{MOST_STATES}
use Rattle.program.specs.declared.contract.State.{State}
use Rattle.program.specs.declared.number.StateId.{StateId}
use Rattle.program.specs.declared.contract.Message.{Message}
use Rattle.program.specs.declared.number.MessageId.{MessageId}
use Rattle.program.specs.declared.contract.Contract.{Contract}
use Rattle.contracts.specs.Arcs.{EndsListed}
use Rattle.contracts.specs.Parts.{StateModel, MessageModel, state_model, message_model, contract_parts, state_ids, IsWhole}

pub get_again : {A : Type 0} (xs : List A) (k : ℕ) (d e : A) → k < length xs → get_or xs k e ≡ get_or xs k d
get_again [] k d e lt = absurd (omega (arith, lt))
get_again (x ∷ xs) zero d e lt = refl
get_again (x ∷ xs) (suc k) d e lt = get_again xs k d e (omega (arith, lt))

-- the element at an index is in the list
pub at_place : {A : Type 0} (xs : List A) (k : ℕ) (d : A) → k < length xs → Contains xs (get_or xs k d)
at_place xs k d lt = (k, lt, get_again xs k d (get_or xs k d) lt)

-- what holds of each element of a list holds at each index
pub all_from : {A : Type 0} (P : A → Type 0) (xs : List A) → ((x : A) → Contains xs x → P x) → All P xs
all_from P xs each = λ k d lt. each (get_or xs k d) (at_place xs k d lt)

pub contains_map : {A B : Type 0} (f : A → B) (xs : List A) (x : A) → Contains xs x → Contains (map f xs) (f x)
contains_map f xs x c =
    let size = length-map xs f in
    let below = c.1 in
    (c.0, omega (arith, size, below), get_or-map f xs c.0 x (f x) c.1 ∙ ap f c.2)

pub state_numbers_are : (names : List ℕ) (states : List State) → map (λ (i : StateId). i.0) (map (λ (s : StateModel). s.id) (map (state_model names) states)) ≡ map (λ (s : State). s.id.0) states
state_numbers_are names [] = refl
state_numbers_are names (s ∷ rest) = ap (λ l. s.id.0 ∷ l) (state_numbers_are names rest)

pub message_numbers_are : (messages : List Message) → map (λ (i : MessageId). i.0) (map (λ (m : MessageModel). m.id) (map message_model messages)) ≡ map (λ (m : Message). m.id.0) messages
message_numbers_are [] = refl
message_numbers_are (m ∷ rest) = ap (λ l. m.id.0 ∷ l) (message_numbers_are rest)

-- a state's number is among the numbers
pub state_number_in : (names : List ℕ) (states : List State) (id : StateId) → Contains (map (λ (s : StateModel). s.id) (map (state_model names) states)) id → Contains (map (λ (s : State). s.id.0) states) id.0
state_number_in names states id c = subst (λ l. Contains l id.0) (state_numbers_are names states) (contains_map (λ (i : StateId). i.0) (map (λ (s : StateModel). s.id) (map (state_model names) states)) id c)

-- a message's number is among the numbers
pub message_number_in : (messages : List Message) (id : MessageId) → Contains (map (λ (m : MessageModel). m.id) (map message_model messages)) id → Contains (map (λ (m : Message). m.id.0) messages) id.0
message_number_in messages id c = subst (λ l. Contains l id.0) (message_numbers_are messages) (contains_map (λ (i : MessageId). i.0) (map (λ (m : MessageModel). m.id) (map message_model messages)) id c)

-- each number occurs at one index
pub record IsOnce (numbers : List ℕ) : Type 0 where
  pub same : (v w : ℕ) → v < length numbers → w < length numbers → get_or numbers v 0 ≡ get_or numbers w 0 → v ≡ w

id_of : ℕ → StateId
id_of n = record { 0 = n }

pub numbers_once : (names : List ℕ) (states : List State) → AllPairs (λ x y. x ≢ y) (map (λ (s : StateModel). s.id) (map (state_model names) states)) → IsOnce (map (λ (s : State). s.id.0) states)
unfolding id_of
numbers_once names states apart = record {
  same = λ v w lt_v lt_w equal. ⊎_elim
      (λ done. done)
      (λ either. ⊎_elim
      (λ less. absurd (apart v w (id_of 0) less (below w lt_w) (ap id_of (at v lt_v ∙ equal ∙ sym (at w lt_w)))))
      (λ more. absurd (apart w v (id_of 0) more (below v lt_v) (ap id_of (at w lt_w ∙ sym equal ∙ sym (at v lt_v)))))
      either)
      (cases_order v w);
}
  where
    ids : List StateId
    ids = map (λ (s : StateModel). s.id) (map (state_model names) states)

    numbers : List ℕ
    numbers = map (λ (s : State). s.id.0) states

    below : (k : ℕ) → k < length numbers → k < length ids
    below k lt =
        let a = length-map ids (λ (i : StateId). i.0) in
        let b = ap length (state_numbers_are names states) in
        omega (arith, a, b, lt)

    at : (k : ℕ) → k < length numbers → (get_or ids k (id_of 0)).0 ≡ get_or numbers k 0
    at k lt = sym (get_or-map (λ (i : StateId). i.0) ids k (id_of 0) 0 (below k lt)) ∙ ap (λ l. get_or l k 0) (state_numbers_are names states)

-- the states of a contract's edges are among the numbers
pub ends_listed : (e : Contract) (numbers : List ℕ) → IsWhole (contract_parts e) → numbers ≡ map (λ (s : State). s.id.0) e.states.items → EndsListed numbers e.edges.items
ends_listed e numbers whole is x c = (
  subst (λ l. Contains l x.from.0) (sym is) (state_number_in (string_bytes e.state_names) e.states.items x.from (whole.from x c)),
  subst (λ l. Contains l x.to.0) (sym is) (state_number_in (string_bytes e.state_names) e.states.items x.to (whole.to x c)),
)

-- there are no more states than allowed numbers
pub few_numbers : (e : Contract) → IsWhole (contract_parts e) → length e.states.items ≤ MOST_STATES
few_numbers e whole = walk e.states.items refl
  where
    numbers : List ℕ
    numbers = map (λ (i : StateId). i.0) (state_ids (contract_parts e))

    size : length numbers ≡ length e.states.items
    size = ap length (state_numbers_are (string_bytes e.state_names) e.states.items) ∙ length-map e.states.items (λ (s : State). s.id.0)

    walk : (states : List State) → e.states.items ≡ states → length e.states.items ≤ MOST_STATES
    walk [] is = let none = ap length is in omega (arith, none)
    walk (s ∷ rest) is =
        let many = ap length is in
        let last : ℕ = length rest in
        let at = whole.states_consecutive last (omega (arith, many, size)) in
        let below = All-get_or (λ q. q < MOST_STATES) numbers last 0 (omega (arith, many, size)) (All-map (λ q. q < MOST_STATES) (λ (i : StateId). i.0) (state_ids (contract_parts e)) whole.numbered) in
        omega (arith, at, below, many)
