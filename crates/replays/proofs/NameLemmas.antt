-- The indices of states in their contracts, and their names.
use Rattle.std.proofs.Common.{◌≡◌, ◌<◌, ◌+◌, ◌==◌, ℕ, zero, suc, Bool, true, false, not, cond, ltb, List, [], ◌∷◌, ◌++◌, length, map, take, get_or, Bor, Option, Some, None, refl, ap, ap₂, sym, ◌∙◌, subst₂, arith, ltb-false}
use Rattle.std.specs.Prelude.{find, option_and_then, option_map, slice_get, string_bytes}
use Rattle.std.specs.BTreeMap.{BTreeMap, get}
use Rattle.std.specs.Option.{option_map_or, unwrap_or}
use Rattle.std.specs.Slice.{IsItemAt}
use Rattle.std.specs.List.{position_or_len}
use Rattle.std.specs.Ordering.{is_eq, nat_cmp}
use Rattle.std.proofs.lemmas.List.{length-append, length-map, length-take-le, map-append, take_more}
use Rattle.std.proofs.lemmas.Option.{none-some, same_Some, slice_get-map, slice_get_past, slice_get_read}
use Rattle.std.proofs.lemmas.List.Folds.{find_at}
use Rattle.lemmas.specs.Places.{first_position}
use Rattle.program.specs.Parts.{ContractModel, StateModel, contract_model, state_model}
use Rattle.program.specs.declared.contract.Contract.{Contract}
use Rattle.replays.proofs.LineLemmas.{map_twice}
use Rattle.replays.specs.Names.{state_of}
use Rattle.replays.specs.Placed.{ArePlaced, index_in}
use Rattle.flow.proofs.KeyLemmas.{number_same}

-- the table of a contract: the first index of each state number
abbrev pub HasIndices : ContractModel → BTreeMap ℕ ℕ → Type 0
HasIndices c m = (k : ℕ) → get nat_cmp m k ≡ first_position nat_cmp (map (λ s. s.id.0) c.parts.states) k

-- no tables for no contracts
pub placed_none : ArePlaced [] []
placed_none contract state = refl

-- one more table
pub placed_more : (contracts : List ContractModel) (tables : List (BTreeMap ℕ ℕ)) (c : ContractModel) (m : BTreeMap ℕ ℕ) → length tables ≡ length contracts → ArePlaced contracts tables → HasIndices c m → ArePlaced (contracts ++ c ∷ []) (tables ++ m ∷ [])
placed_more [] [] c m same h p zero state = p state
placed_more [] [] c m same h p (suc n) state = refl
placed_more [] (t ∷ tables) c m same h p n state = absurd (omega (arith, same))
placed_more (d ∷ contracts) [] c m same h p n state = absurd (omega (arith, same))
placed_more (d ∷ contracts) (t ∷ tables) c m same h p zero state = h zero state
placed_more (d ∷ contracts) (t ∷ tables) c m same h p (suc n) state = placed_more contracts tables c m (omega (arith, same)) (λ k q. h (suc k) q) p n state

first_among : (states : List StateModel) (q : ℕ) → position_or_len (λ x. is_eq (nat_cmp q x)) (map (λ (s : StateModel). s.id.0) states) ≡ position_or_len (λ (s : StateModel). s.id.0 == q) states
first_among [] q = refl
first_among (s ∷ states) q = ap (λ b. cond (not b) (1 + position_or_len (λ x. is_eq (nat_cmp q x)) (map (λ (s : StateModel). s.id.0) states)) 0) (number_same q s.id.0)
    ∙ ap (λ n. cond (not (s.id.0 == q)) (1 + n) 0) (first_among states q)

-- the state at the first index of a number is the first state of that number
found_at : (states : List StateModel) (q : ℕ) → option_and_then (λ k. slice_get states k) (first_position nat_cmp (map (λ (s : StateModel). s.id.0) states) q) ≡ find (λ s. s.id.0 == q) states
found_at states q =
    let ids = map (λ (s : StateModel). s.id.0) states in
    let k = position_or_len (λ (s : StateModel). s.id.0 == q) states in
    ap₂ (λ i n. option_and_then (λ j. slice_get states j) (cond (ltb i n) (Some i) None)) (first_among states q) (length-map states (λ (s : StateModel). s.id.0))
    ∙ by (ltb k (length states)) refl
    ∙ sym (find_at (λ (s : StateModel). s.id.0 == q) states)
  where
    by : (b : Bool) → ltb (position_or_len (λ (s : StateModel). s.id.0 == q) states) (length states) ≡ b
        → option_and_then (λ j. slice_get states j) (cond b (Some (position_or_len (λ (s : StateModel). s.id.0 == q) states)) None) ≡ slice_get states (position_or_len (λ (s : StateModel). s.id.0 == q) states)
    by true e = refl
    by false e = sym (slice_get_past states (position_or_len (λ (s : StateModel). s.id.0 == q) states) (omega (arith, ltb-false (position_or_len (λ (s : StateModel). s.id.0 == q) states) (length states) e)))

-- the state at an index of a contract, if it exists
abbrev pub by_index : List ContractModel → ℕ → Option ℕ → Option StateModel
by_index contracts contract place = option_and_then (λ k. option_and_then (λ c. slice_get c.parts.states k) (slice_get contracts contract)) place

by_contract : (c : Option ContractModel) (q : ℕ) → option_and_then (λ x. find (λ s. s.id.0 == q) x.parts.states) c
    ≡ option_and_then (λ k. option_and_then (λ x. slice_get x.parts.states k) c) (option_and_then (λ x. first_position nat_cmp (map (λ s. s.id.0) x.parts.states) q) c)
by_contract None q = refl
by_contract (Some c) q = sym (found_at c.parts.states q)

-- the state of a number is the one at the index from the tables
pub state_placed : (contracts : List ContractModel) (tables : List (BTreeMap ℕ ℕ)) → ArePlaced contracts tables → (contract state : ℕ) → state_of contracts contract state ≡ by_index contracts contract (index_in tables contract state)
state_placed contracts tables p contract state = by_contract (slice_get contracts contract) state ∙ ap (by_index contracts contract) (sym (p contract state))

-- the name of a state, or nothing if the state does not exist
pub name_or_nothing : (s : Option StateModel) (name : Option (Bor (List ℕ))) → option_map (λ (bytes : Bor (List ℕ)). bytes.now) name ≡ option_map (λ (x : StateModel). x.name) s → (nothing : Bor (List ℕ)) → nothing.now ≡ [] → (unwrap_or name nothing).now ≡ option_map_or (λ (x : StateModel). x.name) s []
name_or_nothing None None e nothing is = is
name_or_nothing None (Some name) e nothing is = absurd (none-some name.now (sym e))
name_or_nothing (Some s) None e nothing is = absurd (none-some s.name e)
name_or_nothing (Some s) (Some name) e nothing is = same_Some name.now s.name e

-- one more contract, as in the code
pub indices_more : (contracts : List Contract) (tables new : List (BTreeMap ℕ ℕ)) (i : ℕ) (x : Contract) (m : BTreeMap ℕ ℕ) → i < length contracts → x ≡ get_or contracts i x → length tables ≡ i
    → ArePlaced (map contract_model (take i contracts)) tables → ((k : ℕ) → get nat_cmp m k ≡ first_position nat_cmp (map (λ s. s.id.0) x.states.items) k) → new ≡ tables ++ m ∷ []
    → (length new ≡ i + 1) × ArePlaced (map contract_model (take (i + 1) contracts)) new
indices_more contracts tables new i x m lt is many placed has e =
    let seen : map contract_model (take (i + 1) contracts) ≡ map contract_model (take i contracts) ++ contract_model x ∷ [] =
    ap (map contract_model) (take_more contracts i x lt) ∙ map-append contract_model (take i contracts) (get_or contracts i x ∷ []) ∙ ap (λ y. map contract_model (take i contracts) ++ contract_model y ∷ []) (sym is) in
    let same : length tables ≡ length (map contract_model (take i contracts)) = omega (arith, many, length-map (take i contracts) contract_model, length-take-le i contracts (omega arith)) in
    let here = λ (k : ℕ). has k ∙ ap (λ l. first_position nat_cmp l k) (sym (map_twice (λ (s : StateModel). s.id.0) (state_model (string_bytes x.state_names)) x.states.items)) in (
      ap (λ l. length l) e ∙ length-append tables (m ∷ []) ∙ ap (λ n. n + 1) many,
      subst₂ (λ c t. ArePlaced c t) (sym seen) (sym e) (placed_more (map contract_model (take i contracts)) tables (contract_model x) m same placed here),
    )

-- an item seen through a view
pub seen_at : {A B : Type 0} (view : A → B) (xs : List A) (ys : List B) (k : ℕ) (o : Option A) → map view xs ≡ ys → slice_get xs k ≡ o → slice_get ys k ≡ option_map view o
seen_at view xs ys k o e is = ap (λ l. slice_get l k) (sym e) ∙ slice_get-map view xs k ∙ ap (option_map view) is

-- the result of a lookup by index, seen through a view
pub got_seen : {A B : Type 0} (view : A → B) (xs : List A) (k : ℕ) (r : Option (Bor A)) → IsItemAt xs k r → option_map (λ (s : Bor A). view s.now) r ≡ slice_get (map view xs) k
got_seen view xs k None look = sym (slice_get-map view xs k ∙ ap (option_map view) (slice_get_past xs k look.3))
got_seen view xs k (Some s) look = sym (slice_get-map view xs k ∙ ap (option_map view) (slice_get_read xs _ k s.now refl look.3.0 look.1))
