-- The numbers in a program are consecutive.
use Rattle.std.proofs.Common.{◌≡◌, ◌≢◌, ℕ, zero, suc, ◌+◌, List, [], ◌∷◌, ◌++◌, length, map, sym, refl, ap, ◌∙◌, subst, arith}
use Rattle.std.specs.Prelude.{AllPairs}
use Rattle.std.specs.List.{enumerate_from, flat_map, range_with_len}
use Rattle.std.proofs.lemmas.List.{append-nil, length-append, map-append}
use Rattle.std.proofs.lemmas.List.Concat.{flat_map-append}
use Rattle.std.proofs.lemmas.List.Folds.{flat_map-map}
use Rattle.std.proofs.lemmas.List.FromFn.{get_or-map-range_with_len, length-map-range_with_len}
use Rattle.tree.specs.Trees.{ContractTree}
use Rattle.declarations.specs.Declarations.{counted_states, messages_of, states_of}
use Rattle.program.specs.Parts.{AreApart, MessageModel, StateModel, contract_parts, message_ids, state_ids, contract_model}
use Rattle.declarations.specs.Resolution.{counted_in, each_behind, message_count, numbered_message, numbered_state, resolved_contract, resolved_contracts, state_count}
use Rattle.program.specs.declared.contract.Contract.{Contract}
use Rattle.program.specs.declared.number.MessageId.{MessageId}
use Rattle.program.specs.declared.number.StateId.{StateId}
use Rattle.declarations.proofs.MeantLemmas.{as_counted}

range_append : (a n m : ℕ) → range_with_len a n ++ range_with_len (a + n) m ≡ range_with_len a (n + m)
range_append a zero m = ap (λ k. range_with_len k m) (omega arith) ∙ ap (range_with_len a) (omega arith)
range_append a (suc n) m =
    ap (λ k. a ∷ (range_with_len (a + 1) n ++ range_with_len k m)) (omega arith)
    ∙ ap (λ l. a ∷ l) (range_append (a + 1) n m)
    ∙ ap (range_with_len a) (let both : suc (n + m) ≡ suc n + m = omega arith in both)

-- elements that are numbered in order have consecutive numbers
consecutive : {Y Z I : Type 0} (f : ℕ → Y → Z) (id : Z → I) (make : ℕ → I) → ((n : ℕ) (y : Y) → id (f n y) ≡ make n) → (first : ℕ) (ys : List Y)
    → map id (map (λ p. f p.0 p.1) (enumerate_from first ys)) ≡ map make (range_with_len first (length ys))
consecutive f id make same first [] = refl
consecutive f id make same first (y ∷ ys) = ap (λ i. i ∷ map id (map (λ p. f p.0 p.1) (enumerate_from (first + 1) ys))) (same first y) ∙ ap (λ l. make first ∷ l) (consecutive f id make same (first + 1) ys)

-- and so do lists of elements, one list after another
sequences : {X Y I A : Type 0} (g : X → List A) (seen : List X → X → Y) (ids : Y → List I) (make : ℕ → I) → ((before : List X) (x : X) → ids (seen before x) ≡ map make (range_with_len (length (flat_map g before)) (length (g x))))
    → (before xs : List X) → flat_map ids (each_behind (λ b x. seen b x ∷ []) before xs) ≡ map make (range_with_len (length (flat_map g before)) (length (flat_map g xs)))
sequences g seen ids make same before [] = refl
sequences g seen ids make same before (x ∷ xs) =
    let a = length (flat_map g before) in
    let n = length (g x) in
    let m = length (flat_map g xs) in
    let more : length (flat_map g (before ++ x ∷ [])) ≡ a + n = ap length (flat_map-append g before (x ∷ []) ∙ ap (λ l. flat_map g before ++ l) (append-nil (g x))) ∙ length-append (flat_map g before) (g x) in
    ap (λ l. l ++ flat_map ids (each_behind (λ b y. seen b y ∷ []) (before ++ x ∷ []) xs)) (same before x)
    ∙ ap (λ l. map make (range_with_len a n) ++ l) (sequences g seen ids make same (before ++ x ∷ []) xs ∙ ap (λ k. map make (range_with_len k m)) more)
    ∙ sym (map-append make (range_with_len a n) (range_with_len (a + n) m))
    ∙ ap (map make) (range_append a n m ∙ ap (range_with_len a) (sym (length-append (g x) (flat_map g xs))))

once_consecutive : {I : Type 0} (make : ℕ → I) (value : I → ℕ) → ((n : ℕ) → value (make n) ≡ n) → (n : ℕ) → AllPairs (λ x y. x ≢ y) (map make (range_with_len 0 n))
once_consecutive make value back n = λ i j d less lt e.
    let size = length-map-range_with_len make 0 n in
    let left = get_or-map-range_with_len make 0 n i i d (omega (arith, less, lt, size)) (omega arith) in
    let right = get_or-map-range_with_len make 0 n j j d (omega (arith, lt, size)) (omega arith) in
    let equal : i ≡ j = sym (back i) ∙ ap value (sym left ∙ e ∙ right) ∙ back j in
    absurd (omega (arith, less, equal))

state_id : ℕ → StateId
state_id n = record { 0 = n }

message_id : ℕ → MessageId
message_id n = record { 0 = n }

state_sequence : (text : List ℕ) (contracts : List ContractTree) → flat_map (λ s. state_ids s.parts) (resolved_contracts text contracts) ≡ map state_id (range_with_len 0 (state_count contracts))
unfolding state_id
state_sequence text contracts =
    sequences (λ c. counted_states (states_of c)) (λ before c. resolved_contract text (message_count before) (state_count before) c.name (messages_of c) (states_of c)) (λ s. state_ids s.parts) state_id
    (λ before c. consecutive numbered_state (λ (s : StateModel). s.id) state_id (λ n y. refl) (state_count before) (flat_map (counted_in text) (states_of c))
    ∙ ap (λ n. map state_id (range_with_len (state_count before) n)) (as_counted text (states_of c)))
    [] contracts

message_sequence : (text : List ℕ) (contracts : List ContractTree) → flat_map (λ s. message_ids s.parts) (resolved_contracts text contracts) ≡ map message_id (range_with_len 0 (message_count contracts))
unfolding message_id
message_sequence text contracts =
    sequences messages_of (λ before c. resolved_contract text (message_count before) (state_count before) c.name (messages_of c) (states_of c)) (λ s. message_ids s.parts) message_id
    (λ before c. consecutive (numbered_message text) (λ (m : MessageModel). m.id) message_id (λ n y. refl) (message_count before) (messages_of c))
    [] contracts

-- in resolved contracts, each number occurs once
pub seen_apart : (text : List ℕ) (contracts : List ContractTree) (resolved : List Contract) → map contract_model resolved ≡ resolved_contracts text contracts → AreApart (map contract_parts resolved)
unfolding state_id message_id
seen_apart text contracts resolved are =
    let states : flat_map state_ids (map contract_parts resolved) ≡ map state_id (range_with_len 0 (state_count contracts)) = flat_map-map state_ids contract_parts resolved ∙ sym (flat_map-map (λ s. state_ids s.parts) contract_model resolved)
    ∙ ap (flat_map (λ s. state_ids s.parts)) are ∙ state_sequence text contracts in
    let messages : flat_map message_ids (map contract_parts resolved) ≡ map message_id (range_with_len 0 (message_count contracts)) = flat_map-map message_ids contract_parts resolved ∙ sym (flat_map-map (λ s. message_ids s.parts) contract_model resolved)
    ∙ ap (flat_map (λ s. message_ids s.parts)) are ∙ message_sequence text contracts in
    record {
      states = subst (AllPairs (λ (x y : StateId). x ≢ y)) (sym states) (once_consecutive state_id (λ i. i.0) (λ n. refl) (state_count contracts));
      messages = subst (AllPairs (λ (x y : MessageId). x ≢ y)) (sym messages) (once_consecutive message_id (λ i. i.0) (λ n. refl) (message_count contracts));
    }
