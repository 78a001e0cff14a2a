-- Contracts and structs by the index of their item.
use Rattle.std.proofs.Common.{◌≡◌, ℕ, zero, suc, ◌<◌, ◌≤◌, List, [], ◌∷◌, ◌++◌, length, map, get_or, sym, refl, ap, ◌∙◌, arith, Bor}
use Rattle.std.specs.List.{HoldsAt}
use Rattle.std.specs.Prelude.{MatchOption, Option, None, Some, option_map, slice_get, string_bytes}
use Rattle.std.proofs.lemmas.List.{length-map, take_all}
use Rattle.std.proofs.lemmas.Option.{slice_get-map, slice_get_past, slice_get_read}
use Rattle.tree.specs.Trees.{contracts_of}
use Rattle.declarations.specs.Declarations.{messages_of, states_of}
use Rattle.declarations.specs.Program.{ProgramText}
use Rattle.program.specs.Parts.{contract_model, message_model, state_model}
use Rattle.declarations.specs.Resolution.{each_behind, message_count, resolved_contract, resolved_contracts, state_count}
use Rattle.program.specs.declared.contract.Contract.{Contract}
use Rattle.program.specs.declared.contract.Message.{Message}
use Rattle.program.specs.declared.contract.State.{State}
use Rattle.program.specs.declared.number.ContractId.{ContractId}
use Rattle.program.specs.declared.types.HeapType.{HeapType}
use Rattle.program.specs.declared.types.HeapType.TheVariants.{Struct}
use Rattle.resolving.specs.Around.{IsDirectory}
use Rattle.resolving.specs.Counts.{contracts_before, structs_before}
use Rattle.resolving.specs.Types.{contract_at, number_at}
use Rattle.resolving.specs.declared.around.Directory.{Directory}
use Rattle.resolving.specs.declared.counts.ItemsBefore.{ItemsBefore}
use Rattle.resolving.proofs.CountLemmas.{count_read, counts_long}

-- r is what a look-up of index k in a list in memory returns
abbrev pub LooksUp : {X : Type 0} → List X → ℕ → Option (Bor X) → Type 0
LooksUp xs k r = MatchOption r (length xs ≤ k) (λ x. (k < length xs) × HoldsAt (λ y. x.now ≡ y) xs k)

-- the model of what a look-up returns is the element of the list of models
seen_at : {X Y : Type 0} (seen : X → Y) (xs : List X) (k : ℕ) (r : Option (Bor X)) → LooksUp xs k r → option_map (λ x. seen x.now) r ≡ slice_get (map seen xs) k
seen_at seen xs k None past = let long = length-map xs seen in sym (slice_get_past (map seen xs) k (omega (arith, past, long)))
seen_at seen xs k (Some x) found = sym (slice_get-map seen xs k ∙ ap (option_map seen) (slice_get_read xs (length xs) k x.now refl found.0 (found.1 x.now)))

-- the numbers of the state and of the message that a look-up in a contract finds
pub state_found : (contract : Contract) (states : List State) (at : ℕ) (r : Option (Bor State)) → states ≡ contract.states.items → LooksUp states at r
    → option_map (λ s. s.now.id) r ≡ option_map (λ s. s.id) (slice_get (contract_model contract).parts.states at)
state_found contract states at None same found =
    let parts = state_model (string_bytes contract.state_names) in
    ap (option_map (λ s. s.id)) (seen_at parts states at None found ∙ ap (λ l. slice_get (map parts l) at) same)
state_found contract states at (Some s) same found =
    let parts = state_model (string_bytes contract.state_names) in
    ap (option_map (λ s. s.id)) (seen_at parts states at (Some s) found ∙ ap (λ l. slice_get (map parts l) at) same)

pub message_found : (contract : Contract) (messages : List Message) (at : ℕ) (r : Option (Bor Message)) → messages ≡ contract.messages.items → LooksUp messages at r
    → option_map (λ m. m.now.id) r ≡ option_map (λ m. m.id) (slice_get (contract_model contract).parts.messages at)
message_found contract messages at None same found = ap (option_map (λ m. m.id)) (seen_at message_model messages at None found ∙ ap (λ l. slice_get (map message_model l) at) same)
message_found contract messages at (Some m) same found = ap (option_map (λ m. m.id)) (seen_at message_model messages at (Some m) found ∙ ap (λ l. slice_get (map message_model l) at) same)

singles : {X Y : Type 0} (f : List X → X → Y) (before xs : List X) → length (each_behind (λ b x. f b x ∷ []) before xs) ≡ length xs
singles f before [] = refl
singles f before (x ∷ xs) = let rest = singles f (before ++ x ∷ []) xs in omega (arith, rest)

-- there is no contract past the last item
pub contract_past : (p : ProgramText) (t : Directory) (index : ℕ) → IsDirectory p t → length t.before.now ≤ index → contract_at p index ≡ None
contract_past p t index h past =
    let contracts = contracts_of p.items in
    let long = ap length h.before ∙ counts_long p.items in
    let many = singles (λ b c. resolved_contract p.text (message_count b) (state_count b) c.name (messages_of c) (states_of c)) [] contracts in
    let all = ap (λ items. length (contracts_of items)) (take_all index p.items (omega (arith, past, long))) in
    slice_get_past (resolved_contracts p.text contracts) (contracts_before p.items index) (omega (arith, many, all))

-- the contract with the number counted at an item is that of the item
pub contract_found : (p : ProgramText) (t : Directory) (index : ℕ) (b : ItemsBefore) (contracts : List Contract) (r : Option (Bor Contract)) → IsDirectory p t → index < length t.before.now → b ≡ get_or t.before.now index b
    → contracts ≡ t.resolved.now.contracts.items → LooksUp contracts b.contracts r → option_map (λ c. contract_model c.now) r ≡ contract_at p index
contract_found p t index b contracts r h lt is same found =
    seen_at contract_model contracts b.contracts r found
    ∙ ap (λ l. slice_get (map contract_model l) b.contracts) same
    ∙ ap (λ l. slice_get l b.contracts) h.contracts
    ∙ ap (λ (x : ItemsBefore). slice_get (resolved_contracts p.text (contracts_of p.items)) x.contracts) (count_read p.items t.before.now index b h.before lt is)

-- the number of that contract
pub number_found : (p : ProgramText) (t : Directory) (index : ℕ) (b : ItemsBefore) (contracts : List Contract) (c : Bor Contract) → IsDirectory p t → index < length t.before.now → b ≡ get_or t.before.now index b
    → contracts ≡ t.resolved.now.contracts.items → LooksUp contracts b.contracts (Some c) → Some (record { 0 = b.contracts }) ≡ number_at p index
number_found p t index b contracts c h lt is same found =
    let number : ℕ → ContractId = λ n. record { 0 = n } in
    ap (λ (x : ItemsBefore). Some (number x.contracts)) (count_read p.items t.before.now index b h.before lt is)
    ∙ ap (option_map (λ s. number (contracts_before p.items index))) (contract_found p t index b contracts (Some c) h lt is same found)

there : {X Y : Type 0} (y : Y) (xs : List X) (n : ℕ) → n < length xs → option_map (λ x. y) (slice_get xs n) ≡ Some y
there y [] n lt = absurd (omega (arith, lt))
there y (x ∷ xs) zero lt = refl
there y (x ∷ xs) (suc n) lt = there y xs n (omega (arith, lt))

abbrev struct_of : ℕ → HeapType
struct_of n = Struct (record { 0 = n })

-- there is no struct past the last item
pub struct_past : (p : ProgramText) (t : Directory) (index : ℕ) → IsDirectory p t → length t.before.now ≤ index → None ≡ option_map (λ i. struct_of (structs_before p.items index)) (slice_get p.items index)
struct_past p t index h past =
    let long = ap length h.before ∙ counts_long p.items in
    sym (ap (option_map (λ i. struct_of (structs_before p.items index))) (slice_get_past p.items index (omega (arith, past, long))))

-- the number of a struct is the count of structs before its item
pub struct_found : (p : ProgramText) (t : Directory) (index : ℕ) (b : ItemsBefore) → IsDirectory p t → index < length t.before.now → b ≡ get_or t.before.now index b
    → Some (struct_of b.structs) ≡ option_map (λ i. struct_of (structs_before p.items index)) (slice_get p.items index)
struct_found p t index b h lt is =
    let long = ap length h.before ∙ counts_long p.items in
    ap (λ (x : ItemsBefore). Some (struct_of x.structs)) (count_read p.items t.before.now index b h.before lt is)
    ∙ sym (there (struct_of (structs_before p.items index)) p.items index (omega (arith, lt, long)))
