-- The contracts of a program by their indices among the items.
use Rattle.std.proofs.Common.{◌≡◌, ℕ, zero, suc, ◌+◌, Bool, true, false, List, [], ◌∷◌, ◌++◌, length, take, drop, ap, refl, subst, sym, ◌∙◌, append_assoc, arith}
use Rattle.std.proofs.lemmas.Grind.{flat_map-append}
use Rattle.std.proofs.lemmas.Option.{same_Some, slice_get-map}
use Rattle.std.specs.List.{flat_map}
use Rattle.std.specs.Option.{option_map_or}
use Rattle.std.specs.Prelude.{Option, None, Some, codes, if◌then◌else◌, option_and_then, option_map, slice_get}
use Rattle.source.specs.declared.token.Span.{Span}
use Rattle.tree.specs.Trees.{Class, Contract, ContractTree, DefinitionTree, ItemTree, MessageTree, Struct, contract_of, contracts_of}
use Rattle.declarations.specs.Declarations.{messages_of, names_of_messages, states_of}
use Rattle.tables.specs.Firsts.{first_of}
use Rattle.program.specs.Parts.{StateModel, ContractModel}
use Rattle.declarations.specs.Indices.{message_at, message_index, state_index}
use Rattle.declarations.specs.Program.{ProgramText, as_contract, item_at}
use Rattle.declarations.specs.Resolution.{each_behind, message_count, messages_from, named_state, numbered_message, numbered_state, resolved_contract, state_count}
use Rattle.declarations.specs.Named.{message_written, sent_message}
use Rattle.tables.specs.Words.{same_word, word_at, words_at}
use Rattle.program.specs.declared.number.MessageId.{MessageId}
use Rattle.resolving.specs.Brought.{payload_types, messages_told}
use Rattle.resolving.specs.Counts.{contracts_before}
use Rattle.resolving.specs.Types.{contract_at, state_of}
use Rattle.resolving.specs.Messages.{Meant, message_named, message_number, message_sent, message_there}
use Rattle.program.specs.WellFormed.{IsStateOf, IsMessageOf}
use Rattle.wellformed.proofs.PlaceLemmas.{slice_behind, slice_front}

-- what an element of a list adds, given the elements before it
record Adds {X Y : Type 0} (adds : List X → X → Y) (all : List X) (x : X) (o : Option Y) : Type 0 where
  before : List X
  rest : List X
  split : all ≡ before ++ x ∷ rest
  is : o ≡ Some (adds before x)

added_at : {X Y : Type 0} (adds : List X → X → Y) (before xs : List X) (k : ℕ) (x : X) → slice_get xs k ≡ Some x → Adds adds (before ++ xs) x (slice_get (each_behind (λ b y. adds b y ∷ []) before xs) k)
added_at adds before [] k x is = cc
added_at adds before (y ∷ xs) zero x is = record { before = before; rest = xs; split = ap (λ z. before ++ z ∷ xs) (same_Some y x is); is = ap (λ z. Some (adds before z)) (same_Some y x is) }
added_at adds before (y ∷ xs) (suc k) x is =
    let later = added_at adds (before ++ y ∷ []) xs k x is in
    record { before = later.before; rest = later.rest; split = sym (append_assoc before (y ∷ []) xs) ∙ later.split; is = later.is }

-- each added thing comes from an element
record AddedBy {X Y : Type 0} (adds : List X → X → Y) (y : Y) : Type 0 where
  before : List X
  by : X
  is : y ≡ adds before by

added_by : {X Y : Type 0} (adds : List X → X → Y) (before xs : List X) (k : ℕ) (y : Y) → slice_get (each_behind (λ b x. adds b x ∷ []) before xs) k ≡ Some y → AddedBy adds y
added_by adds before [] k y is = cc
added_by adds before (x ∷ xs) zero y is = record { before = before; by = x; is = sym (same_Some (adds before x) y is) }
added_by adds before (x ∷ xs) (suc k) y is = added_by adds (before ++ x ∷ []) xs k y is

-- a contract with its names resolved, given the contracts before it
abbrev pub seen : List ℕ → List ContractTree → ContractTree → ContractModel
seen text before c = resolved_contract text (message_count before) (state_count before) c.name (messages_of c) (states_of c)

passed_over : (d : DefinitionTree) (front rest : List ContractTree) → slice_get (contract_of d ++ rest) (length (contract_of d ++ front)) ≡ slice_get rest (length front)
passed_over (Contract c) front rest = refl
passed_over (Struct s) front rest = refl
passed_over (Class c) front rest = refl

defined_here : (d : DefinitionTree) (m : ℕ) (y : ℕ × ContractTree) (rest : List ContractTree) → option_map (λ x. (m, x)) (as_contract d) ≡ Some y → slice_get (contract_of d ++ rest) 0 ≡ Some y.1
defined_here (Contract x) m y rest is = ap (option_map (λ z. z.1)) is
defined_here (Struct s) m y rest is = cc
defined_here (Class s) m y rest is = cc

-- the contract of an item is at its index among the contracts
counted_there : (items : List ItemTree) (n m : ℕ) (y : ℕ × ContractTree) → option_and_then (λ i. option_map (λ x. (m, x)) (as_contract i.definition)) (slice_get items n) ≡ Some y
    → slice_get (contracts_of items) (contracts_before items n) ≡ Some y.1
counted_there [] n m y is = cc
counted_there (i ∷ items) zero m y is = defined_here i.definition m y (contracts_of items) is
counted_there (i ∷ items) (suc n) m y is = passed_over i.definition (contracts_of (take n items)) (contracts_of items) ∙ counted_there items n m y is

-- the contract that is the item at this index, with its names resolved
pub record IsContractAt (p : ProgramText) (n : ℕ) (c : ContractTree) : Type 0 where
  pub before : List ContractTree
  pub rest : List ContractTree
  pub split : contracts_of p.items ≡ before ++ c ∷ rest
  pub is : contract_at p n ≡ Some (seen p.text before c)

pub contract_is_at : (p : ProgramText) (n : ℕ) (c : ContractTree) → item_at as_contract p n ≡ Some (n, c) → IsContractAt p n c
contract_is_at p n c there =
    let at : Adds (seen p.text) (contracts_of p.items) c (contract_at p n) = added_at (seen p.text) [] (contracts_of p.items) (contracts_before p.items n) c (counted_there p.items n n (n, c) there) in
    record { before = at.before; rest = at.rest; split = at.split; is = at.is }

-- the first state of a contract is one of its states
first_state_of : (text : List ℕ) (before : List ContractTree) (c : ContractTree) → IsStateOf (seen text before c) (seen text before c).parts.first
first_state_of text before c = record { index = 0; state = numbered_state (state_count before) (named_state text c.state.name); there = refl; is = refl }

state_at : (r : ContractModel) (index : ℕ) (o : Option StateModel) → slice_get r.parts.states index ≡ o → IsStateOf r r.parts.first → IsStateOf r (option_map_or (λ s. s) (option_map (λ s. s.id) o) r.parts.first)
state_at r place None is first = first
state_at r index (Some s) is first = record { index = index; state = s; there = is; is = refl }

state_placed : (r : ContractModel) (o : Option ℕ) → IsStateOf r r.parts.first → IsStateOf r (option_map_or (λ s. s) (option_map (λ s. s.id) (option_and_then (slice_get r.parts.states) o)) r.parts.first)
state_placed r None first = first
state_placed r (Some index) first = state_at r index (slice_get r.parts.states index) refl first

state_meant : (p : ProgramText) (n : ℕ) (r : ContractModel) (state : Option Span) → IsStateOf r r.parts.first → IsStateOf r (state_of p n r state)
state_meant p n r None first = first
state_meant p n r (Some name) first = state_placed r (state_index p n name) first

-- the state of an endpoint's type is one of its contract
pub state_there : (p : ProgramText) (n : ℕ) (r : ContractModel) (state : Option Span) → contract_at p n ≡ Some r → IsStateOf r (state_of p n r state)
state_there p n r state is =
    let added : AddedBy (seen p.text) r = added_by (seen p.text) [] (contracts_of p.items) (contracts_before p.items n) r is in
    state_meant p n r state (subst (λ c. IsStateOf c c.parts.first) (sym added.is) (first_state_of p.text added.before added.by))

-- a look-up returns this message of the contract, with its number
pub record AnswersMessage (p : ProgramText) (n : ℕ) (o : Option Meant) (m : MessageTree) : Type 0 where
  pub meant : Meant
  pub is : o ≡ Some meant
  pub message : meant.message ≡ m
  pub of : (r : ContractModel) → contract_at p n ≡ Some r → IsMessageOf r meant.id
  pub brings : slice_get (messages_told p) meant.id.0 ≡ Some (payload_types p m)

-- the payload of a message is at its number
brought_there : (p : ProgramText) (n k : ℕ) (c : ContractTree) (m : MessageTree) → (at : IsContractAt p n c) → slice_get (messages_of c) k ≡ Some m
    → slice_get (messages_told p) (message_count at.before + k) ≡ Some (payload_types p m)
brought_there p n k c m at there =
    let rest = flat_map messages_of at.rest in
    let all = ap (flat_map messages_of) at.split ∙ flat_map-append messages_of at.before (c ∷ at.rest) in
    let found = ap (λ ms. slice_get ms (message_count at.before + k)) all ∙ slice_behind (flat_map messages_of at.before) (messages_of c ++ rest) k ∙ slice_front (messages_of c) rest k m there in
    slice_get-map (payload_types p) (flat_map messages_of (contracts_of p.items)) (message_count at.before + k) ∙ ap (option_map (payload_types p)) found

-- a message at its index among those of its contract
record IsNumbered (text : List ℕ) (first : ℕ) (messages : List MessageTree) (k : ℕ) (m : MessageTree) : Type 0 where
  is : slice_get (messages_from text first messages) k ≡ Some (numbered_message text (first + k) m)

numbered_at : (text : List ℕ) (first : ℕ) (messages : List MessageTree) (k : ℕ) (m : MessageTree) → slice_get messages k ≡ Some m → IsNumbered text first messages k m
numbered_at text first [] k m is = cc
numbered_at text first (x ∷ messages) zero m is =
    let here : first ≡ first + 0 = omega arith in
    record { is = ap (λ y. Some (numbered_message text first y)) (same_Some x m is) ∙ ap (λ y. Some (numbered_message text y m)) here }
numbered_at text first (x ∷ messages) (suc k) m is =
    let rest : IsNumbered text (first + 1) messages k m = numbered_at text (first + 1) messages k m is in
    let on : (first + 1) + k ≡ first + suc k = omega arith in
    record { is = rest.is ∙ ap (λ y. Some (numbered_message text y m)) on }

abbrev meant_as : MessageTree → MessageId → Meant
meant_as m id = record { id = id; message = m }

message_is_there : (p : ProgramText) (n : ℕ) (c : ContractTree) (k : ℕ) (m : MessageTree) → item_at as_contract p n ≡ Some (n, c) → slice_get (messages_of c) k ≡ Some m → AnswersMessage p n (message_there p n k) m
message_is_there p n c k m there at =
    let contract : IsContractAt p n c = contract_is_at p n c there in
    let first = message_count contract.before in
    let numbered : IsNumbered p.text first (messages_of c) k m = numbered_at p.text first (messages_of c) k m at in
    let id : MessageId = record { 0 = first + k } in
    let resolved : ContractModel = seen p.text contract.before c in
    let numbers : message_number p n k ≡ Some id =
    ap (λ o. option_map (λ x. x.id) (option_and_then (λ (x : ContractModel). slice_get x.parts.messages k) o)) contract.is ∙ ap (option_map (λ x. x.id)) numbered.is in
    let message_is : message_at p n k ≡ Some m = ap (option_and_then (λ x. slice_get (messages_of x.1) k)) there ∙ at in
    let its_own : IsMessageOf resolved id = record { index = k; message = numbered_message p.text (first + k) m; there = numbered.is; is = refl } in
    record {
      meant = meant_as m id;
      is = ap (option_and_then (λ x. option_map (meant_as x) (message_number p n k))) message_is ∙ ap (option_map (meant_as m)) numbers;
      message = refl;
      of = λ r is. subst (λ x. IsMessageOf x id) (same_Some resolved r (sym contract.is ∙ is)) its_own;
      brings = brought_there p n k c m contract at;
    }

message_placed : (p : ProgramText) (n : ℕ) (c : ContractTree) (o : Option ℕ) (m : MessageTree) → item_at as_contract p n ≡ Some (n, c) → option_and_then (slice_get (messages_of c)) o ≡ Some m
    → AnswersMessage p n (option_and_then (message_there p n) o) m
message_placed p n c None m there is = cc
message_placed p n c (Some k) m there is = message_is_there p n c k m there is

message_found : (p : ProgramText) (n : ℕ) (c : ContractTree) (word : List ℕ) (m : MessageTree) → item_at as_contract p n ≡ Some (n, c) → message_written p.text c word ≡ Some m
    → AnswersMessage p n (option_and_then (message_there p n) (message_index p n word)) m
message_found p n c word m there written =
    subst (λ o. AnswersMessage p n (option_and_then (message_there p n) o) m)
    (sym (ap (option_and_then (λ x. first_of (words_at p.text (names_of_messages (messages_of x.1))) word)) there))
    (message_placed p n c (first_of (words_at p.text (names_of_messages (messages_of c))) word) m there written)

pub message_awaited : (p : ProgramText) (n : ℕ) (c : ContractTree) (name : Span) (m : MessageTree) → item_at as_contract p n ≡ Some (n, c)
    → message_written p.text c (word_at p.text name) ≡ Some m → AnswersMessage p n (message_named p n name) m
message_awaited p n c name m there written = message_found p n c (word_at p.text name) m there written

message_begun : (p : ProgramText) (n : ℕ) (c : ContractTree) (word : List ℕ) (m : MessageTree) (b : Bool) → item_at as_contract p n ≡ Some (n, c) → (if b then message_written p.text c word else None) ≡ Some m
    → AnswersMessage p n (option_and_then (message_there p n) (if b then message_index p n word else None)) m
message_begun p n c word m true there sent = message_found p n c word m there sent
message_begun p n c word m false there sent = cc

pub message_given : (p : ProgramText) (n : ℕ) (c : ContractTree) (word : Span) (m : MessageTree) → item_at as_contract p n ≡ Some (n, c)
    → sent_message p.text c (word_at p.text word) ≡ Some m → AnswersMessage p n (message_sent p n word) m
message_given p n c word m there sent =
    message_begun p n c (drop 4 (word_at p.text word)) m (same_word (take 4 (word_at p.text word)) (codes "Send")) there sent
