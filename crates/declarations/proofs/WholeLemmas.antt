-- A resolved contract is whole if each name in its edges is declared.
use Rattle.std.proofs.Common.{◌≡◌, ℕ, ◌+◌, ◌<◌, ◌≤◌, List, [], ◌∷◌, length, map, take, Option, Some, None, true, sym, refl, ap, ◌∙◌, subst, arith, ⊎_elim}
use Rattle.std.specs.Prelude.{All, Contains, is_some}
use Rattle.std.specs.List.{flat_map}
use Rattle.std.specs.Option.{option_map_or}
use Rattle.std.proofs.lemmas.Bool.{cases_Bool, cond-false}
use Rattle.std.proofs.lemmas.List.{get_or-map, length-map}
use Rattle.std.proofs.lemmas.List.Elements.{All-nil, All-cons, All-head, All-tail, All-contains}
use Rattle.std.proofs.lemmas.List.Folds.{length-flat_map-take}
use Rattle.std.proofs.lemmas.List.Quantifiers.{position-Some}
use Rattle.lemmas.proofs.Lists.{nil_left, nil_right}
use Rattle.source.specs.declared.token.Span.{Span}
use Rattle.tree.specs.Trees.{ContractTree, Empty, MessageTree, PathTree, StateTree, contracts_of}
use Rattle.tree.specs.declared.contract as tree
use Rattle.declarations.specs.Declarations.{counted_in_state, counted_states, first_among, is_declared, messages_of, names_of_messages, names_of_states, paths_of, states_of, unnamed_of}
use Rattle.declarations.specs.ContractMistakes.{contract_mistakes, path_mistakes, state_mistakes}
use Rattle.declarations.specs.declared.mistake.Mistake.TheVariants.{Unknown}
use Rattle.declarations.specs.ItemMistakes.{contracts_mistakes}
use Rattle.declarations.specs.Listed.{asked_message, asked_name, asked_state}
use Rattle.declarations.specs.declared.mistake.NameSort.{NameSort}
use Rattle.declarations.specs.declared.mistake.NameSort.TheVariants as sort
use Rattle.declarations.specs.Meant.{path_left}
use Rattle.program.specs.Parts.{IsWhole, contract_parts, ContractModel, contract_model}
use Rattle.declarations.specs.Program.{ProgramText}
use Rattle.declarations.specs.Resolution.{Meanings, counted_in, edges_from, message_count, message_meant, numbered_message, numbered_state, path_edges, paths_edges, resolved_contract, resolved_contracts, state_count, state_meant}
use Rattle.tables.specs.Words.{same_word, word_at, words_at}
use Rattle.program.specs.declared.contract.Contract.{Contract}
use Rattle.program.specs.declared.contract.Edge.{Edge}
use Rattle.program.specs.declared.limits.TheConstants.{MOST_STATES}
use Rattle.program.specs.declared.number.MessageId.{MessageId}
use Rattle.program.specs.declared.number.StateId.{StateId}
use Rattle.declarations.proofs.BehindLemmas.{nothing_in}
use Rattle.declarations.proofs.MeantLemmas.{as_counted, path_is}
use Rattle.declarations.proofs.NumberLemmas.{Among, all_behind, all_numbered, among_numbers, once_numbered, consecutive_from_first, consecutive_numbered}
use Rattle.declarations.proofs.ReadyLemmas.{clean_edges, contracts_clean, states_few}

-- a name without mistakes is among the declared ones
pub record Declared (text : List ℕ) (names : List Span) (name : Span) : Type 0 where
  pub index : ℕ
  pub found : first_among text names name ≡ Some index
  pub within : index < length names

declared_at : (text : List ℕ) (names : List Span) (name : Span) (o : Option ℕ) → first_among text names name ≡ o → is_some o ≡ true → Declared text names name
declared_at text names name None is there = cc
declared_at text names name (Some k) is there =
    let below = (position-Some (same_word (word_at text name)) (words_at text names) k [] is).0 in
    let size = length-map names (word_at text) in
    record { index = k; found = is; within = omega (arith, below, size) }

declared : (s : NameSort) (text : List ℕ) (names : List Span) (name : Span) → asked_name s text names name ≡ [] → Declared text names name
declared s text names name none =
    ⊎_elim
    (λ there. declared_at text names name (first_among text names name) refl there)
    (λ missing. let found : Unknown name s ∷ [] ≡ [] = sym (cond-false (is_declared text names name) [] (Unknown name s ∷ []) missing) ∙ none in cc)
    (cases_Bool (is_declared text names name))

message_is : (text : List ℕ) (first : ℕ) (messages : List MessageTree) (name : Span) → asked_message text (names_of_messages messages) name ≡ [] → Among first (length messages) (message_meant text first messages name)
message_is text first messages name none =
    let here = declared (sort.Message None) text (names_of_messages messages) name none in
    let value = ap (λ o. option_map_or (λ k. first + k) o 0) here.found in
    let size = length-map messages (λ m. m.name) in
    let within = here.within in
    record { low = omega (arith, value); high = omega (arith, value, within, size) }

state_is : (text : List ℕ) (first : ℕ) (states : List StateTree) (name : Span) → asked_state text (names_of_states states) name ≡ [] → Among first (length (counted_states states)) (state_meant text first states name)
state_is text first states name none =
    let here = declared (sort.State None) text (names_of_states states) name none in
    let value = ap (λ o. option_map_or (λ k. first + length (counted_states (take k states))) o 0) here.found in
    let size = length-map states (λ s. s.name) in
    let within = here.within in
    let front = length-flat_map-take counted_in_state states here.index (record { name = name; body = Empty }) (omega (arith, within, size)) in
    record { low = omega (arith, value); high = omega (arith, value, front) }

-- the states of an edge are among the n from the number s on, and its message among the k from m on
pub record IsAmong (s n m k : ℕ) (e : Edge) : Type 0 where
  pub from : Among s n e.from.0
  pub to : Among s n e.to.0
  pub message : Among m k e.message.0

all_left : (means : Meanings) (s n m k from to : ℕ) (e : tree.Edge.Edge) (others : List tree.Edge.Edge) (target : Span) → Among s n from → s ≤ to → to + length others ≤ s + n → Among s n (means.state target)
    → Among m k (means.message e.message) → All (λ o. Among m k (means.message o.message)) others → All (IsAmong s n m k) (path_left means from to e others target)
all_left means s n m k from to e [] target here low room last message rest =
    All-cons (IsAmong s n m k) _ [] (record { from = here; to = last; message = message }) (All-nil (IsAmong s n m k))
all_left means s n m k from to e (o ∷ others) target here low room last message rest =
    let known = λ (x : tree.Edge.Edge). Among m k (means.message x.message) in
    let next : Among s n to = record { low = low; high = omega (arith, room) } in
    All-cons (IsAmong s n m k) _ (path_left means to (to + 1) o others target) (record { from = here; to = next; message = message })
    (all_left means s n m k to (to + 1) o others target next (omega (arith, low)) (omega (arith, room)) last (All-head known o others rest) (All-tail known o others rest))

others_known : (text : List ℕ) (m : ℕ) (messages : List MessageTree) (others : List tree.Edge.Edge) → flat_map (λ e. asked_message text (names_of_messages messages) e.message) others ≡ []
    → All (λ (o : tree.Edge.Edge). Among m (length messages) (message_meant text m messages o.message)) others
others_known text m messages [] none = All-nil (λ (o : tree.Edge.Edge). Among m (length messages) (message_meant text m messages o.message))
others_known text m messages (o ∷ others) none =
    let asked = asked_message text (names_of_messages messages) o.message in
    All-cons (λ (x : tree.Edge.Edge). Among m (length messages) (message_meant text m messages x.message)) o others
    (message_is text m messages o.message (nil_left asked _ none)) (others_known text m messages others (nil_right asked _ none))

abbrev means_in : List ℕ → ℕ → ℕ → List MessageTree → List StateTree → Meanings
means_in text m s messages states = record { message = message_meant text m messages; state = state_meant text s states }

path_known : (text : List ℕ) (m s : ℕ) (messages : List MessageTree) (states : List StateTree) (from to : ℕ) (p : PathTree) → path_mistakes text (names_of_messages messages) (names_of_states states) p ≡ []
    → s ≤ from → from < to → to + length p.others ≤ s + length (counted_states states)
    → All (IsAmong s (length (counted_states states)) m (length messages)) (path_edges (means_in text m s messages states) from to p)
path_known text m s messages states from to p none low next room =
    let asked = asked_message text (names_of_messages messages) in
    let n = length (counted_states states) in
    let behind = nil_right (asked p.first.message) _ none in
    let others = flat_map (λ e. asked e.message) p.others in
    subst (All (IsAmong s n m (length messages))) (sym (path_is (means_in text m s messages states) from to p.first p.others p.target))
    (all_left (means_in text m s messages states) s n m (length messages) from to p.first p.others p.target
    (record { low = low; high = omega (arith, next, room) }) (omega (arith, low, next)) room
    (state_is text s states p.target (nil_right others _ behind))
    (message_is text m messages p.first.message (nil_left (asked p.first.message) _ none))
    (others_known text m messages p.others (nil_left others _ behind)))

edges_known : (text : List ℕ) (m s : ℕ) (messages : List MessageTree) (states : List StateTree) → flat_map (state_mistakes text (names_of_messages messages) (names_of_states states)) states ≡ []
    → All (IsAmong s (length (counted_states states)) m (length messages)) (edges_from (means_in text m s messages states) s states)
edges_known text m s messages states none =
    let means = means_in text m s messages states in
    let findings = path_mistakes text (names_of_messages messages) (names_of_states states) in
    let n = length (counted_states states) in
    let known = IsAmong s n m (length messages) in
    all_behind known (λ before t. paths_edges means (s + length (counted_states before)) (paths_of t.body)) [] states
    (λ i t lt is.
    let front = length-flat_map-take counted_in_state states i t lt in
    let here = ap (λ x. length (counted_in_state x)) is in
    let from = s + length (counted_states (take i states)) in
    let paths = paths_of t.body in
    let clean : flat_map findings paths ≡ [] = ap (state_mistakes text (names_of_messages messages) (names_of_states states)) is ∙ nothing_in (state_mistakes text (names_of_messages messages) (names_of_states states)) states i t lt none in
    all_behind known (λ before p. path_edges means from (from + 1 + length (flat_map unnamed_of before)) p) [] paths
    (λ j p within same.
    let room = length-flat_map-take unnamed_of paths j p within in
    let more = ap (λ x. length (unnamed_of x)) same in
    let size = length-map p.others (λ e. e.message) in
    path_known text m s messages states from (from + 1 + length (flat_map unnamed_of (take j paths))) p (ap findings same ∙ nothing_in findings paths j p within clean)
    (omega arith) (omega arith) (omega (arith, front, here, room, more, size))))

-- A contract that has a state, and whose edges name only what it declares, is whole,
-- if its states and those before it are no more than the limit.
whole_of : (text : List ℕ) (m s : ℕ) (name : Span) (messages : List MessageTree) (states : List StateTree) → 0 < length (counted_states states)
    → s + length (counted_states states) ≤ MOST_STATES
    → flat_map (state_mistakes text (names_of_messages messages) (names_of_states states)) states ≡ [] → IsWhole (resolved_contract text m s name messages states).parts
whole_of text m s name messages states some few none =
    let counted = flat_map (counted_in text) states in
    let many = as_counted text states in
    let edges = edges_from (means_in text m s messages states) s states in
    let known = IsAmong s (length (counted_states states)) m (length messages) in
    let edge = λ (e : Edge) (h : Contains edges e). All-contains known edges e (edges_known text m s messages states none) h in
    let state_id : ℕ → StateId = λ n. record { 0 = n } in
    let message_id : ℕ → MessageId = λ n. record { 0 = n } in
    let state = λ (n : ℕ) (h : Among s (length (counted_states states)) n). among_numbers numbered_state (λ t. t.id) state_id (λ k y. refl) s counted n (subst (λ l. Among s l n) (sym many) h) in
    let message = λ (n : ℕ) (h : Among m (length messages) n). among_numbers (numbered_message text) (λ t. t.id) message_id (λ k y. refl) m messages n h in
    let below : (n : ℕ) → Among s (length counted) n → n < MOST_STATES = λ n h. let high = h.high in omega (arith, high, many, few) in
    record {
      first = state s (record { low = omega arith; high = omega (arith, some) });
      from = λ e h. state e.from.0 (edge e h).from;
      to = λ e h. state e.to.0 (edge e h).to;
      message = λ e h. message e.message.0 (edge e h).message;
      states_once = once_numbered numbered_state (λ t. t.id) state_id (λ i. i.0) (λ k y. refl) (λ k. refl) s counted;
      messages_once = once_numbered (numbered_message text) (λ t. t.id) message_id (λ i. i.0) (λ k y. refl) (λ k. refl) m messages;
      states_consecutive = consecutive_numbered numbered_state (λ t. t.id) state_id (λ i. i.0) (λ k y. refl) (λ k. refl) s counted;
      messages_consecutive = consecutive_from_first m _ (consecutive_numbered (numbered_message text) (λ t. t.id) message_id (λ i. i.0) (λ k y. refl) (λ k. refl) m messages);
      numbered = all_numbered (λ q. q.0 < MOST_STATES) numbered_state (λ t. t.id) state_id (λ k y. refl) s counted below;
    }

all_whole : (p : ProgramText) (contracts : List ContractTree) → flat_map (contract_mistakes p) contracts ≡ []
    → state_count contracts ≤ MOST_STATES → All (λ s. IsWhole s.parts) (resolved_contracts p.text contracts)
all_whole p contracts none few =
    let text = p.text in
    let whole = λ (s : ContractModel). IsWhole s.parts in
    let seen = λ (before : List ContractTree) (c : ContractTree). resolved_contract text (message_count before) (state_count before) c.name (messages_of c) (states_of c) in
    all_behind whole (λ before c. seen before c ∷ []) [] contracts
    (λ i c lt is.
    let before = take i contracts in
    let room = length-flat_map-take (λ k. counted_states (states_of k)) contracts i c lt in
    let here = ap (λ k. length (counted_states (states_of k))) is in
    let within : state_count before + length (counted_states (states_of c)) ≤ MOST_STATES = omega (arith, room, here, few) in
    All-cons whole (seen before c) []
    (whole_of text (message_count before) (state_count before) c.name (messages_of c) (states_of c) (omega arith) within
    (clean_edges p c (ap (contract_mistakes p) is ∙ nothing_in (contract_mistakes p) contracts i c lt none))) (All-nil whole))

-- contracts without mistakes are whole
pub clean_whole : (p : ProgramText) → contracts_mistakes p ≡ [] → All (λ s. IsWhole s.parts) (resolved_contracts p.text (contracts_of p.items))
clean_whole p nothing = all_whole p (contracts_of p.items) (contracts_clean p nothing) (states_few p nothing)

-- the same for contracts in memory
pub seen_whole : (p : ProgramText) (resolved : List Contract) → map contract_model resolved ≡ resolved_contracts p.text (contracts_of p.items)
    → contracts_mistakes p ≡ [] → All (λ c. IsWhole (contract_parts c)) resolved
seen_whole p resolved are nothing = λ k d lt.
    let size = length-map resolved contract_model in
    let all = subst (All (λ s. IsWhole s.parts)) (sym are) (clean_whole p nothing) in
    subst (λ s. IsWhole s.parts) (get_or-map contract_model resolved k d (contract_model d) lt) (all k (contract_model d) (omega (arith, lt, size)))
