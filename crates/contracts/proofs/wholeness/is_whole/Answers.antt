use Rattle.std.proofs.Common.{◌≡◌, ◌∙◌, ℕ, ◌<◌, List, length, map, get_or, ap, sym, subst}
use Rattle.std.specs.Prelude.{All, Contains, string_bytes}
use Rattle.std.specs.List.{range_with_len}
use Rattle.std.proofs.lemmas.Bool.{and_parts, and_from}
use Rattle.std.proofs.lemmas.List.Elements.{All-contains, All-map}
use Rattle.program.specs.declared.contract.Edge.{Edge}
use Rattle.program.specs.declared.limits.TheConstants.{MOST_STATES}
use Rattle.program.specs.declared.number.MessageId.{MessageId}
use Rattle.program.specs.declared.number.StateId.{StateId}
use Rattle.contracts.specs.Parts.{AreConsecutive, state_ids, message_ids, contract_parts}
use Rattle.contracts.specs.Positions.{EndsHave, numbers_of}
use Rattle.contracts.proofs.PartLemmas.{all_from, contains_map, state_numbers_are, message_numbers_are}
use Rattle.contracts.proofs.PositionLemmas.{row_is}
use Rattle.contracts.proofs.WholeLemmas.{ids_once, id_in, row_once, unmapped}
use Rattle.contracts.proofs.wholeness.is_whole.Goals as goal
use Rattle.contracts.proofs.wholeness.is_whole.Goals.{After-new-message_list}

abbrev state_of : ℕ → StateId
state_of n = record { 0 = n }

abbrev message_of : ℕ → MessageId
message_of n = record { 0 = n }

abbrev state_number : StateId → ℕ
state_number q = q.0

abbrev message_number : MessageId → ℕ
message_number m = m.0

abbrev states_of : After-new-message_list → List StateId
states_of c = state_ids (contract_parts c.args.contract.now)

abbrev messages_of : After-new-message_list → List MessageId
messages_of c = message_ids (contract_parts c.args.contract.now)

-- the numbers that were read are those of the parts
states_are : (c : After-new-message_list) → c.in_ok-states.states.items ≡ map state_number (states_of c)
states_are c = c.in_ok-states.ensures ∙ ap (map (λ s. s.id.0)) c.deref.ensures.value ∙ sym (state_numbers_are (string_bytes c.args.contract.now.state_names) c.args.contract.now.states.items)

messages_are : (c : After-new-message_list) → c.in_ok-messages.messages.items ≡ map message_number (messages_of c)
messages_are c = c.in_ok-messages.ensures ∙ ap (map (λ m. m.id.0)) c.deref-2.ensures.value ∙ sym (message_numbers_are c.args.contract.now.messages.items)

-- consecutive numbers are listed by the first and their count
states_listed : (c : After-new-message_list) → AreConsecutive c.args.contract.now.first.0 (map state_number (states_of c)) → numbers_of c.new-state_list.result ≡ map state_number (states_of c)
states_listed c group =
    c.new-state_list.ensures ∙ ap (range_with_len c.args.contract.now.first.0) (c.len.ensures ∙ c.in_ok-states.states.ok.0 ∙ ap length (states_are c)) ∙ row_is c.args.contract.now.first.0 (map state_number (states_of c)) group

messages_listed : (c : After-new-message_list) → AreConsecutive c.first_or_0-first_message.result (map message_number (messages_of c)) → numbers_of c.new-message_list.result ≡ map message_number (messages_of c)
messages_listed c group =
    c.new-message_list.ensures ∙ ap (range_with_len c.first_or_0-first_message.result) (c.len-2.ensures ∙ c.in_ok-messages.messages.ok.0 ∙ ap length (messages_are c)) ∙ row_is c.first_or_0-first_message.result (map message_number (messages_of c)) group

first_is : (c : After-new-message_list) → c.first_or_0-first_message.result ≡ get_or (map message_number (messages_of c)) 0 0
first_is c = c.first_or_0-first_message.ensures ∙ ap (λ l. get_or l 0 0) (c.deref-3.ensures.value ∙ messages_are c)

-- a number that a state may have
abbrev Numbered : ℕ → Type 0
Numbered q = q < MOST_STATES

pub returns : goal.returns
returns c =
    let before = (goal.at.returns c).After-new-message_list in
    let edges = c.args.contract.now.edges.items in
    let first = c.args.contract.now.first.0 in
    let states = states_of before in
    let messages = messages_of before in
    let Listed : Edge → Type 0 = EndsHave (numbers_of c.new-state_list.result) (numbers_of c.new-message_list.result) in (
      λ yes.
          let all = and_parts _ _ yes in
          let three = and_parts _ _ all.0 in
          let two = and_parts _ _ three.0 in
          let groups = and_parts _ _ two.0 in
          let state_row = subst (AreConsecutive first) (c.deref-4.ensures.value ∙ states_are before) (c.are_consecutive.ensures.0 groups.0) in
          let message_row = subst (AreConsecutive c.first_or_0-first_message.result) (c.deref-5.ensures.value ∙ messages_are before) (c.are_consecutive-2.ensures.0 groups.1) in
          let listed_states = states_listed before state_row in
          let listed_messages = messages_listed before message_row in
          let each = λ (e : Edge) (h : Contains edges e). All-contains Listed edges e (subst (All Listed) c.deref-6.ensures.value (c.are_listed-listed.ensures.0 two.1)) h in
          let state_in = λ (q : StateId) (h : Contains (numbers_of c.new-state_list.result) q.0). id_in state_number states q (λ a b e. ap state_of e) (subst (λ l. Contains l q.0) listed_states h) in
          let message_in = λ (m : MessageId) (h : Contains (numbers_of c.new-message_list.result) m.0). id_in message_number messages m (λ a b e. ap message_of e) (subst (λ l. Contains l m.0) listed_messages h) in
          record {
            first = state_in c.args.contract.now.first (c.has.ensures.0 three.1);
            from = λ e h. state_in e.from (each e h).from;
            to = λ e h. state_in e.to (each e h).to;
            message = λ e h. message_in e.message (each e h).message;
            states_once = ids_once state_number states (row_once first (map state_number states) state_row);
            messages_once = ids_once message_number messages (row_once c.first_or_0-first_message.result (map message_number messages) message_row);
            states_consecutive = state_row;
            messages_consecutive = subst (λ n. AreConsecutive n (map message_number messages)) (first_is before) message_row;
            numbered = unmapped Numbered state_number states (subst (All Numbered) (c.deref-7.ensures.value ∙ states_are before) (c.are_numbered.ensures.0 all.1));
          },
      λ whole.
          let message_row = subst (λ n. AreConsecutive n (map message_number messages)) (sym (first_is before)) whole.messages_consecutive in
          let listed_states = states_listed before whole.states_consecutive in
          let listed_messages = messages_listed before message_row in
          let groups = and_from _ _ (c.are_consecutive.ensures.1 (subst (AreConsecutive first) (sym (c.deref-4.ensures.value ∙ states_are before)) whole.states_consecutive))
          (c.are_consecutive-2.ensures.1 (subst (AreConsecutive c.first_or_0-first_message.result) (sym (c.deref-5.ensures.value ∙ messages_are before)) message_row)) in
          let state_has = λ (q : StateId) (h : Contains states q). subst (λ l. Contains l q.0) (sym listed_states) (contains_map state_number states q h) in
          let message_has = λ (m : MessageId) (h : Contains messages m). subst (λ l. Contains l m.0) (sym listed_messages) (contains_map message_number messages m h) in
          let each = all_from Listed edges (λ e h. record { from = state_has e.from (whole.from e h); to = state_has e.to (whole.to e h); message = message_has e.message (whole.message e h) }) in
          let numbered = All-map Numbered state_number states whole.numbered in
          and_from _ _
          (and_from _ _ (and_from _ _ groups (c.are_listed-listed.ensures.1 (subst (All Listed) (sym c.deref-6.ensures.value) each))) (c.has.ensures.1 (state_has c.args.contract.now.first whole.first)))
          (c.are_numbered.ensures.1 (subst (All Numbered) (sym (c.deref-7.ensures.value ∙ states_are before)) numbered)),
    )
