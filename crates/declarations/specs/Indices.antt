-- Indices of contracts, messages and states, found by name.
use Rattle.std.specs.Prelude.{ℕ, List, length, take, drop, codes, if◌then◌else◌, Option, None, option_map, option_and_then, slice_get}
use Rattle.source.specs.declared.token.Span.{Span}
use Rattle.tree.specs.Trees.{MessageTree, StateTree}
use Rattle.declarations.specs.Declarations.{messages_of, states_of, names_of_messages, names_of_states, counted_states, first_among}
use Rattle.tables.specs.Firsts.{first_of}
use Rattle.declarations.specs.Program.{ProgramText, as_contract, item_at, contract_named}
use Rattle.tables.specs.Words.{word_at, words_at, same_word}

-- the index of the item that is the contract of this name
abbrev pub contract_index : ProgramText → Span → Option ℕ
contract_index p name = option_map (λ c. c.0) (contract_named p name)

-- the index of the first message of this name in the contract that is item `n`
abbrev pub message_index : ProgramText → ℕ → List ℕ → Option ℕ
message_index p n word =
    option_and_then (λ c. first_of (words_at p.text (names_of_messages (messages_of c.1))) word) (item_at as_contract p n)

-- the same for the message that a word like `SendM` sends
abbrev pub sent_index : ProgramText → ℕ → Span → Option ℕ
sent_index p n word = if same_word (take 4 (word_at p.text word)) (codes "Send") then message_index p n (drop 4 (word_at p.text word))
    else None

-- the message at an index in the contract that is item `n`
abbrev pub message_at : ProgramText → ℕ → ℕ → Option MessageTree
message_at p n k = option_and_then (λ c. slice_get (messages_of c.1) k) (item_at as_contract p n)

-- the index of the first state of this name; unnamed states are counted
abbrev pub index_among : List ℕ → List StateTree → Span → Option ℕ
index_among text states name = option_map (λ k. length (counted_states (take k states))) (first_among text (names_of_states states) name)

-- the same in the contract that is item `n`
abbrev pub state_index : ProgramText → ℕ → Span → Option ℕ
state_index p n name = option_and_then (λ c. index_among p.text (states_of c.1) name) (item_at as_contract p n)
