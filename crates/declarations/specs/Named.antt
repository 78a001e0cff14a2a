-- The first message, field or method of a name.
use Rattle.std.specs.Prelude.{ℕ, List, map, take, drop, codes, if◌then◌else◌, Option, None, option_and_then, slice_get}
use Rattle.source.specs.declared.token.Span.{Span}
use Rattle.declarations.specs.Declarations.{first_among, messages_of, names_of_messages}
use Rattle.tables.specs.Firsts.{first_of}
use Rattle.tables.specs.Words.{words_at, same_word}
use Rattle.tree.specs.Trees.{ContractTree, MessageTree, StructTree, ClassTree, MethodTree}
use Rattle.tree.specs.declared.class as made

-- the first message of a contract with this name
abbrev pub message_written : List ℕ → ContractTree → List ℕ → Option MessageTree
message_written text c word =
    option_and_then (slice_get (messages_of c)) (first_of (words_at text (names_of_messages (messages_of c))) word)

-- the message that a word like `SendM` sends
abbrev pub sent_message : List ℕ → ContractTree → List ℕ → Option MessageTree
sent_message text c word = if same_word (take 4 word) (codes "Send") then message_written text c (drop 4 word) else None

-- the first field of a struct with this name
abbrev pub field_named : List ℕ → StructTree → Span → Option made.Field.Field
field_named text s name = option_and_then (slice_get s.fields) (first_among text (map (λ f. f.name) s.fields) name)

-- the first method of a class with this name
abbrev pub method_named : List ℕ → ClassTree → Span → Option MethodTree
method_named text c name = option_and_then (slice_get c.methods) (first_among text (map (λ m. m.name) c.methods) name)
