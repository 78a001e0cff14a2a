-- A program has no more messages than symbols that spell it.
use Rattle.std.proofs.Common.{◌≤◌, List, [], ◌∷◌, ◌++◌, length, ap, arith}
use Rattle.std.specs.List.{flat_map}
use Rattle.std.proofs.lemmas.List.{length-append}
use Rattle.source.specs.declared.kind.Kind.TheVariants.{CloseBrace}
use Rattle.tree.specs.Grammar as grammar
use Rattle.tree.specs.Programs as programs
use Rattle.tree.specs.Spelling.{optional, token_at, word}
use Rattle.std.proofs.lemmas.Grind.{flat_map-append}
use Rattle.tree.specs.Trees.{ContractTree, DefinitionTree, Contract, Struct, Class, ItemTree, MemberTree, Message, MessageTree, State, contract_of, contracts_of, program_tree}
use Rattle.tree.specs.declared.item as tree
use Rattle.declarations.specs.Declarations.{message_among, messages_of}
use Rattle.declarations.specs.Resolution.{message_count}

listed_messages : (messages : List MessageTree) → length messages ≤ length (flat_map grammar.message messages)
listed_messages [] = omega arith
listed_messages (m ∷ messages) =
    let both = length-append (grammar.message m) (flat_map grammar.message messages) in
    let rest = listed_messages messages in
    omega (arith, both, rest)

among_members : (members : List MemberTree) → length (flat_map message_among members) ≤ length (flat_map grammar.member members)
among_members [] = omega arith
among_members (Message m ∷ members) =
    let both = length-append (grammar.message m) (flat_map grammar.member members) in
    let rest = among_members members in
    omega (arith, both, rest)
among_members (State s ∷ members) =
    let both = length-append (grammar.state s) (flat_map grammar.member members) in
    let rest = among_members members in
    omega (arith, both, rest)

in_contract : (c : ContractTree) → length (messages_of c) ≤ length (grammar.contract c)
in_contract c =
    let close = token_at CloseBrace c.close in
    let members = flat_map grammar.member c.members in
    let first = listed_messages c.messages in
    let rest = among_members c.members in
    let all = length-append c.messages (flat_map message_among c.members) in
    let a = length-append (flat_map grammar.message c.messages) (grammar.state c.state ++ (members ++ close)) in
    let b = length-append (grammar.state c.state) (members ++ close) in
    let d = length-append members close in
    omega (arith, first, rest, all, a, b, d)

in_definition : (d : DefinitionTree) → length (flat_map messages_of (contract_of d)) ≤ length (programs.definition d)
in_definition (Contract c) =
    let here = in_contract c in
    let end = length-append (messages_of c) [] in
    omega (arith, here, end)
in_definition (Struct s) = omega arith
in_definition (Class c) = omega arith

in_items : (items : List ItemTree) → length (flat_map messages_of (contracts_of items)) ≤ length (flat_map programs.item items)
in_items [] = omega arith
in_items (i ∷ items) =
    let here = in_definition i.definition in
    let rest = in_items items in
    let front = length-append (optional (λ a. word (grammar.access_word a)) i.access) (programs.definition i.definition) in
    let both = ap length (flat_map-append messages_of (contract_of i.definition) (contracts_of items)) in
    let messages = length-append (flat_map messages_of (contract_of i.definition)) (flat_map messages_of (contracts_of items)) in
    let spelled = length-append (programs.item i) (flat_map programs.item items) in
    omega (arith, here, rest, front, both, messages, spelled)

-- each message has its own symbol
pub few_messages : (t : tree.Tree.Tree) → message_count (contracts_of (program_tree t)) ≤ length (programs.program (program_tree t))
few_messages t = in_items (program_tree t)
