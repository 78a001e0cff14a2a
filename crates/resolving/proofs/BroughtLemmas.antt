-- The payload types of messages, message by message.
use Rattle.std.proofs.Common.{◌≡◌, ℕ, ◌+◌, ◌<◌, ◌≤◌, List, [], ◌∷◌, ◌++◌, length, map, take, get_or, sym, ap, ◌∙◌, append_assoc, append-nil, Option, None, Some}
use Rattle.std.specs.Global.{Vec}
use Rattle.std.specs.List.{flat_map}
use Rattle.std.proofs.lemmas.Grind.{flat_map-append}
use Rattle.std.proofs.lemmas.List.{flat_map_more, map-append, take_all, take_more}
use Rattle.lemmas.proofs.Lists.{flat_more}
use Rattle.tree.specs.Trees.{ContractTree, MessageTree, contract_of, contracts_of, definition_tree, item_tree, member_tree}
use Rattle.tree.specs.declared.item.Item.{Item}
use Rattle.tree.specs.declared.contract.Member.{Member}
use Rattle.declarations.specs.Declarations.{message_among, messages_of}
use Rattle.declarations.specs.Program.{ProgramText}
use Rattle.program.specs.declared.types.HeapType.{HeapType}
use Rattle.resolving.specs.Brought.{payload_types, held_listed}
use Rattle.program.specs.Programs.{type_lists}

-- the types of the exchange heap that these hold, in order
abbrev pub all_held : {X : Type 0} → (X → Option HeapType) → List X → List HeapType
all_held holds xs = flat_map (λ x. held_listed (holds x)) xs

held_more : {X : Type 0} (holds : X → Option HeapType) (xs : List X) (i : ℕ) (d : X) → i < length xs
    → all_held holds (take (i + 1) xs) ≡ all_held holds (take i xs) ++ held_listed (holds (get_or xs i d))
held_more holds xs i d lt =
    ap (all_held holds) (take_more xs i d lt) ∙ sym (flat_map_more (λ x. held_listed (holds x)) [] (take i xs) (get_or xs i d))

-- one more that holds a type of the exchange heap
pub held_some : {X : Type 0} (holds : X → Option HeapType) (xs : List X) (i : ℕ) (d : X) (held : HeapType) (done : List HeapType) → i < length xs
    → done ≡ all_held holds (take i xs) → Some held ≡ holds (get_or xs i d) → done ++ held ∷ [] ≡ all_held holds (take (i + 1) xs)
held_some holds xs i d held done lt before is =
    ap (λ l. l ++ held ∷ []) before ∙ ap (λ o. all_held holds (take i xs) ++ held_listed o) is ∙ sym (held_more holds xs i d lt)

-- one more that holds none
pub held_none : {X : Type 0} (holds : X → Option HeapType) (xs : List X) (i : ℕ) (d : X) (done : List HeapType) → i < length xs
    → done ≡ all_held holds (take i xs) → None ≡ holds (get_or xs i d) → done ≡ all_held holds (take (i + 1) xs)
held_none holds xs i d done lt before is =
    let front = all_held holds (take i xs) in
    before ∙ sym (append-nil front) ∙ ap (λ (o : Option HeapType). front ++ held_listed o) is ∙ sym (held_more holds xs i d lt)

-- one more list of types
pub lists_more : (done more : List (Vec HeapType)) (types : Vec HeapType) (bs : List HeapType) → more ≡ done ++ types ∷ [] → types.items ≡ bs → type_lists more ≡ type_lists done ++ bs ∷ []
lists_more done more types bs new is = ap type_lists new ∙ map-append (λ (k : Vec HeapType). k.items) done (types ∷ []) ∙ ap (λ b. type_lists done ++ b ∷ []) is

-- the payload types of the messages among the first i members
abbrev pub first_members : ProgramText → List Member → ℕ → List (List HeapType)
first_members p xs i = map (payload_types p) (flat_map message_among (map member_tree (take i xs)))

-- one more member, which adds its payload types if it is a message
pub members_more : (p : ProgramText) (xs : List Member) (i : ℕ) (x : Member) (old done more : List (List HeapType)) → i < length xs → x ≡ get_or xs i x
    → done ≡ old ++ first_members p xs i → more ≡ done ++ map (payload_types p) (message_among (member_tree x)) → more ≡ old ++ first_members p xs (i + 1)
members_more p xs i x old done more lt is before new =
    let front = flat_map message_among (map member_tree (take i xs)) in
    let one = message_among (member_tree x) in
    new ∙ ap (λ l. l ++ map (payload_types p) one) before ∙ append_assoc old (map (payload_types p) front) (map (payload_types p) one)
    ∙ ap (λ l. old ++ l) (sym (map-append (payload_types p) front one)) ∙ ap (λ l. old ++ map (payload_types p) l) (sym (flat_more message_among member_tree xs i x lt is))

-- all members
pub members_all : (p : ProgramText) (xs : List Member) (i : ℕ) → length xs ≤ i → first_members p xs i ≡ map (payload_types p) (flat_map message_among (map member_tree xs))
members_all p xs i le = ap (λ l. map (payload_types p) (flat_map message_among (map member_tree l))) (take_all i xs le)

-- the payload types of a contract: its messages before the first state, then those among its members
pub contract_brings : (p : ProgramText) (c : ContractTree) (old mid new : List (List HeapType)) → mid ≡ old ++ map (payload_types p) c.messages → new ≡ mid ++ map (payload_types p) (flat_map message_among c.members)
    → new ≡ old ++ map (payload_types p) (flat_map messages_of (c ∷ []))
contract_brings p c old mid new first second =
    let among = flat_map message_among c.members in
    second ∙ ap (λ l. l ++ map (payload_types p) among) first ∙ append_assoc old (map (payload_types p) c.messages) (map (payload_types p) among)
    ∙ ap (λ l. old ++ l) (sym (map-append (payload_types p) c.messages among)) ∙ ap (λ (l : List MessageTree). old ++ map (payload_types p) l) (sym (append-nil (messages_of c)))

-- the payload types of the contracts among the first i items
abbrev pub first_brought : ProgramText → List Item → ℕ → List (List HeapType)
first_brought p xs i = map (payload_types p) (flat_map messages_of (contracts_of (map item_tree (take i xs))))

-- those of one more item
pub brought_more : (p : ProgramText) (xs : List Item) (i : ℕ) (x : Item) → i < length xs → x ≡ get_or xs i x
    → first_brought p xs (i + 1) ≡ first_brought p xs i ++ map (payload_types p) (flat_map messages_of (contract_of (definition_tree x.definition)))
brought_more p xs i x lt is =
    let front = contracts_of (map item_tree (take i xs)) in
    let one = contract_of (definition_tree x.definition) in
    ap (λ l. map (payload_types p) (flat_map messages_of l)) (flat_more (λ t. contract_of t.definition) item_tree xs i x lt is)
    ∙ ap (map (payload_types p)) (flat_map-append messages_of front one)
    ∙ map-append (payload_types p) (flat_map messages_of front) (flat_map messages_of one)

-- those of all items
pub brought_all : (p : ProgramText) (xs : List Item) (i : ℕ) → length xs ≤ i → first_brought p xs i ≡ map (payload_types p) (flat_map messages_of (contracts_of (map item_tree xs)))
brought_all p xs i le = ap (λ l. map (payload_types p) (flat_map messages_of (contracts_of (map item_tree l)))) (take_all i xs le)
