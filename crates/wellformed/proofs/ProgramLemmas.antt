-- What is known of the methods of a program without mistakes in names and types.
use Rattle.std.proofs.Common.{◌≡◌, ℕ, List, [], ◌∷◌, ◌++◌, map, sym, refl, ap, ◌∙◌}
use Rattle.std.specs.List.{flat_map}
use Rattle.std.specs.Prelude.{Option, None, Some, option_and_then, slice_get}
use Rattle.std.specs.Option.{option_map_or}
use Rattle.tree.specs.Trees.{DefinitionTree, Class, ClassTree, Contract, ContractTree, MessageTree, MethodTree}
use Rattle.tree.specs.declared.class.Parameter.{Parameter}
use Rattle.declarations.specs.ContractMistakes.{contract_mistakes, message_mistakes, state_mistakes}
use Rattle.declarations.specs.Declarations.{messages_of, names_of_messages, names_of_states, states_of}
use Rattle.declarations.specs.ItemMistakes.{counted_mistakes}
use Rattle.names.specs.Findings.{definition_mistakes, program_mistakes}
use Rattle.tables.specs.Firsts.{first_of}
use Rattle.declarations.specs.Types.{is_heap, type_meant, type_unknown}
use Rattle.declarations.specs.Listed.{twice_among}
use Rattle.declarations.specs.ItemMistakes.{items_mistakes}
use Rattle.names.specs.Methods.{method_turn, parameter_turn, parameters_turn}
use Rattle.declarations.specs.Program.{ProgramText, as_class, as_contract, item_at}
use Rattle.declarations.specs.Named.{message_written}
use Rattle.names.specs.Variables.{NameFrame, declared_variable}
use Rattle.tables.specs.Words.{words_at}
use Rattle.program.specs.Lists.{Each}
use Rattle.wellformed.proofs.ListLemmas.{both_none}
use Rattle.wellformed.proofs.MethodNumberLemmas.{Declares, class_item, contract_item}
pub use Rattle.wellformed.proofs.MethodNumberLemmas.{every_method, member_answers, method_answers}
pub use Rattle.wellformed.proofs.ParameterLemmas.{all_claimed, parameters_are}
use Rattle.wellformed.proofs.PlaceLemmas.{each_none, none_there}
use Rattle.wellformed.proofs.Standing.{IsMethod}

-- the items have no mistakes
pub items_clean : (p : ProgramText) → program_mistakes p ≡ [] → flat_map (λ i. definition_mistakes p i.definition) p.items ≡ []
items_clean p clean =
    let items = flat_map (λ i. definition_mistakes p i.definition) p.items in
    (both_none (counted_mistakes p) items (both_none (items_mistakes p) (counted_mistakes p ++ items) clean).1).1

-- nor has one of them
pub item_clean : (p : ProgramText) (n : ℕ) (d : DefinitionTree) → program_mistakes p ≡ [] → Declares (slice_get p.items n) d → definition_mistakes p d ≡ []
item_clean p n d clean there =
    sym (ap (definition_mistakes p) there.is) ∙ none_there (λ i. definition_mistakes p i.definition) p.items n there.item (items_clean p clean) there.at

-- a method of a class has no mistakes
pub method_clean : (p : ProgramText) (class : ℕ) (c : ClassTree) (m : MethodTree) (index : ℕ) → program_mistakes p ≡ [] → item_at as_class p class ≡ Some (class, c)
    → slice_get c.methods index ≡ Some m → (method_turn p c m).found ≡ []
method_clean p class c m index clean there at =
    let found = item_clean p class (Class c) clean (class_item p class c there) in
    let inner = (both_none (twice_among p.text (map (λ m. m.name) c.methods)) (flat_map (λ m. (method_turn p c m).found) c.methods) found).1 in
    none_there (λ m. (method_turn p c m).found) c.methods index m inner at

-- so the types of its result and of its parameters are known
pub result_clean : (p : ProgramText) (m : MethodTree) (number : ℕ) → program_mistakes p ≡ [] → IsMethod p m number → option_map_or (type_unknown p) m.result [] ≡ []
result_clean p m number clean is = (both_none (option_map_or (type_unknown p) m.result []) _ (method_clean p is.class is.tree m is.index clean is.there is.at)).0

params_known : (p : ProgramText) (params : List Parameter) (f : NameFrame) → (parameters_turn p params f).found ≡ [] → Each (λ x. type_unknown p x.ty ≡ []) params
params_known p [] f none = tt
params_known p (x ∷ params) f none =
    let next = parameter_turn p x f in
    let both = both_none next.found (parameters_turn p params next.frame).found none in
    let unknown = both_none (type_unknown p x.ty) (declared_variable p.text x.name (type_meant p x.ty) (is_heap x.ty) f).found both.0 in
    (unknown.0, params_known p params next.frame both.1)

pub parameters_clean : (p : ProgramText) (m : MethodTree) (number : ℕ) → program_mistakes p ≡ [] → IsMethod p m number → Each (λ x. type_unknown p x.ty ≡ []) m.params
parameters_clean p m number clean is =
    let f : NameFrame = record { variables = []; heap = 0 } in
    let inner = (both_none (option_map_or (type_unknown p) m.result []) _ (method_clean p is.class is.tree m is.index clean is.there is.at)).1 in
    params_known p m.params f (both_none (parameters_turn p m.params f).found _ inner).0

message_at : (p : ProgramText) (messages : List MessageTree) (m : MessageTree) (o : Option ℕ) → flat_map (message_mistakes p) messages ≡ [] → option_and_then (slice_get messages) o ≡ Some m
    → message_mistakes p m ≡ []
message_at p messages m None none at = cc
message_at p messages m (Some n) none at = none_there (message_mistakes p) messages n m none at

-- the messages of a contract have no mistakes
messages_clean : (p : ProgramText) (messages : List MessageTree) (c : ContractTree) → messages ≡ messages_of c → contract_mistakes p c ≡ [] → flat_map (message_mistakes p) messages ≡ []
messages_clean p messages c is none =
    let names = names_of_messages (messages_of c) in
    let states = states_of c in
    let all = flat_map (message_mistakes p) (messages_of c) in
    let behind = flat_map (state_mistakes p.text names (names_of_states states)) states in
    let inner = (both_none (twice_among p.text names) (twice_among p.text (names_of_states states) ++ (all ++ behind)) none).1 in
    ap (flat_map (message_mistakes p)) is ∙ (both_none all behind (both_none (twice_among p.text (names_of_states states)) (all ++ behind) inner).1).0

-- the types of the parameters of a message are known
pub message_clean : (p : ProgramText) (n : ℕ) (c : ContractTree) (word : List ℕ) (m : MessageTree) → program_mistakes p ≡ [] → item_at as_contract p n ≡ Some (n, c)
    → message_written p.text c word ≡ Some m → Each (λ x. type_unknown p x.ty ≡ []) m.params
message_clean p n c word m clean there written =
    let found = item_clean p n (Contract c) clean (contract_item p n c there) in
    let messages = messages_of c in
    let none = message_at p messages m (first_of (words_at p.text (names_of_messages messages)) word) (messages_clean p messages c refl found) written in
    each_none (λ x. type_unknown p x.ty) m.params (both_none (flat_map (λ x. type_unknown p x.ty) m.params) _ none).0
