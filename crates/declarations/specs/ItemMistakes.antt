-- Mistakes with the names of items, and within structs.
use Rattle.std.specs.Prelude.{List, [], ◌++◌, map}
use Rattle.std.specs.List.{flat_map}
use Rattle.source.specs.declared.token.Span.{Span}
use Rattle.tree.specs.Trees.{DefinitionTree, Class, ContractTree, StructTree, MethodTree, contracts_of}
use Rattle.declarations.specs.ContractMistakes.{contract_mistakes}
use Rattle.declarations.specs.Declarations.{names_of_contracts, counted_states, states_of}
use Rattle.declarations.specs.declared.mistake.Limit.TheVariants as limit
use Rattle.declarations.specs.declared.mistake.Mistake.{Mistake}
use Rattle.declarations.specs.Types.{type_unknown}
use Rattle.declarations.specs.Listed.{twice_among, past_limit}
use Rattle.declarations.specs.Owning.{owning_fields}
use Rattle.declarations.specs.Program.{ProgramText, item_names}

-- the mistakes in the fields of a struct: names declared twice, types not declared, and too many owning fields
abbrev pub struct_mistakes : ProgramText → StructTree → List Mistake
struct_mistakes p s =
    twice_among p.text (map (λ f. f.name) s.fields)
    ++ (flat_map (λ f. type_unknown p f.ty) s.fields ++ past_limit limit.Fields (map (λ f. f.name) (owning_fields s)))

-- the methods of an item
abbrev pub methods_in : DefinitionTree → List MethodTree
methods_in (Class c) = c.methods
methods_in _ = []

-- the names of all methods, in order of the text
abbrev pub method_names : ProgramText → List Span
method_names p = map (λ m. m.name) (flat_map (λ i. methods_in i.definition) p.items)

-- items declared twice, and the first method past the limit
abbrev pub items_mistakes : ProgramText → List Mistake
items_mistakes p = twice_among p.text (item_names p) ++ past_limit limit.Methods (method_names p)

-- one name for each state that these contracts declare
abbrev pub all_counted_states : List ContractTree → List Span
all_counted_states contracts = flat_map (λ c. counted_states (states_of c)) contracts

-- the first contract past the limit of contracts, and the first state past that of states
abbrev pub counted_mistakes : ProgramText → List Mistake
counted_mistakes p = past_limit limit.Contracts (names_of_contracts (contracts_of p.items))
    ++ past_limit limit.States (all_counted_states (contracts_of p.items))

-- all that is wrong with the contracts of a program
abbrev pub contracts_mistakes : ProgramText → List Mistake
contracts_mistakes p = counted_mistakes p ++ flat_map (contract_mistakes p) (contracts_of p.items)
