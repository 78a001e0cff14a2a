-- A program has at most as many contracts as its spelling has symbols.
use Rattle.std.proofs.Common.{◌≡◌, ℕ, ◌≤◌, List, [], ◌∷◌, ◌++◌, length, map, refl, ap, arith}
use Rattle.std.proofs.lemmas.List.{length-append, length-map}
use Rattle.tree.specs.Grammar.{access_word}
use Rattle.tree.specs.Programs.{definition, item, program}
use Rattle.tree.specs.Spelling.{optional, word}
use Rattle.tree.specs.Trees.{ContractTree, DefinitionTree, Contract, Struct, Class, ItemTree, contract_of, contracts_of}
use Rattle.program.specs.Parts.{ContractModel}
use Rattle.declarations.specs.Resolution.{each_behind, resolved_contracts}

-- a definition has at least as many symbols as it declares contracts
in_definition : (d : DefinitionTree) → length (contract_of d) ≤ length (definition d)
in_definition (Contract c) = omega arith
in_definition (Struct s) = omega arith
in_definition (Class c) = omega arith

in_items : (items : List ItemTree) → length (contracts_of items) ≤ length (program items)
in_items [] = omega arith
in_items (i ∷ items) =
    let here = in_definition i.definition in
    let rest = in_items items in
    let listed = length-append (contract_of i.definition) (contracts_of items) in
    let front = length-append (optional (λ a. word (access_word a)) i.access) (definition i.definition) in
    let spelled = length-append (item i) (program items) in
    omega (arith, here, rest, listed, front, spelled)

-- one contract is resolved for each
length_behind : (f : List ContractTree → ContractTree → ContractModel) (before contracts : List ContractTree) → length (each_behind (λ b c. f b c ∷ []) before contracts) ≡ length contracts
length_behind f before [] = refl
length_behind f before (c ∷ cs) = let rest = length_behind f (before ++ c ∷ []) cs in omega (arith, rest)

pub few_contracts : {C : Type 0} (text : List ℕ) (items : List ItemTree) (contracts : List C) (seen : C → ContractModel) → map seen contracts ≡ resolved_contracts text (contracts_of items) → length contracts ≤ length (program items)
few_contracts text items contracts seen resolved =
    let symbol = in_items items in
    let same = ap length resolved in
    let each : length (resolved_contracts text (contracts_of items)) ≡ length (contracts_of items) = length_behind _ [] (contracts_of items) in
    let many = length-map contracts seen in
    omega (arith, symbol, same, each, many)
