use Rattle.std.proofs.Common.{◌∙◌, ap, length, arith}
use Rattle.std.proofs.lemmas.List.{length-map}
use Rattle.std.proofs.lemmas.List.Elements.{All-map, All-same}
use Rattle.tree.specs.Trees.{program_tree}
use Rattle.program.specs.Parts.{IsWhole, contract_model}
use Rattle.singcheck.proofs.FewLemmas.{few_contracts}
use Rattle.singcheck.proofs.front.methods_of.Goals as goal

pub well_formed_methods-requires : goal.well_formed_methods-requires
well_formed_methods-requires c =
    let text = c.args.text.now in
    let tree = c.in_ok-resolved.tree in
    let resolved = c.in_ok-resolved.resolved in
    let has = c.in_ok-resolved.ensures.resolved in
    let few = few_contracts text (program_tree tree) resolved.contracts.items contract_model has.is.contracts in
    record {
      contracts = has.is.contracts;
      room = omega (arith, few, has.parsed.few);
      clean = has.is.clean;
    }

pub returns-clause-methods : goal.returns-clause-methods
returns-clause-methods c =
    let text = c.args.text.now in
    let tree = c.in_ok-resolved.tree in
    let resolved = c.in_ok-resolved.resolved in
    let has = c.in_ok-resolved.ensures.resolved in
    let told = c.in_ok-methods.ensures in
    let few = few_contracts text (program_tree tree) resolved.contracts.items contract_model has.is.contracts in
    let size = length-map resolved.contracts.items contract_model in
    let same = ap length told.contracts in
    let contracts = told.contracts ∙ has.is.contracts in
    record {
      names = record {
        parsed = has.parsed.parsed;
        clean = has.is.clean;
        is = λ i. record { contracts = contracts i; messages = told.messages i; structs = told.structs i; methods = told.methods i };
      };
      whole = All-same (λ s. IsWhole s.parts) _ _ told.contracts (All-map (λ s. IsWhole s.parts) contract_model resolved.contracts.items has.is.whole);
      room = omega (arith, few, size, same, has.parsed.few);
      few = told.few;
    }
