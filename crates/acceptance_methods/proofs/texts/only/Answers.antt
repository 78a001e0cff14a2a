use Rattle.std.proofs.Common.{◌∙◌, map, ap, sym}
use Rattle.std.proofs.lemmas.Bool.{eqb-true}
use Rattle.contracts.specs.Sounds.{sound_parts}
use Rattle.program.specs.Parts.{ContractModel, contract_model}
use Rattle.std.proofs.lemmas.List.{nil_from_length}
use Rattle.acceptance_methods.proofs.texts.only.Goals as goal

pub new-requires : goal.new-requires
new-requires c =
    let listed = c.contracts.result.now.contracts in
    let none = nil_from_length listed.items (sym listed.ok.0 ∙ eqb-true _ _ (sym c.is_empty.ensures ∙ c.if-not-is_empty.false)) in
    record { sound = ap (map sound_parts) c.new-sounds.ensures.items ∙ ap (map (λ (x : ContractModel). x.parts)) (sym (ap (map contract_model) none) ∙ c.contracts.ensures) }
