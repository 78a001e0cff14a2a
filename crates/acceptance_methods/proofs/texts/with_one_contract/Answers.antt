use Rattle.std.proofs.Common.{◌≡◌, ◌∙◌, ◌++◌, ◌∷◌, [], map, length, ap, sym, subst, rules}
use Rattle.contracts.specs.Parts.{contract_parts}
use Rattle.contracts.specs.Sounds.{IsJudged}
use Rattle.program.specs.Parts.{ContractModel}
use Rattle.acceptance_methods.proofs.ContractLemmas.{one_sound, whole_at}
use Rattle.acceptance_methods.proofs.texts.with_one_contract.Goals as goal

pub judge-requires : goal.judge-requires
judge-requires c = record { whole = whole_at c.in_ok-resolved.resolved.contracts.items 0 _ c.in_ok-resolved.ensures.resolved.whole c.edges-contract.ensures }

pub new-requires : goal.new-requires
new-requires c =
    let contracts = c.in_ok-resolved.resolved.contracts.items in
    let sound = c.in-Sound.sound in
    let judged = subst (IsJudged (contract_parts c.edges-contract.result.now)) c.in-Sound.is c.in_ok-sound.ensures in
    let one : length contracts ≡ 1 = search rules in
    let pushed = c.in_ok-push.ensures.items ∙ ap (λ l. l ++ sound ∷ []) c.new-sounds.ensures.items in
    record { sound = one_sound contracts c.push.new.self.items sound _ one c.edges-contract.ensures judged.0 pushed ∙ ap (map (λ (x : ContractModel). x.parts)) (sym c.in_ok-methods.ensures.contracts) }
