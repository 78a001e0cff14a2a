use Rattle.std.proofs.Common.{map, subst, sym}
use Rattle.source.specs.Findings.{finding_model}
use Rattle.program.specs.Parts.{contract_model}
use Rattle.singcheck.specs.Fronts.{AreBroken}
use Rattle.singcheck.specs.Judgements.{IsJudgement}
use Rattle.singcheck.proofs.FrontLemmas.{answers_found}
use Rattle.singcheck.proofs.StageLemmas.{unsound}
use Rattle.singcheck.proofs.bounds.contracts_report.Goals as goal

pub returns-in_ok-findings_in-in-Broken : goal.returns-in_ok-findings_in-in-Broken
returns-in_ok-findings_in-in-Broken c =
    let contracts = map contract_model c.args.resolved.contracts.items in
    let found = map finding_model c.in_ok-findings_in-in-Broken.field-0.items in
    let broken = subst (IsJudgement contracts) c.in-Broken.is c.in_ok-broken.ensures in
    answers_found contracts found (λ text resolved. unsound text contracts found resolved (subst (AreBroken contracts) (sym c.in_ok-findings_in-in-Broken.ensures) broken.found)) c.finding_report.result
    c.finding_report.ensures.bytes c.finding_report.ensures.status

pub returns-in_ok-bounds_lines-in-Sound : goal.returns-in_ok-bounds_lines-in-Sound
returns-in_ok-bounds_lines-in-Sound c = λ text resolved.
    let contracts = map contract_model c.args.resolved.contracts.items in
    let sounds = subst (IsJudgement contracts) c.in-Sound.is c.in_ok-broken.ensures in
    c.in_ok-bounds_lines-in-Sound.ensures text (record { resolved = resolved; sounds = sounds.kept; sound = sounds.sound })
