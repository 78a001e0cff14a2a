use Rattle.std.proofs.Common.{arith}
use Rattle.std.proofs.lemmas.List.Elements.{All-map}
use Rattle.std.proofs.lemmas.Result.{IfOk-weaker}
use Rattle.tree.specs.Trees.{program_tree}
use Rattle.program.specs.Parts.{IsWhole, contract_model}
use Rattle.singcheck.proofs.FewLemmas.{few_contracts}
use Rattle.singcheck.proofs.FrontLemmas.{answers_refused, resolved_as}
use Rattle.singcheck.proofs.bounds.bounds_report.Goals as goal

pub contracts_report-requires : goal.contracts_report-requires
contracts_report-requires c =
    let has = c.in-Ok.ensures.resolved in
    let few = few_contracts c.args.text.now (program_tree c.in-Ok.tree) c.in-Ok.resolved.contracts.items contract_model has.is.contracts in
    record {
      whole = All-map (λ s. IsWhole s.parts) contract_model c.in-Ok.resolved.contracts.items has.is.whole;
      few = omega (arith, few, has.parsed.few);
    }

pub returns-in-Ok : goal.returns-in-Ok
returns-in-Ok c = IfOk-weaker c.contracts_report.result _ _
    (λ r told. told c.args.text.now (resolved_as c.args.text.now c.in-Ok.resolved c.in-Ok.tree c.in-Ok.ensures.resolved)) c.contracts_report.ensures

pub returns-in-Err : goal.returns-in-Err
returns-in-Err c = answers_refused c.args.text.now c.refused_report.result c.refused_report.ensures.bytes c.refused_report.ensures.status
