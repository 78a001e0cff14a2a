use Rattle.std.proofs.Common.{map}
use Rattle.std.proofs.lemmas.Result.{IfOk-weaker}
use Rattle.source.specs.Findings.{finding_model}
use Rattle.singcheck.proofs.refusals.refused_report.Goals as goal

pub returns-clause-bytes : goal.returns-clause-bytes
returns-clause-bytes c = IfOk-weaker c.finding_report.result _ _
    (λ r told. record { found = map finding_model c.in_ok-findings.findings.items; are = c.in_ok-findings.ensures; told = told })
    c.finding_report.ensures.bytes
