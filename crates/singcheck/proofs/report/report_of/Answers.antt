use Rattle.std.proofs.Common.{map, ap, ◌∙◌}
use Rattle.std.proofs.lemmas.Result.{IfOk-weaker}
use Rattle.source.specs.Findings.{finding_model}
use Rattle.singcheck.specs.Reports.{report_bytes}
use Rattle.singcheck.proofs.ReportLemmas.{report_is}
use Rattle.singcheck.proofs.report.report_of.Goals as goal

pub returns : goal.returns
returns c = IfOk-weaker c.report_bytes.result _ _
    (λ bytes e. report_is (map finding_model c.args.findings.items) (map finding_model c.in_ok-listed.listed.items) bytes.items
    c.in_ok-listed.ensures.same c.in_ok-listed.ensures.ordered (e ∙ ap (λ l. report_bytes (map finding_model l)) c.deref.ensures.value))
    c.report_bytes.ensures
