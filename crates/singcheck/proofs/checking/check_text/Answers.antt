use Rattle.std.proofs.lemmas.Result.{IfOk-weaker}
use Rattle.rules.specs.Programs.{model_of}
use Rattle.singcheck.specs.Safety.{IsSafeText}
use Rattle.singcheck.proofs.FrontLemmas.{checks_refused}
use Rattle.singcheck.proofs.SafetyLemmas.{found_unsafe, safe_text}
use Rattle.singcheck.proofs.checking.check_text.Goals as goal

pub returns-in-Ok-clause-report : goal.returns-in-Ok-clause-report
returns-in-Ok-clause-report g c =
    IfOk-weaker c.check_methods.result _ _ (λ r told. told c.args.text.now c.in-Ok.ensures.program.has) c.check_methods.ensures.report

pub returns-in-Ok-clause-safe : goal.returns-in-Ok-clause-safe
returns-in-Ok-clause-safe g c =
    let text = c.args.text.now in
    let p = model_of c.in-Ok.program in
    let built = c.in-Ok.ensures.program in
    IfOk-weaker c.check_methods.result _ _ (λ r clean empty. safe_text text p (λ items parsed. c.one_program.ensures.told text items p built.has parsed) (clean empty) built.safe) c.check_methods.ensures.clean

pub returns-in-Err-clause-report : goal.returns-in-Err-clause-report
returns-in-Err-clause-report g c =
    checks_refused c.args.text.now c.refused_report.result c.refused_report.ensures.bytes c.refused_report.ensures.status

pub returns-in-Err-clause-safe : goal.returns-in-Err-clause-safe
returns-in-Err-clause-safe g c = found_unsafe (IsSafeText c.args.text.now) c.refused_report.result c.refused_report.ensures.status
