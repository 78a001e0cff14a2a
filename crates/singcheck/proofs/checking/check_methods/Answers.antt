use Rattle.std.proofs.Common.{◌∙◌, length, ap, sym, arith}
use Rattle.std.specs.Prelude.{◌≢◌, []}
use Rattle.std.proofs.lemmas.Bool.{eqb-true, eqb-false}
use Rattle.std.proofs.lemmas.Result.{IfOk-weaker}
use Rattle.rules.specs.Programs.{model_of}
use Rattle.sound.specs.Premises.{NothingIsFound}
use Rattle.singcheck.proofs.CheckLemmas.{clear_ok, reported_methods}
use Rattle.singcheck.proofs.JudgeLemmas.{no_items}
use Rattle.singcheck.proofs.SafetyLemmas.{found_unsafe, nothing_found}
use Rattle.singcheck.proofs.checking.check_methods.Goals as goal

pub returns-then-not-is_empty-clause-report : goal.returns-then-not-is_empty-clause-report
returns-then-not-is_empty-clause-report g c =
    let found = c.in_ok-findings.findings in
    let some : found.items ≢ [] = λ e. let differ = eqb-false _ _ (sym c.is_empty.ensures ∙ c.if-not-is_empty.true) in let none = ap length e in omega (arith, differ, none, found.ok.0) in
    reported_methods (model_of c.args.program.now) found.items some c.in_ok-findings.ensures c.finding_report.result c.finding_report.ensures.bytes c.finding_report.ensures.status

pub returns-then-not-is_empty-clause-clean : goal.returns-then-not-is_empty-clause-clean
returns-then-not-is_empty-clause-clean g c = found_unsafe (NothingIsFound (model_of c.args.program.now)) c.finding_report.result c.finding_report.ensures.status

pub returns-clause-report : goal.returns-clause-report
returns-clause-report g c =
    let found = c.in_ok-findings.findings in
    let none = no_items found.items (sym found.ok.0 ∙ eqb-true _ _ (sym c.is_empty.ensures ∙ c.if-not-is_empty.false)) in
    clear_ok (model_of c.args.program.now) found.items none c.in_ok-findings.ensures c.clear.result c.clear.ensures.bytes c.clear.ensures.status

pub returns-clause-clean : goal.returns-clause-clean
returns-clause-clean g c =
    let found = c.in_ok-findings.findings in
    let none = no_items found.items (sym found.ok.0 ∙ eqb-true _ _ (sym c.is_empty.ensures ∙ c.if-not-is_empty.false)) in
    IfOk-weaker c.clear.result _ _ (λ r e empty. nothing_found (model_of c.args.program.now) found.items none c.in_ok-findings.ensures) c.clear.ensures.status
