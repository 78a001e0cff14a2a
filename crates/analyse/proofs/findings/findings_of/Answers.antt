use Rattle.std.proofs.Common.{◌≡◌, Contains, List, ap, map, subst, sym, ◌∙◌}
use Rattle.std.proofs.lemmas.List.{take_all}
use Rattle.std.proofs.lemmas.Result.{IfOk-weaker}
use Rattle.source.specs.Findings.{FindingModel, finding_model}
use Rattle.rules.specs.Breaches.{breach_in}
use Rattle.rules.specs.Programs.{model_of}
use Rattle.analyse.specs.Found.{breaches_of}
use Rattle.analyse.proofs.FoundLemmas.{said_still}
use Rattle.analyse.proofs.findings.findings_of.Goals as goal

pub returns-clause-same : goal.returns-clause-same
returns-clause-same c =
    let says = breach_in (model_of c.args.program.now) c.args.method.0 in
    let once = c.in_ok-into_different.field-0.items in
    let all : map finding_model c.loop-breach.findings.items ≡ map says once
    = c.loop-breach.invariant ∙ ap (map says) (take_all c.loop-breach.breach-index _ c.loop-breach-test.false ∙ c.deref-breach-items.ensures.value) in
    IfOk-weaker c.in_report_order.result _ _
    (λ findings h f. (
      λ there. said_still says once (breaches_of c.args.found) (λ b. (c.in_ok-into_different.ensures.same b).0) f (subst (λ (fs : List FindingModel). Contains fs f) all ((h f).0 there)),
      λ there. (h f).1 (subst (λ (fs : List FindingModel). Contains fs f) (sym all) (said_still says (breaches_of c.args.found) once (λ b. (c.in_ok-into_different.ensures.same b).1) f there)),
    )) c.in_report_order.ensures.same
