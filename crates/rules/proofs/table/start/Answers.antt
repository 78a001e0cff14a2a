use Rattle.std.proofs.Common.{Ok, Err, [], ◌∷◌, ap, ◌∙◌}
use Rattle.program.specs.Methods.{method_model}
use Rattle.rules.specs.Arguments.{all_arguments, after_claims}
use Rattle.rules.specs.Breaches.{breach_model}
use Rattle.rules.specs.Endpoints.{parameter_types}
use Rattle.rules.specs.Outcomes.{Goes}
use Rattle.rules.specs.Programs.{model_of}
use Rattle.rows.specs.Rows.{row_model}
use Rattle.rules.proofs.CallLemmas.{alone, of_checks, told_on}
use Rattle.rules.proofs.table.start.Goals as goal

pub returns-in_err-require_arguments-clause-outcome : goal.returns-in_err-require_arguments-clause-outcome
returns-in_err-require_arguments-clause-outcome c =
    let p = model_of c.args.site.now.program.now in
    let m = method_model c.args.site.now.method.now in
    let row = row_model c.args.row.now in
    let starting = c.args.starting.now in
    let first =
    of_checks (ap (λ xs. all_arguments m row (parameter_types p starting.method.0) xs) c.deref.ensures.value)
    (of_checks (ap (λ ks. all_arguments m row ks c.deref.result.now) c.parameter_types-types.ensures) c.in_err-require_arguments.ensures) in
    told_on c.from_residual.result _ _ c.from_residual.ensures.1
    ∙ alone (all_arguments m row (parameter_types p starting.method.0) starting.arguments.items) (Err _) _ first

pub returns-clause-outcome : goal.returns-clause-outcome
returns-clause-outcome c =
    let p = model_of c.args.site.now.program.now in
    let m = method_model c.args.site.now.method.now in
    let row = row_model c.args.row.now in
    let starting = c.args.starting.now in
    let first =
    of_checks (ap (λ xs. all_arguments m row (parameter_types p starting.method.0) xs) c.deref.ensures.value)
    (of_checks (ap (λ ks. all_arguments m row ks c.deref.result.now) c.parameter_types-types.ensures) c.in_ok-require_arguments.ensures) in
    let after = c.claim_all.ensures ∙ ap (after_claims row) c.deref-2.ensures.value in
    ap (λ r. Goes ((starting.next, r) ∷ [])) after ∙ alone (all_arguments m row (parameter_types p starting.method.0) starting.arguments.items) (Ok tt) _ first
