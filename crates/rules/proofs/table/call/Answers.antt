use Rattle.std.proofs.Common.{Ok, Err, [], ◌∷◌, ap, ◌∙◌}
use Rattle.program.specs.Methods.{method_model}
use Rattle.rules.specs.Arguments.{all_arguments, after_claims, given_leaf, target_checks}
use Rattle.rules.specs.Breaches.{breach_model}
use Rattle.rules.specs.Endpoints.{parameter_types}
use Rattle.rules.specs.Outcomes.{Goes}
use Rattle.rules.specs.Programs.{model_of}
use Rattle.rows.specs.Rows.{row_model}
use Rattle.rules.proofs.CallLemmas.{of_checks, second_of, told_on}
use Rattle.rules.proofs.table.call.Goals as goal

pub returns-in_err-require_target-clause-outcome : goal.returns-in_err-require_target-clause-outcome
returns-in_err-require_target-clause-outcome c =
    let p = model_of c.args.site.now.program.now in
    let m = method_model c.args.site.now.method.now in
    let row = row_model c.args.row.now in
    let calling = c.args.calling.now in
    let first =
    of_checks (ap (λ xs. all_arguments m row (parameter_types p calling.method.0) xs) c.deref.ensures.value)
    (of_checks (ap (λ ks. all_arguments m row ks c.deref.result.now) c.parameter_types-types.ensures) c.in_ok-require_arguments.ensures) in
    let after = c.claim_all.ensures ∙ ap (after_claims row) c.deref-2.ensures.value in
    let taken = of_checks (ap (λ r. target_checks m r calling.target) after) c.in_err-require_target.ensures in
    told_on c.from_residual-in_err-require_target.result _ _ c.from_residual-in_err-require_target.ensures.1
    ∙ second_of (all_arguments m row (parameter_types p calling.method.0) calling.arguments.items) _ (Err _) _ first taken

pub returns-clause-outcome : goal.returns-clause-outcome
returns-clause-outcome c =
    let p = model_of c.args.site.now.program.now in
    let m = method_model c.args.site.now.method.now in
    let row = row_model c.args.row.now in
    let calling = c.args.calling.now in
    let first =
    of_checks (ap (λ xs. all_arguments m row (parameter_types p calling.method.0) xs) c.deref.ensures.value)
    (of_checks (ap (λ ks. all_arguments m row ks c.deref.result.now) c.parameter_types-types.ensures) c.in_ok-require_arguments.ensures) in
    let after = c.claim_all.ensures ∙ ap (after_claims row) c.deref-2.ensures.value in
    let taken = of_checks (ap (λ r. target_checks m r calling.target) after) c.in_ok-require_target.ensures in
    let given = c.give.ensures ∙ ap (λ r. given_leaf r c.result_of-result.result calling.target) after in
    ap (λ r. Goes ((calling.next, r) ∷ [])) (given ∙ ap (λ k. given_leaf (after_claims row calling.arguments.items) k calling.target) c.result_of-result.ensures.ty)
    ∙ second_of (all_arguments m row (parameter_types p calling.method.0) calling.arguments.items) _ (Ok tt) _ first taken
