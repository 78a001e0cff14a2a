use Rattle.std.proofs.Common.{Ok, Err, [], ◌∷◌, ap, ◌∙◌, set}
use Rattle.std.specs.Option.{option_map_or}
use Rattle.program.specs.Methods.{method_model}
use Rattle.rules.specs.Arguments.{field_checks, payload}
use Rattle.rules.specs.Endpoints.{declared_leaf}
use Rattle.rules.specs.Mentions.{require_owned}
use Rattle.rules.specs.Outcomes.{Goes}
use Rattle.rows.specs.Rows.{row_model}
use Rattle.rows.specs.declared.row.Leaf.TheVariants.{Nothing}
use Rattle.rules.proofs.CallLemmas.{alone, behind_one, of_checks, told_on}
use Rattle.rules.proofs.fields.exchange.Goals as goal

pub returns-in_err-require_field-clause-outcome : goal.returns-in_err-require_field-clause-outcome
returns-in_err-require_field-clause-outcome c =
    let m = method_model c.args.site.now.method.now in
    let row = row_model c.args.row.now in
    let e = c.args.exchange in
    let stands = of_checks (ap (λ k. option_map_or (λ ty. field_checks m row ty (payload e.given)) k []) c.field_of-field.ensures.ty) c.in_err-require_field.ensures in
    told_on c.from_residual-in_err-require_field.result _ _ c.from_residual-in_err-require_field.ensures.1
    ∙ alone _ (Err _) _ stands
    ∙ behind_one (require_owned row e.holder) _ _ c.in_ok-require_owned.ensures
    ∙ behind_one _ _ _ c.in_ok-require_another.ensures

pub returns-clause-outcome : goal.returns-clause-outcome
returns-clause-outcome c =
    let m = method_model c.args.site.now.method.now in
    let row = row_model c.args.row.now in
    let e = c.args.exchange in
    let ty = c.field_of-field.ensures.ty in
    let stands = of_checks (ap (λ k. option_map_or (λ ty. field_checks m row ty (payload e.given)) k []) ty) c.in_ok-require_field.ensures in
    let leaf = c.leaf_out_of.ensures.leaf ∙ ap (λ k. option_map_or declared_leaf k Nothing) ty in
    ap (λ r. Goes ((c.args.next, r) ∷ [])) (c.set.ensures ∙ ap (set row e.given.variable.0) leaf)
    ∙ alone _ (Ok tt) _ stands
    ∙ behind_one (require_owned row e.holder) _ _ c.in_ok-require_owned.ensures
    ∙ behind_one _ _ _ c.in_ok-require_another.ensures
