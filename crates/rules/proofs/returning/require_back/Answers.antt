use Rattle.std.proofs.Common.{◌<◌, length, Some, Err, refl, sym, ap, subst, ◌∙◌}
use Rattle.std.proofs.lemmas.List.{length-map}
use Rattle.program.specs.Methods.{variable_model}
use Rattle.rules.specs.Sites.{method_of, program_of, row_of}
use Rattle.rules.proofs.ArgumentLemmas.{left_found}
use Rattle.rules.proofs.BackLemmas.{back_more, told_back}
use Rattle.rules.proofs.returning.require_back.Goals as goal

pub returns-then-is_not_back : goal.returns-then-is_not_back
returns-then-is_not_back c =
    let p = program_of c.args.here.now in
    let m = method_of c.args.here.now in
    let row = row_of c.args.here.now in
    let v = c.loop-variable.variable in
    let size = length-map c.args.here.now.site.method.now.variables.items variable_model in
    let lt : v < length m.variables = subst (λ n. v < n) (c.len-variable-end.ensures ∙ c.args.here.now.site.method.now.variables.ok.0 ∙ sym size) c.loop-variable-test.true in
    left_found _ _ _ _ (Err c.at.result) c.at.result (back_more p m row c.args.place v lt) refl
    (told_back p m row c.args.place v (Err c.at.result) (sym c.is_not_back.ensures ∙ c.if-is_not_back.true) (ap (λ b. Some b) c.at.ensures)) c.loop-variable.invariant
