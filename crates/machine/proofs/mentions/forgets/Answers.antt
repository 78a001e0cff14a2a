use Rattle.std.proofs.Common.{◌≡◌, arith, sym, ap, ◌∙◌, length, ◌-◌, ◌+◌, suc, set, None}
use Rattle.std.proofs.lemmas.List.{length-map}
use Rattle.program.specs.Methods.{method_model, variable_model}
use Rattle.rules.specs.Scopes.{between}
use Rattle.machine.specs.Frames.{out_of_scope}
use Rattle.machine.specs.Views.{variables_model}
use Rattle.machine.proofs.ScopeLemmas.{walk_none, walk_stops, walk_done, walk_more}
use Rattle.machine.proofs.mentions.forgets.Goals as goal

pub loop-init : goal.loop-init
loop-init c =
    let vs = (method_model c.args.method.now).variables in
    let e : length vs - 0 ≡ length vs = omega arith in
    ap (λ n. out_of_scope (variables_model c.args.variables.now) (between vs n c.args.outer c.args.last)) e

pub loop-preserved : goal.loop-preserved
loop-preserved c =
    let vs = (method_model c.args.method.now).variables in
    let size : length vs ≡ length c.args.method.now.variables.items = length-map c.args.method.now.variables.items variable_model in
    let ends : c.len-end.result ≡ length c.args.method.now.variables.items = c.len-end.ensures ∙ c.args.method.now.variables.ok.0 in
    let e : length vs - c.loop.counter ≡ suc (length vs - (c.loop.counter + 1)) = omega arith in
    let m = length vs - (c.loop.counter + 1) in
    ap (λ xs. out_of_scope xs (between vs m c.args.outer c.outer_of-at.result)) c.put.ensures.put
    ∙ (ap (λ at. out_of_scope (set (variables_model c.loop.variables) c.in-Some.variable.0 None) (between vs m c.args.outer at)) c.outer_of-at.ensures
    ∙ (walk_more (variables_model c.loop.variables) vs (length vs - c.loop.counter) m c.args.outer c.in-Some.variable (sym c.is_this.ensures ∙ c.if-is_this.false) e
    ∙ (ap (λ at. out_of_scope (variables_model c.loop.variables) (between vs (length vs - c.loop.counter) c.args.outer at)) (sym c.in-Some.is) ∙ c.loop.invariant)))

pub returns-in_default : goal.returns-in_default
returns-in_default c =
    let vs = (method_model c.args.method.now).variables in
    sym (ap (out_of_scope (variables_model c.loop.variables)) (ap (between vs (length vs - c.loop.counter) c.args.outer) c.in_default.is ∙ walk_none vs (length vs - c.loop.counter) c.args.outer)) ∙ c.loop.invariant

pub returns-then-is_this : goal.returns-then-is_this
returns-then-is_this c =
    let vs = (method_model c.args.method.now).variables in
    sym (ap (out_of_scope (variables_model c.loop.variables)) (ap (between vs (length vs - c.loop.counter) c.args.outer) c.in-Some.is ∙ walk_stops vs (length vs - c.loop.counter) c.args.outer c.in-Some.variable (sym c.is_this.ensures ∙ c.if-is_this.true))) ∙ c.loop.invariant

pub returns : goal.returns
returns c =
    let vs = (method_model c.args.method.now).variables in
    let size : length vs ≡ length c.args.method.now.variables.items = length-map c.args.method.now.variables.items variable_model in
    let ends : c.len-end.result ≡ length c.args.method.now.variables.items = c.len-end.ensures ∙ c.args.method.now.variables.ok.0 in
    let e : length vs - c.loop.counter ≡ 0 = omega arith in
    sym (ap (out_of_scope (variables_model c.loop.variables)) (walk_done vs (length vs - c.loop.counter) c.args.outer c.loop.at e)) ∙ c.loop.invariant
