use Rattle.std.proofs.Common.{◌≡◌, ◌∙◌, sym, length, ◌≤◌, ◌<◌, ◌+◌, subst}
use Rattle.std.specs.Option.{option_map}
use Rattle.std.proofs.lemmas.List.{length-map}
use Rattle.program.specs.Methods.{variable_model}
use Rattle.rules.specs.Sites.{method_of, row_of}
use Rattle.rules.proofs.ScopeLemmas.{Looked, looked_first, looked_all, looked_none, looked_more}
use Rattle.rules.proofs.scopes.first_outwards.Goals as goal

pub loop-init : goal.loop-init
loop-init c = looked_first (method_of c.args.here.now) (row_of c.args.here.now) c.args.given c.args.outer c.args.last

pub returns-in_default : goal.returns-in_default
returns-in_default c = looked_none (method_of c.args.here.now) (row_of c.args.here.now) c.args.given c.args.outer c.args.last c.loop.at c.loop.counter _ c.in_default.is c.loop.invariant

pub returns : goal.returns
returns c =
    let size = length-map c.args.here.now.site.method.now.variables.items variable_model in
    let ends : c.len-end.result ≡ length c.args.here.now.site.method.now.variables.items = c.len-end.ensures ∙ c.args.here.now.site.method.now.variables.ok.0 in
    looked_all (method_of c.args.here.now) (row_of c.args.here.now) c.args.given c.args.outer c.args.last c.loop.at c.loop.counter _ (subst (λ n. n ≤ c.loop.counter) (ends ∙ sym size) c.loop-test.false) c.loop.invariant

pub loop-preserved : goal.loop-preserved
loop-preserved c =
    let size = length-map c.args.here.now.site.method.now.variables.items variable_model in
    let ends : c.len-end.result ≡ length c.args.here.now.site.method.now.variables.items = c.len-end.ensures ∙ c.args.here.now.site.method.now.variables.ok.0 in
    subst (λ a. Looked (method_of c.args.here.now) (row_of c.args.here.now) c.args.given c.args.outer c.args.last a (c.loop.counter + 1) (option_map (λ v. v.0) c.kept_or-first.result)) (sym c.outer_of-at.ensures)
    (looked_more (method_of c.args.here.now) (row_of c.args.here.now) c.args.given c.args.outer c.args.last c.loop.at c.in-Some.variable c.loop.counter _ _
    (subst (λ n. c.loop.counter < n) (ends ∙ sym size) c.loop-test.true) c.in-Some.is (sym c.is_this.ensures ∙ c.if-is_this.false) c.kept_or-first.ensures c.loop.invariant)
