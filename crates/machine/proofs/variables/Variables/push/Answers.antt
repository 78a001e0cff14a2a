use Rattle.std.proofs.Common.{◌≡◌, ◌∙◌, ◌+◌, ap, length, sym}
use Rattle.std.specs.List.{insert}
use Rattle.machine.specs.Bindings.{variables_in}
use Rattle.machine.proofs.BindingLemmas.{pushed_none, pushed_some}
use Rattle.machine.proofs.variables.Variables.push.Goals as goal

pub returns-in_default-clause-more : goal.returns-in_default-clause-more
returns-in_default-clause-more c =
    pushed_none c.args.self.now.count c.args.self.now.bindings.items c.args.x c.args.self.now.kept c.in_default.is

pub returns-clause-more : goal.returns-clause-more
returns-clause-more c =
    let count = c.args.self.now.count in
    let l = c.args.self.now.bindings.items in
    let last : c.len-last.result ≡ length l = c.len-last.ensures ∙ c.args.self.now.bindings.ok.0 in
    ap (variables_in (count + 1)) (c.in_ok-insert.ensures.items ∙ ap (λ i. insert l i c.new.result) last)
    ∙ pushed_some count l c.new.result c.args.x c.args.self.now.kept (c.new.ensures.variable ∙ c.in-Ok.ensures.1)
    (c.new.ensures.has ∙ sym c.in-Some.is)
