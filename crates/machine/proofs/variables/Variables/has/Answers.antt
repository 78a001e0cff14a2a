use Rattle.std.proofs.Common.{sym, ◌∙◌}
use Rattle.std.proofs.lemmas.List.{get_or_read}
use Rattle.machine.specs.Bindings.{no_binding}
use Rattle.machine.proofs.BindingLemmas.{read_at, read_gap}
use Rattle.machine.proofs.variables.Variables.has.Goals as goal

pub returns-in-Ok : goal.returns-in-Ok
returns-in-Ok c =
    let l = c.args.self.now.bindings.items in
    let at = c.in-Ok.ensures.found in
    c.has.ensures ∙ sym (read_at c.args.self.now.count l c.args.self.now.kept c.args.v.0 c.in-Ok.at c.index.result.now at
    (get_or_read l c.in-Ok.at c.index.result.now at.within c.index.ensures no_binding))

pub returns-in-Err : goal.returns-in-Err
returns-in-Err c = sym (read_gap c.args.self.now.count c.args.self.now.bindings.items c.args.self.now.kept c.args.v.0 c.in-Err.field-0 c.in-Err.ensures.absent)
