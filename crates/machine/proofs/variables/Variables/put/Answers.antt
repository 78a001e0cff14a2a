use Rattle.std.proofs.Common.{◌≡◌, ap, ◌∙◌, set}
use Rattle.std.proofs.lemmas.List.{get_or_read}
use Rattle.machine.specs.Bindings.{no_binding, variables_in}
use Rattle.machine.specs.declared.variables.Binding.{Binding}
use Rattle.machine.proofs.BindingLemmas.{put_gap, put_sorted, put_variables}
use Rattle.machine.proofs.TakeLemmas.{put_may}
use Rattle.machine.proofs.variables.Variables.put.Goals as goal
use Rattle.machine.proofs.variables.Variables.put.Goals.{After-new}

same : (c : After-new) → c.new.result.variable ≡ c.args.v.0
same c =
    let at = c.in-Ok.ensures.found in
    let read = get_or_read c.args.self.now.bindings.items c.in-Ok.at c.index.result.now at.within c.index.ensures no_binding in
    c.new.ensures.variable ∙ (ap (λ (b : Binding). b.variable) read ∙ at.same)

pub invariant_of-self : goal.invariant_of-self
invariant_of-self c = record {
  kept = put_sorted c.args.self.now.count c.args.self.now.bindings.items c.args.self.now.kept c.args.v.0 c.in-Ok.at c.new.result
      c.in-Ok.ensures.found (same (goal.at.invariant_of-self c).After-new);
}

pub returns-in-Ok-clause-put : goal.returns-in-Ok-clause-put
returns-in-Ok-clause-put c =
    let l = c.args.self.now.bindings.items in
    put_variables c.args.self.now.count l c.args.self.now.kept c.args.v.0 c.in-Ok.at c.new.result
    c.in-Ok.ensures.found (same (goal.at.returns-in-Ok-clause-put c).After-new)
    ∙ ap (set (variables_in c.args.self.now.count l) c.args.v.0) c.new.ensures.has

pub returns-in-Ok-clause-still : goal.returns-in-Ok-clause-still
returns-in-Ok-clause-still c =
    put_may c.args.self.now.count c.args.self.now.bindings.items c.args.v.0 c.in-Ok.at c.new.result
    c.in-Ok.ensures.found (same (goal.at.returns-in-Ok-clause-still c).After-new)

pub returns-in_default-clause-put : goal.returns-in_default-clause-put
returns-in_default-clause-put c =
    put_gap c.args.self.now.count c.args.self.now.bindings.items c.args.self.now.kept c.args.v.0 c.in_default.field-0 c.args.x
    c.in_default.ensures.absent c.requires.takes
