use Rattle.std.proofs.Common.{refl, ap, sym, ◌∙◌}
use Rattle.std.specs.Prelude.{option_map}
use Rattle.names.specs.Frames.{variable_model}
use Rattle.names.proofs.VariableLemmas.{variable_found, entered_known, entered_new}
use Rattle.names.proofs.variables.ScopeVariables.enter.Goals as goal

pub returns-in-Some : goal.returns-in-Some
returns-in-Some c = λ f h.
    let text = c.args.text.now in
    let is = variable_found text f c.args.self.now c.args.variable.name _ h c.slice-word.ensures in
    entered_known c.add_twice.result text f c.args.self.now c.args.variable c.in-Some.known c.args.found.now.items c.add_twice.new.found.items h
    (sym (ap (option_map variable_model) c.in-Some.is) ∙ ap (option_map variable_model) c.find.ensures ∙ is) c.add_twice.ensures

pub returns-in_ok-add-in-None : goal.returns-in_ok-add-in-None
returns-in_ok-add-in-None c = λ f h.
    let text = c.args.text.now in
    let is = variable_found text f c.args.self.now c.args.variable.name _ h c.slice-word.ensures in
    entered_new text f c.args.self.now _ c.args.variable c.slice-word.result.now c.args.found.now.items h c.slice-word.ensures
    (sym (ap (option_map variable_model) c.in-None.is) ∙ ap (option_map variable_model) c.find.ensures ∙ is) c.in_ok-add-in-None.ensures.added refl
