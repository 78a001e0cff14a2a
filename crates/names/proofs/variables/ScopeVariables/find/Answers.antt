use Rattle.std.proofs.Common.{ap, ◌∙◌}
use Rattle.std.specs.Prelude.{option_map}
use Rattle.names.specs.Frames.{variable_model}
use Rattle.names.proofs.VariableLemmas.{variable_found}
use Rattle.names.proofs.variables.ScopeVariables.find.Goals as goal

pub returns : goal.returns
returns c = λ f h. ap (option_map variable_model) c.find.ensures ∙ variable_found c.args.text.now f c.args.self.now c.args.name _ h c.slice.ensures
