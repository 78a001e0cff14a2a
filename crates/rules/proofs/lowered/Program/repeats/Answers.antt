use Rattle.flow.specs.Lowering.{graph_of}
use Rattle.program.specs.Methods.{MethodModel}
use Rattle.program.specs.Programs.{methods_model}
use Rattle.rules.specs.Repeats.{again_in, repeated_in}
use Rattle.rules.proofs.ProgramLemmas.{same_at}
use Rattle.rules.proofs.lowered.Program.repeats.Goals as goal

pub returns : goal.returns
returns c = same_at repeated_in (λ (m : MethodModel). again_in (graph_of m)) c.args.self.now.repeats.items (methods_model c.args.self.now.methods) c.args.method.0 c.index.result.now c.args.self.now.told c.requires.there c.index.ensures
