use Rattle.flow.specs.Graphs.{graph_model}
use Rattle.flow.specs.Lowering.{graph_of}
use Rattle.program.specs.Programs.{methods_model}
use Rattle.rules.proofs.ProgramLemmas.{same_at}
use Rattle.rules.proofs.lowered.Program.graph.Goals as goal

pub returns : goal.returns
returns c = same_at graph_model graph_of c.args.self.now.graphs.items (methods_model c.args.self.now.methods) c.args.method.0 c.index.result.now c.args.self.now.lowered c.requires.there c.index.ensures
