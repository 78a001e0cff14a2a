use Rattle.std.proofs.Common.{ap, ◌∙◌}
use Rattle.flow.specs.Lowering.{graph_of}
use Rattle.program.specs.Methods.{method_model}
use Rattle.flow.specs.Graphs.{instruction_model}
use Rattle.std.proofs.Common.{map}
use Rattle.traces.proofs.NameLemmas.{instruction_there, no_instruction}
use Rattle.traces.proofs.teller.Teller.instruction_at.Goals as goal

pub returns-in-Some : goal.returns-in-Some
returns-in-Some c =
    instruction_there c.deref.result.now (graph_of (method_model c.args.self.now.method.now)).instructions c.args.point c.in-Some.instr.now
    (ap (map instruction_model) c.deref.ensures.value ∙ ap (λ g. g.instructions) c.requires.graph) c.in-Some.ensures.lookup.3.0 c.in-Some.ensures.lookup.1

pub returns-in-None : goal.returns-in-None
returns-in-None c =
    no_instruction c.deref.result.now (graph_of (method_model c.args.self.now.method.now)).instructions c.args.point
    (ap (map instruction_model) c.deref.ensures.value ∙ ap (λ g. g.instructions) c.requires.graph) c.in-None.ensures.lookup.3
