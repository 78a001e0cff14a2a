use Rattle.std.proofs.Common.{◌∙◌, Some, slice_get, refl, sym, ap}
use Rattle.std.proofs.lemmas.Option.{slice_get_read}
use Rattle.rules.specs.Programs.{model_of}
use Rattle.machine.specs.Frames.{method_at}
use Rattle.machine.proofs.StandLemmas.{standing}
use Rattle.machine.proofs.standing.instruction_at.Goals as goal

pub returns : goal.returns
returns c =
    let p = model_of c.args.program.now in
    let point = c.args.frame.now.point in
    let i = c.in_ok-instruction.instruction.now in
    let look = c.in_ok-instruction.ensures.lookup in
    let there = ap (λ l. slice_get l point) (sym c.deref.ensures.value) ∙ slice_get_read c.deref.result.now _ point i refl look.3.0 look.1 in
    standing (method_at p c.args.frame.now.method.0) c.graph-graph.result.now point (Some i) c.graph-graph.ensures there
