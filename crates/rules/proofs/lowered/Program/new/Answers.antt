use Rattle.std.proofs.Common.{map, ap, ◌∙◌}
use Rattle.flow.specs.Graphs.{graph_model}
use Rattle.flow.specs.Lowering.{graph_of}
use Rattle.program.specs.Programs.{methods_model}
use Rattle.program.specs.WellFormed.{parameters}
use Rattle.rules.specs.Repeats.{again_in}
use Rattle.rules.proofs.RepeatLemmas.{told_of}
use Rattle.rules.proofs.lowered.Program.new.Goals as goal

pub invariant_of-result-clause-told : goal.invariant_of-result-clause-told
invariant_of-result-clause-told c =
    told_of c.in_ok-repeats.repeats.items c.in_ok-graphs.graphs.items (methods_model c.args.methods)
    (c.in_ok-repeats.ensures ∙ ap (map (λ g. again_in (graph_model g))) c.deref.ensures.value) (c.in_ok-graphs.ensures ∙ ap (map graph_of) c.list.ensures.list)

pub invariant_of-result-clause-asked : goal.invariant_of-result-clause-asked
invariant_of-result-clause-asked c = c.in_ok-parameters.ensures ∙ ap (map (λ m. map (λ v. v.ty) (parameters m))) c.list-2.ensures.list
