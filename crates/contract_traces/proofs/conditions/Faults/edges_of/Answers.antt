use Rattle.std.proofs.lemmas.Result.{IfOk-weaker}
use Rattle.program.specs.Parts.{contract_parts}
use Rattle.contract_traces.proofs.ConditionLemmas.{both_showing, earlier_showing}
use Rattle.contract_traces.proofs.conditions.Faults.edges_of.Goals as goal

pub returns-in-C02 : goal.returns-in-C02
returns-in-C02 c =
    let parts = contract_parts c.args.self.now.contract.now in
    IfOk-weaker c.earlier_edge.result _ _ (λ shown h. earlier_showing parts c.args.code c.args.place shown.items c.in-C02.is h) c.earlier_edge.ensures

pub returns-in-C03 : goal.returns-in-C03
returns-in-C03 c =
    let parts = contract_parts c.args.self.now.contract.now in
    IfOk-weaker c.both_edges.result _ _ (λ shown h. both_showing parts c.args.code c.args.place shown.items c.in-C03.is h) c.both_edges.ensures
