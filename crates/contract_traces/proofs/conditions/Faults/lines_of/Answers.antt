use Rattle.std.proofs.Common.{◌∙◌, ap, map, rules, sym}
use Rattle.std.proofs.lemmas.Bool.{false≢true}
use Rattle.std.proofs.lemmas.Result.{IfOk-weaker}
use Rattle.program.specs.Parts.{contract_parts}
use Rattle.source.specs.Findings.{finding_model}
use Rattle.source.specs.contracts.finding.Code.{the_type}
use Rattle.source.specs.declared.finding.Code.TheVariants.{C01}
use denote.Enum.Bare.{same_true, sameb}
use Rattle.explanations.specs.Lines.{line_model}
use Rattle.contract_traces.specs.Shown.{edge_line}
use Rattle.contract_traces.proofs.ConditionLemmas.{edges_shown, sign_shown}
use Rattle.contract_traces.proofs.conditions.Faults.lines_of.Goals as goal

pub returns-then-eq : goal.returns-then-eq
returns-then-eq c =
    let parts = contract_parts c.args.self.now.contract.now in
    let f = finding_model c.args.finding.now in
    IfOk-weaker c.direction_lines.result _ _ (λ lines h. sign_shown c.args.self.now.named parts f (map line_model lines.items) (sym c.is_asked.ensures ∙ c.if-not-is_asked.false)
    (same_true the_type (search rules) _ _ (sym c.if-eq.ensures)) h) c.direction_lines.ensures

pub returns : goal.returns
returns c =
    let parts = contract_parts c.args.self.now.contract.now in
    let f = finding_model c.args.finding.now in
    IfOk-weaker c.edge_lines.result _ _
    (λ lines is. edges_shown c.args.self.now.named parts f c.in_ok-shown.shown.items (map line_model lines.items) (sym c.is_asked.ensures ∙ c.if-not-is_asked.false)
    (λ is'. false≢true (c.if-eq.ensures ∙ ap (λ x. sameb the_type x C01) is')) c.in_ok-shown.ensures
    (is ∙ ap (map (edge_line parts)) c.deref.ensures.value))
    c.edge_lines.ensures
