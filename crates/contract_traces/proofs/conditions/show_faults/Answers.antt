use Rattle.std.proofs.Common.{◌∷◌, ◌++◌, [], map, sym, ap, subst, ◌∙◌}
use Rattle.std.specs.List.{All}
use Rattle.std.proofs.lemmas.List.{map-append}
use Rattle.std.proofs.lemmas.List.Elements.{All-append, All-cons, All-nil}
use Rattle.program.specs.Parts.{contract_parts}
use Rattle.source.specs.Findings.{finding_model}
use Rattle.explanations.specs.Explained.{explained_model}
use Rattle.contract_traces.specs.Shown.{IsShown}
use Rattle.explanations.specs.declared.line.Explained.{Explained}
use Rattle.contract_traces.proofs.conditions.show_faults.Goals as goal

pub loop-finding-preserved : goal.loop-finding-preserved
loop-finding-preserved c =
    let parts = λ (x : Explained). finding_model x.finding in
    let holds = λ (x : Explained). IsShown c.args.named (contract_parts c.args.contract.now) (explained_model x) in
    let old = c.loop-finding.shown.items in
    let e : Explained = record { finding = c.in-Some.finding; lines = c.in_ok-lines.lines } in
    record {
      same = ap (map parts) c.in_ok-push.ensures.items ∙ map-append parts old (e ∷ [])
          ∙ ap (λ l. l ++ finding_model c.in-Some.finding ∷ []) c.loop-finding.invariant.same
          ∙ sym (map-append finding_model c.loop-finding.yielded (c.in-Some.finding ∷ []));
      shown = subst (All holds) (sym c.in_ok-push.ensures.items) (All-append holds old (e ∷ []) c.loop-finding.invariant.shown (All-cons holds e [] c.in_ok-lines.ensures (All-nil holds)));
    }
