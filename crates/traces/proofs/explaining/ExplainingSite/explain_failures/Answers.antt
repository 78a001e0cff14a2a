use Rattle.std.proofs.Common.{◌++◌, ◌∷◌, [], get_or, map, take, sym, ap, ap₂, subst, ◌∙◌}
use Rattle.std.specs.List.{All}
use Rattle.std.proofs.lemmas.List.{map-append, take_more}
use Rattle.std.proofs.lemmas.List.Elements.{All-append, All-cons, All-nil}
use Rattle.source.specs.Findings.{finding_model}
use Rattle.rules.specs.Breaches.{breach_in}
use Rattle.rules.specs.Programs.{model_of}
use Rattle.analyse.specs.declared.trail.Failure.{Failure}
use Rattle.explanations.specs.Explained.{explained_model}
use Rattle.traces.specs.Explained.{IsExplainedIf}
use Rattle.explanations.specs.declared.line.Explained.{Explained}
use Rattle.traces.proofs.explaining.ExplainingSite.explain_failures.Goals as goal

pub loop-failure-preserved : goal.loop-failure-preserved
loop-failure-preserved c =
    let i = c.loop-failure.invariant in
    let p = model_of c.args.self.now.program.now in
    let n = c.args.self.now.method.0 in
    let at = c.loop-failure.failure-index in
    let items = c.failures-failure-items.result.now in
    let old = c.loop-failure.found.items in
    let e = c.in_ok-explain_failure.field-0 in
    let parts = λ (x : Explained). finding_model x.finding in
    let says = λ (k : Failure). breach_in p n k.breach in
    let holds = λ (x : Explained). IsExplainedIf c.args.self.now.named p n (explained_model x) in
    record {
      worker = c.explain_failure.ensures.worker;
      differ = c.explain_failure.ensures.differ;
      seen = λ pairs has. c.explain_failure.ensures.seen pairs (i.seen pairs has);
      found = ap (map parts) c.in_ok-push.ensures.items ∙ map-append parts old (e ∷ [])
          ∙ ap₂ (λ a b. a ++ b ∷ []) i.found c.in_ok-explain_failure.ensures.finding
          ∙ sym (ap (map says) (take_more items at _ c.loop-failure-test.true) ∙ map-append says (take at items) (get_or items at _ ∷ []));
      explained = subst (All holds) (sym c.in_ok-push.ensures.items) (All-append holds old (e ∷ []) i.explained (All-cons holds e [] c.in_ok-explain_failure.ensures.explained (All-nil holds)));
    }
