use Rattle.std.proofs.Common.{◌≡◌, ◌∷◌, ◌++◌, [], true, false, map, ap, subst, ◌∙◌}
use Rattle.rules.specs.Programs.{model_of}
use Rattle.source.specs.Findings.{finding_model}
use Rattle.source.specs.declared.place.Place.{Place}
use Rattle.analyse.specs.Verdicts.{too_many_pairs}
use Rattle.explanations.specs.Explained.{explained_model, is_asked}
use Rattle.traces.specs.Explained.{ByCount, IsExplainedIf}
use Rattle.explanations.specs.Lines.{line_model}
use Rattle.explanations.specs.declared.line.Explained.{Explained}
use Rattle.traces.proofs.ManyLemmas.{all_one, one_verdict, parts_of}
use Rattle.traces.proofs.explaining.ExplainingSite.explain_too_many.Goals as goal

pub returns-clause-verdict : goal.returns-clause-verdict
returns-clause-verdict c =
    one_verdict (model_of c.args.self.now.program.now) c.args.self.now.method.0 c.requires.many _
    (ap (map (λ (e : Explained). finding_model e.finding)) (c.in_ok-push.ensures.items ∙ ap (λ l. l ++ (record { finding = c.in_ok-finding.finding; lines = c.in_ok-lines.lines }) ∷ []) c.new-found.ensures.items)
    ∙ ap (λ f. f ∷ []) (parts_of c.in_ok-finding.finding _ c.in_ok-finding.ensures ∙ ap too_many_pairs c.place-place.ensures))

pub returns-clause-explained : goal.returns-clause-explained
returns-clause-explained c =
    let p = model_of c.args.self.now.program.now in
    let n = c.args.self.now.method.0 in
    let named = c.args.self.now.named in
    let at = c.in_ok-finding.ensures.place in
    let e : Explained = record { finding = c.in_ok-finding.finding; lines = c.in_ok-lines.lines } in
    all_one (λ (x : Explained). IsExplainedIf named p n (explained_model x)) c.push.new.self.items e
    (c.in_ok-push.ensures.items ∙ ap (λ l. l ++ e ∷ []) c.new-found.ensures.items)
    (record {
      asked = λ is. ByCount (record {
        many = c.requires.many;
        is = parts_of c.in_ok-finding.finding _ c.in_ok-finding.ensures ∙ ap too_many_pairs c.place-place.ensures;
        told = c.in_ok-lines.ensures.asked (subst (λ (q : Place). is_asked named q ≡ true) at is);
      });
      other = λ not. ap (map line_model) (c.in_ok-lines.ensures.other (subst (λ (q : Place). is_asked named q ≡ false) at not));
    })
