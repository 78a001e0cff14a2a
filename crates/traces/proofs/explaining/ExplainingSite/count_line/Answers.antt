use Rattle.std.proofs.Common.{◌∷◌, ◌++◌, [], ap, codes, ◌∙◌}
use Rattle.rules.specs.Programs.{model_of}
use Rattle.analyse.specs.Verdicts.{place_of_method}
use Rattle.traces.proofs.ManyLemmas.{is_line}
use Rattle.traces.proofs.explaining.ExplainingSite.count_line.Goals as goal

pub returns : goal.returns
returns c =
    ap (λ l. l ∷ []) (is_line c.in_ok-line.line (place_of_method (model_of c.args.self.now.program.now) c.args.self.now.method.0) _ (c.in_ok-line.ensures.place ∙ c.requires)
    (c.in_ok-line.ensures.text ∙ ap (λ digits. codes "more than " ++ (digits ++ codes " pairs are reached")) (c.as_bytes.ensures.value ∙ c.format-most.ensures.text)))
