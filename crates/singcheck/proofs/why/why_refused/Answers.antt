use Rattle.std.proofs.Common.{◌∙◌, ap, map}
use Rattle.explanations.specs.Explained.{explained_model}
use Rattle.singcheck.specs.Explains.{explained_bytes}
use Rattle.singcheck.proofs.ExplainLemmas.{explains_noted}
use Rattle.singcheck.proofs.why.why_refused.Goals as goal

pub returns : goal.returns
returns c =
    explains_noted c.args.named c.args.text.now c.in_ok-explained_report.field-0.items c.in_ok-explained.explained.items c.in_ok-listed.listed.items
    c.in_ok-explained.ensures c.in_ok-listed.ensures.same c.in_ok-listed.ensures.among c.in_ok-listed.ensures.ordered
    (c.in_ok-explained_report.ensures ∙ ap (λ l. explained_bytes (map explained_model l)) c.deref.ensures.value)
