use Rattle.std.proofs.lemmas.Result.{on_ok_weaker}
use Rattle.declarations.proofs.AddLemmas.{adds_then}
use Rattle.names.proofs.methods.judge_class.Goals as goal

pub returns : goal.returns
returns c = λ p k h j.
    let first = c.in_ok-judge_method_names.ensures p k h j in
    on_ok_weaker c.judge_methods.result (λ last. adds_then first last) (c.judge_methods.ensures p k h j)
