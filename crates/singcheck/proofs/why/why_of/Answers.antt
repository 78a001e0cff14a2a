use Rattle.std.proofs.lemmas.Result.{IfOk-weaker}
use Rattle.singcheck.proofs.why.why_of.Goals as goal

pub returns-in-Ok : goal.returns-in-Ok
returns-in-Ok c = IfOk-weaker c.why_methods.result _ _ (λ r told. told c.args.text.now c.in-Ok.ensures.program.has) c.why_methods.ensures
