use Rattle.std.proofs.Common.{subst, refl, false}
use Rattle.std.specs.Prelude.{[]}
use Rattle.std.proofs.lemmas.Result.{on_ok_weaker}
use Rattle.names.specs.Bodies as bodies
use Rattle.names.specs.Frames.{Turned}
use Rattle.names.specs.Methods.{parameters_turn}
use Rattle.names.specs.Variables.{NameFrame}
use Rattle.declarations.proofs.AddLemmas.{adds_then}
use Rattle.names.proofs.methods.judge_method.Goals as goal

pub returns : goal.returns
returns c = λ p k h j.
    let none : NameFrame = record { variables = []; heap = 0 } in
    let m : bodies.Surroundings = record { program = p; class = k; result = c.args.method.now.result; breaks = false; continues = false } in
    let first = c.in_ok-judge_result.ensures p h in
    let params = subst (λ l. Turned p.text c.judge_result.new.found.items c.judge_parameters.new.found.items c.judge_parameters.new.variables (parameters_turn p l none)) c.deref.ensures.value
    (c.in_ok-judge_parameters.ensures p none h (c.new-variables.ensures p.text)) in
    on_ok_weaker c.judge_block.result (λ last. adds_then first (adds_then params.found last.found))
    (c.judge_block.ensures m _ (record { scope = h; class = j; result = refl; breaks = refl; continues = refl }) params.frame)
