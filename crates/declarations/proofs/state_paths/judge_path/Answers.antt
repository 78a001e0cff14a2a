use Rattle.std.proofs.Common.{subst}
use Rattle.std.specs.List.{flat_map}
use Rattle.std.proofs.lemmas.Result.{on_ok_weaker}
use Rattle.declarations.specs.Listed.{asked_message}
use Rattle.declarations.specs.Mistakes.{Adds}
use Rattle.declarations.proofs.AddLemmas.{adds_then}
use Rattle.declarations.proofs.state_paths.judge_path.Goals as goal

pub returns : goal.returns
returns c = λ messages states h k.
    let text = c.args.text.now in
    let others = subst (λ edges. Adds c.judge_message.new.found.items c.judge_edges.new.found.items (flat_map (λ e. asked_message text messages e.message) edges))
    c.deref.ensures.value (c.in_ok-judge_edges.ensures messages h) in
    on_ok_weaker c.judge_name.result
    (λ last. adds_then (c.in_ok-judge_message.ensures messages h) (adds_then others last))
    (c.judge_name.ensures states k)
