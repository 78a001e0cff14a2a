use Rattle.std.proofs.Common.{◌++◌, ◌&&◌, map, subst, arith}
use Rattle.std.specs.Prelude.{OnOk}
use Rattle.tree.specs.ExpressionTrees.{expression_tree}
use Rattle.tree.specs.declared.contract.MessageParameter.{MessageParameter}
use Rattle.names.specs.Operands.{in_frame}
use Rattle.declarations.specs.Mistakes.{Adds}
use Rattle.declarations.specs.Types.{type_meant, unless}
use Rattle.names.specs.Shapes.{shape}
use Rattle.names.specs.Values.{send_mismatch, argument_mistakes, number_of_arguments, is_alone, sends}
use Rattle.names.proofs.PassLemmas.{on_adds}
use Rattle.names.proofs.PendingLemmas.{numbered}
use Rattle.names.proofs.calls.judge_known_message.Goals as goal

pub returns : goal.returns
returns c = λ n p f here.
    let s = in_frame p f in
    let message = c.args.message.now in
    let params = message.params.items in
    let args = c.args.site.now.arguments.now in
    let es = map shape (map expression_tree args) in
    let place = c.args.site.now.name.place in
    let result = c.judge_typed_arguments.result in
    let old = c.args.found.now.items in
    let asked = c.ask.new.found.items in
    let counted = c.judge_count.new.found.items in
    let new = c.judge_typed_arguments.new.found.items in
    let types = map (λ (x : MessageParameter). type_meant p x.ty) params in
    on_adds result old asked new (unless (is_alone c.args.site.now.purpose && sends c.args.end message.direction) place (send_mismatch c.args.site.now.purpose c.args.end c.args.site.now.name)) (number_of_arguments params es place ++ argument_mistakes s types es)
    (subst (λ b. Adds old asked (unless b place (send_mismatch c.args.site.now.purpose c.args.end c.args.site.now.name))) c.is_sent-well.ensures
    (subst (λ m. Adds old asked (unless c.is_sent-well.result place m)) c.send_mismatch.ensures c.in_ok-ask.ensures))
    (on_adds result asked counted new (number_of_arguments params es place) (argument_mistakes s types es)
    (numbered expression_tree params c.len.result args place (omega (arith, c.len.ensures, message.params.ok.0)) c.in_ok-judge_count.ensures)
    (subst (λ ps. OnOk result (Adds counted new (argument_mistakes s (map (λ x. type_meant p x.ty) ps) es))) c.deref.ensures.value (c.judge_typed_arguments.ensures p f here.scope here.frame)))
