use Rattle.std.proofs.Common.{[], map, sym, subst}
use Rattle.std.specs.Prelude.{OnOk}
use Rattle.tree.specs.ExpressionTrees.{expression_tree}
use Rattle.names.specs.Operands.{in_frame}
use Rattle.declarations.specs.Mistakes.{Adds}
use Rattle.declarations.specs.declared.mistake.Demand.TheVariants as demand
use Rattle.declarations.specs.declared.mistake.Mismatch.TheVariants.{Given}
use Rattle.declarations.specs.Types.{is_silent, unless}
use Rattle.names.specs.Shapes.{shape}
use Rattle.names.specs.Values.{argument_mistakes}
use Rattle.names.proofs.PassLemmas.{on_adds, no_send}
use Rattle.names.proofs.calls.judge_send.Goals as goal

pub returns-in_ok-ask-in_default : goal.returns-in_ok-ask-in_default
returns-in_ok-ask-in_default c = λ p f here.
    let s = in_frame p f in
    let args = map shape (map expression_tree c.args.site.now.arguments.now) in
    let old = c.args.found.now.items in
    let new = c.judge_arguments.new.found.items in
    let place = c.args.variable.place in
    subst (λ l. OnOk c.judge_arguments.result (Adds old new l))
    (sym (no_send s c.args.ty c.args.site.now.purpose c.args.variable c.args.site.now.name args c.in_default.not-Endpoint))
    (on_adds c.judge_arguments.result old c.ask.new.found.items new (unless (is_silent c.args.ty) place (Given demand.Endpoint c.args.ty)) (argument_mistakes s [] args)
    (subst (λ b. Adds old c.ask.new.found.items (unless b place (Given demand.Endpoint c.args.ty))) c.is_silent.ensures c.in_ok-ask-in_default.ensures)
    (c.judge_arguments.ensures p f here.scope here.frame))
