use Rattle.std.proofs.Common.{map, sym, ap, ◌∙◌, subst}
use Rattle.std.specs.Prelude.{OnOk}
use Rattle.tree.specs.ExpressionTrees.{expression_tree}
use Rattle.names.specs.Operands.{in_frame}
use Rattle.declarations.specs.Mistakes.{Adds}
use Rattle.names.specs.Frames.{IsNameFrame}
use Rattle.names.specs.Shapes.{shape}
use Rattle.names.specs.Values.{member_mistakes}
use Rattle.names.specs.Variables.{variable_named}
use Rattle.names.proofs.calls.judge_member.Goals as goal

pub returns-in-None : goal.returns-in-None
returns-in-None c = λ p f here.
    let s = in_frame p f in
    let args = map shape (map expression_tree c.args.site.now.arguments.now) in
    let none = c.in-None.ensures f (subst (λ t. IsNameFrame t f c.args.context.now.variables.now) (sym here.scope.text_is) here.frame) in
    subst (λ o. OnOk c.judge_class.result (Adds c.args.found.now.items c.judge_class.new.found.items (member_mistakes s o c.args.site.now.purpose c.args.front c.args.site.now.name args)))
    (none ∙ ap (λ t. variable_named t f.variables c.args.front) here.scope.text_is)
    (c.judge_class.ensures p f here)

pub returns-in-Some : goal.returns-in-Some
returns-in-Some c = λ p f here.
    let s = in_frame p f in
    let args = map shape (map expression_tree c.args.site.now.arguments.now) in
    let some = c.in-Some.ensures f (subst (λ t. IsNameFrame t f c.args.context.now.variables.now) (sym here.scope.text_is) here.frame) in
    subst (λ o. OnOk c.judge_send.result (Adds c.args.found.now.items c.judge_send.new.found.items (member_mistakes s o c.args.site.now.purpose c.args.front c.args.site.now.name args)))
    (some ∙ ap (λ t. variable_named t f.variables c.args.front) here.scope.text_is)
    (c.judge_send.ensures p f here)
