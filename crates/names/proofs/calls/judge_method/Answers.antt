use Rattle.std.proofs.Common.{◌≡◌, ◌∙◌, Some, ap, map, sym, subst}
use Rattle.std.specs.Prelude.{OnOk, option_map}
use Rattle.tree.specs.ExpressionTrees.{expression_tree}
use Rattle.tree.specs.Trees.{method_tree}
use Rattle.declarations.specs.Mistakes.{Adds}
use Rattle.declarations.specs.Owning.{can_start}
use Rattle.declarations.specs.declared.starts.Callee.{Callee}
use Rattle.names.specs.Operands.{in_frame}
use Rattle.names.specs.Shapes.{shape}
use Rattle.names.specs.Values.{method_mistakes}
use Rattle.names.proofs.calls.judge_method.Goals as goal

pub returns-in-Some : goal.returns-in-Some
returns-in-Some c = λ m known p f here.
    let callee = c.in-Some.callee in
    let method = method_tree callee.method.now in
    let is : Some method ≡ m = ap (option_map (λ (x : Callee). method_tree x.method.now)) (sym c.in-Some.is) ∙ known.method in
    let can : Some callee.startable ≡ Some (can_start method) = ap (option_map (λ (x : Callee). x.startable)) (sym c.in-Some.is) ∙ known.startable ∙ ap (option_map can_start) (sym is) in
    let startable : callee.startable ≡ can_start method = cc in
    subst (λ o. OnOk c.judge_known_method.result (Adds c.args.found.now.items c.judge_known_method.new.found.items
    (method_mistakes (in_frame p f) o c.args.class c.args.site.now.purpose c.args.site.now.name (map shape (map expression_tree c.args.site.now.arguments.now))))) is
    (c.judge_known_method.ensures c.args.class startable p f here)
