use Rattle.std.proofs.Common.{map, sym, subst}
use Rattle.std.specs.Prelude.{OnOk}
use Rattle.tree.specs.ExpressionTrees.{expression_tree}
use Rattle.names.specs.Bodies.{scope_in, inside_of}
use Rattle.names.specs.Expressions.{variable_of}
use Rattle.declarations.specs.Mistakes.{Adds}
use Rattle.names.specs.Shapes.{shape}
use Rattle.names.specs.Values.{front_mistakes, member_mistakes}
use Rattle.names.proofs.calls.judge_call.Goals as goal

pub returns-in-Some : goal.returns-in-Some
returns-in-Some c = λ m f around frame.
    let call = c.args.call.now in
    let s = scope_in m f in
    subst (λ o. OnOk c.judge_member.result (Adds c.args.found.now.items c.judge_member.new.found.items (front_mistakes (inside_of m f) c.args.purpose o call.name (map shape (map expression_tree call.arguments.items)))))
    (sym c.in-Some.is)
    (subst (λ xs. OnOk c.judge_member.result (Adds c.args.found.now.items c.judge_member.new.found.items (member_mistakes s (variable_of s call.name) c.args.purpose call.name c.in-Some.name (map shape (map expression_tree xs)))))
    c.deref-in-Some.ensures.value
    (c.judge_member.ensures m.program f (c.context-context.ensures m f around frame)))
