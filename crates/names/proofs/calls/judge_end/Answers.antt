use Rattle.std.proofs.Common.{map, subst}
use Rattle.std.specs.Prelude.{OnOk}
use Rattle.tree.specs.ExpressionTrees.{expression_tree}
use Rattle.declarations.specs.Mistakes.{Adds}
use Rattle.names.specs.Operands.{in_frame}
use Rattle.names.specs.Shapes.{shape}
use Rattle.names.specs.Values.{message_mistakes}
use Rattle.names.proofs.calls.judge_end.Goals as goal

pub returns-in-Some : goal.returns-in-Some
returns-in-Some c = λ p f here.
    subst (λ o. OnOk c.judge_known_message.result (Adds c.args.found.now.items c.judge_known_message.new.found.items
    (message_mistakes (in_frame p f) c.args.index o c.args.end c.args.site.now.purpose c.args.site.now.name (map shape (map expression_tree c.args.site.now.arguments.now)))))
    (c.in-Some.ensures p here.scope) (c.judge_known_message.ensures c.args.index p f here)
