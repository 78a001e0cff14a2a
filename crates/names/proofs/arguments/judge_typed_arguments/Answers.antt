use Rattle.std.proofs.Common.{◌∙◌, ap, map, subst}
use Rattle.std.specs.Prelude.{OnOk}
use Rattle.tree.specs.ExpressionTrees.{expression_tree}
use Rattle.names.specs.Expressions.{InScope}
use Rattle.declarations.specs.Mistakes.{Adds}
use Rattle.declarations.specs.Types.{type_meant}
use Rattle.names.specs.Shapes.{shape}
use Rattle.names.specs.Values.{argument_mistakes}
use Rattle.names.proofs.PendingLemmas.{enough_types}
use Rattle.names.proofs.arguments.judge_typed_arguments.Goals as goal

pub returns : goal.returns
returns g c = λ p f scope frame.
    let s : InScope = record { program = p; variables = f.variables } in
    let args = c.args.arguments.now in
    let es = map shape (map expression_tree args) in
    subst (λ l. OnOk c.judge_arguments.result (Adds c.args.found.now.items c.judge_arguments.new.found.items l))
    (ap (λ types. argument_mistakes s types es) (c.deref.ensures.value ∙ c.in_ok-types.ensures p scope) ∙ enough_types expression_tree (λ x. type_meant p (g.T.Typed.as_written x)) s c.args.typed.now args)
    (c.judge_arguments.ensures p f scope frame)
