use Rattle.std.proofs.Common.{◌∷◌, [], map}
use Rattle.tree.specs.ExpressionTrees.{expression_tree}
use Rattle.declarations.specs.declared.mistake.Mistake.TheVariants.{Unknown}
use Rattle.names.specs.Operands.{in_frame}
use Rattle.names.specs.Shapes.{shape}
use Rattle.names.specs.Values.{argument_mistakes}
use Rattle.names.proofs.PassLemmas.{on_adds}
use Rattle.names.proofs.calls.judge_unknown.Goals as goal

pub returns : goal.returns
returns c = λ p f here.
    on_adds c.judge_arguments.result c.args.found.now.items c.add_unknown.new.found.items c.judge_arguments.new.found.items (Unknown c.args.name c.args.sort ∷ []) (argument_mistakes (in_frame p f) [] (map shape (map expression_tree c.args.arguments.now)))
    c.in_ok-add_unknown.ensures
    (c.judge_arguments.ensures p f here.scope here.frame)
