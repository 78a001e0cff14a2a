use Rattle.std.proofs.Common.{List, ◌++◌, sym, ap, ◌∙◌}
use Rattle.std.proofs.lemmas.List.{append_assoc}
use Rattle.tree.specs.ExpressionTrees.{expression_tree}
use Rattle.declarations.specs.declared.mistake.Mistake.{Mistake}
use Rattle.names.specs.Expressions.{asked_number, element_mistakes, expression_mistakes, place_of, type_named, type_of, variable_mistakes}
use Rattle.names.specs.Operands.{in_frame}
use Rattle.names.specs.Shapes.{shape}
use Rattle.names.proofs.targets.judge_element_target.Goals as goal

pub returns : goal.returns
returns c = record {
  all = λ p f scope frame.
      let s = in_frame p f in
      let e = shape (expression_tree c.args.index.now) in
      let name = c.args.variable in
      let old = c.args.found.now.items in
      let element = (c.in_ok-element.ensures e old c.in_ok-index.ensures).all p f scope frame in
      let asked = asked_number (type_of s e) (place_of e) in
      let used = variable_mistakes s name ++ element_mistakes (type_named s name) name in
      record {
        ty = element.ty;
        found = record { all = element.found.all ∙ ap (λ (l : List Mistake). old ++ l) (sym (append_assoc (expression_mistakes s e) asked used)) };
      };
}
