use Rattle.std.proofs.Common.{◌≡◌, List, refl, sym, subst, ◌∙◌}
use Rattle.std.specs.Prelude.{None, Some}
use Rattle.std.proofs.lemmas.Result.{IfOk-weaker}
use Rattle.declarations.specs.declared.mistake.Mistake.{Mistake}
use Rattle.names.specs.Expressions.{InScope, expression_mistakes, type_named, variable_mistakes, whole_mistakes}
use Rattle.names.specs.Mentions.{GivesOperand}
use Rattle.declarations.specs.Mistakes.{Adds}
use Rattle.names.specs.Operands.{Judges, JudgesWhole, in_frame}
use Rattle.names.specs.Shapes.{Shape, Number, Truth, Mention, Field, Element, Parens, Signed, Joined, shape}
use Rattle.names.specs.declared.operands.Operand.{Operand}
use Rattle.declarations.specs.declared.scope.Scope.{Scope}
use Rattle.names.specs.declared.variables.ScopeVariables.{ScopeVariables}
use Rattle.tree.specs.Alone.{lone_name}
use Rattle.source.specs.declared.token.Span.{Span}
use Rattle.tree.specs.Expressions.{ExpressionTree}
use Rattle.tree.specs.ExpressionTrees.{expression_tree}
use Rattle.names.proofs.WholeNames.{lone_shape, not_lone}
use Rattle.names.proofs.wholes.judge_whole_operand.Goals as goal

-- an expression that is no lone name is judged as anywhere else
no_more : (s : InScope) (t : ExpressionTree) (e : Shape) → shape t ≡ e → lone_name t ≡ None → whole_mistakes s e ≡ expression_mistakes s e
no_more s t (Number place) is none = refl
no_more s t (Truth place) is none = refl
no_more s t (Mention name) is none = let some = not_lone t name is in absurd (cc)
no_more s t (Field name field) is none = refl
no_more s t (Element name index) is none = refl
no_more s t (Parens place inner) is none = refl
no_more s t (Signed sign place inner) is none = refl
no_more s t (Joined joint left right) is none = refl

judged_whole : (scope : Scope) (variables : ScopeVariables) (t : ExpressionTree) (old new : List Mistake) (o : Operand)
    → lone_name t ≡ None → Judges scope variables (shape t) old new o → JudgesWhole scope variables (shape t) old new o
judged_whole scope variables t old new o none judged = record {
  all = λ p f is_scope is_frame.
      let inner = judged.all p f is_scope is_frame in
      record {
        ty = inner.ty;
        place = inner.place;
        found = subst (Adds old new) (sym (no_more (in_frame p f) t (shape t) refl none)) inner.found;
      };
}

judged_name : (scope : Scope) (variables : ScopeVariables) (t : ExpressionTree) (name : Span) (old new : List Mistake) (o : Operand)
    → lone_name t ≡ Some name → o.place ≡ name.place → GivesOperand scope variables (λ s. type_named s name) (λ s. variable_mistakes s name) old new o.ty
    → JudgesWhole scope variables (shape t) old new o
judged_name scope variables t name old new o some at given =
    subst (λ e. JudgesWhole scope variables e old new o) (sym (lone_shape t name some)) (record {
      all = λ p f is_scope is_frame.
          let found = given.all p f is_scope is_frame in
          record { ty = found.ty; place = at; found = found.found };
    })

pub returns-in-None : goal.returns-in-None
returns-in-None c =
    let none = sym c.name_alone.ensures ∙ c.in-None.is in
    IfOk-weaker c.judge_operand.result _ _ (λ o judged. judged_whole _ _ (expression_tree c.args.expression.now) _ _ o none judged) c.judge_operand.ensures

pub returns-in_ok-ty-in-Some : goal.returns-in_ok-ty-in-Some
returns-in_ok-ty-in-Some c =
    let some = sym c.name_alone.ensures ∙ c.in-Some.is in
    judged_name _ _ (expression_tree c.args.expression.now) c.in-Some.name _ _ _ some refl c.in_ok-ty-in-Some.ensures
