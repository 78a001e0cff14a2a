use Rattle.std.proofs.Common.{◌∷◌, [], map, sym, subst}
use Rattle.std.specs.Prelude.{OnOk}
use Rattle.tree.specs.ExpressionTrees.{expression_tree}
use Rattle.names.specs.Operands.{in_frame}
use Rattle.declarations.specs.Mistakes.{Adds}
use Rattle.declarations.specs.Program.{class_named}
use Rattle.declarations.specs.Scopes.{AreMethods, IsCallee}
use Rattle.names.specs.Shapes.{shape}
use Rattle.names.specs.Values.{argument_mistakes, class_mistakes}
use Rattle.declarations.specs.declared.mistake.Mistake.TheVariants.{Unknown}
use Rattle.declarations.specs.declared.mistake.NameSort.TheVariants as sort
use Rattle.declarations.specs.Named.{method_named}
use Rattle.names.proofs.PassLemmas.{no_class, classed}
use Rattle.names.proofs.calls.judge_class.Goals as goal

pub returns-in-Some : goal.returns-in-Some
returns-in-Some c = λ p f here.
    let s = in_frame p f in
    let args = map shape (map expression_tree c.args.site.now.arguments.now) in
    let result = c.judge_method.result in
    let old = c.args.found.now.items in
    let new = c.judge_method.new.found.items in
    let name = c.args.site.now.name in
    let looked = classed p.text (class_named p c.args.class) c.in-Some.methods.now (c.in-Some.ensures p here.scope) in
    let own = subst (λ t. AreMethods t looked.class.1 c.in-Some.methods.now) (sym here.scope.text_is) looked.methods in
    let found = subst (λ t. IsCallee (method_named t looked.class.1 name) c.find-callee.result) here.scope.text_is (c.find-callee.ensures looked.class.1 own) in
    subst (λ o. OnOk result (Adds old new (class_mistakes s o c.args.site.now.purpose c.args.class name args))) (sym looked.is)
    (c.judge_method.ensures (method_named p.text looked.class.1 name) found p f here)

pub returns-in-None : goal.returns-in-None
returns-in-None c = λ p f here.
    let s = in_frame p f in
    let args = map shape (map expression_tree c.args.site.now.arguments.now) in
    subst (λ l. OnOk c.judge_unknown.result (Adds c.args.found.now.items c.judge_unknown.new.found.items l))
    (sym (no_class s p.text (class_named p c.args.class) c.args.site.now.purpose c.args.class c.args.site.now.name args (c.in-None.ensures p here.scope)))
    (subst (λ k. OnOk c.judge_unknown.result (Adds c.args.found.now.items c.judge_unknown.new.found.items (Unknown c.args.class (sort.Front k) ∷ argument_mistakes s [] args)))
    (c.len.ensures p.text f here.frame) (c.judge_unknown.ensures p f here))
