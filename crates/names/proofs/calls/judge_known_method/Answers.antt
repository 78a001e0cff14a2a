use Rattle.std.proofs.Common.{◌++◌, map, subst, arith}
use Rattle.std.specs.Prelude.{OnOk}
use Rattle.tree.specs.ExpressionTrees.{expression_tree}
use Rattle.tree.specs.Trees.{method_tree}
use Rattle.tree.specs.declared.class as made
use Rattle.names.specs.Operands.{in_frame}
use Rattle.declarations.specs.Mistakes.{Adds}
use Rattle.declarations.specs.declared.mistake.Mismatch.TheVariants.{Given}
use Rattle.declarations.specs.Types.{type_meant, unless}
use Rattle.names.specs.Shapes.{shape}
use Rattle.names.specs.Values.{demand_of, result_type, argument_mistakes, number_of_arguments, start_mistakes, result_fits}
use Rattle.names.proofs.PassLemmas.{on_adds}
use Rattle.names.proofs.PendingLemmas.{numbered}
use Rattle.names.proofs.calls.judge_known_method.Goals as goal

pub returns : goal.returns
returns c = λ class startable p f here.
    let s = in_frame p f in
    let method = c.args.callee.method.now in
    let params = method.params.items in
    let args = c.args.site.now.arguments.now in
    let es = map shape (map expression_tree args) in
    let place = c.args.site.now.name.place in
    let result = c.ask.result in
    let old = c.args.found.now.items in
    let counted = c.judge_count.new.found.items in
    let given = c.judge_typed_arguments.new.found.items in
    let started = c.judge_start.new.found.items in
    let new = c.ask.new.found.items in
    let count = number_of_arguments params es place in
    let each = argument_mistakes s (map (λ (x : made.Parameter.Parameter). type_meant p x.ty) params) es in
    let start = start_mistakes (method_tree method) c.args.site.now.purpose c.args.site.now.name in
    let purpose = c.args.site.now.purpose in
    let fits = unless (result_fits p method.result purpose) place (Given (demand_of purpose) (result_type p method.result)) in
    on_adds result old counted new count (each ++ (start ++ fits))
    (numbered expression_tree params c.len.result args place (omega (arith, c.len.ensures, method.params.ok.0)) c.in_ok-judge_count.ensures)
    (on_adds result counted given new each (start ++ fits)
    (subst (λ ps. Adds counted given (argument_mistakes s (map (λ x. type_meant p x.ty) ps) es)) c.deref.ensures.value (c.in_ok-judge_typed_arguments.ensures p f here.scope here.frame))
    (on_adds result given started new start fits (c.in_ok-judge_start.ensures p (method_tree method) here.scope startable)
    (subst (λ b. OnOk result (Adds started new (unless b place (Given (demand_of purpose) (result_type p method.result))))) (c.result_fits-fits.ensures p here.scope)
    (subst (λ d. OnOk result (Adds started new (unless c.result_fits-fits.result place (Given d (result_type p method.result))))) c.demand_of.ensures
    (subst (λ k. OnOk result (Adds started new (unless c.result_fits-fits.result place (Given c.demand_of.result k)))) (c.type_given-given.ensures p here.scope) c.ask.ensures)))))
