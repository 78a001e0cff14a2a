use Rattle.std.proofs.Common.{◌≡◌, length, map, sym, ap, subst, arith}
use Rattle.std.proofs.lemmas.List.{length-map}
use Rattle.tree.specs.ExpressionTrees.{expression_tree}
use Rattle.tree.specs.declared.class as made
use Rattle.declarations.specs.Mistakes.{Adds}
use Rattle.declarations.specs.Types.{pointer_type, type_meant}
use Rattle.declarations.specs.Owning.{owning_fields}
use Rattle.declarations.specs.Program.{struct_named}
use Rattle.names.specs.Operands.{in_frame}
use Rattle.names.specs.Shapes.{shape}
use Rattle.names.specs.Values.{argument_mistakes, struct_made_mistakes}
use Rattle.declarations.proofs.AddLemmas.{adds_then}
use Rattle.names.proofs.PassLemmas.{structured}
use Rattle.names.proofs.PendingLemmas.{numbered}
use Rattle.names.proofs.values.judge_structure.Goals as goal

pub returns-in_ok-judge_typed_arguments-in-Some-clause-ty : goal.returns-in_ok-judge_typed_arguments-in-Some-clause-ty
returns-in_ok-judge_typed_arguments-in-Some-clause-ty c = λ p scope.
    let looked = structured (struct_named p c.args.name) c.in-Some.index c.in-Some.owning.now (c.in-Some.ensures p scope) in
    ap pointer_type (sym looked.is)

pub returns-in_ok-judge_typed_arguments-in-Some-clause-found : goal.returns-in_ok-judge_typed_arguments-in-Some-clause-found
returns-in_ok-judge_typed_arguments-in-Some-clause-found c = λ p f here.
    let s = in_frame p f in
    let name = c.args.name in
    let args = c.args.arguments.now in
    let es = map shape (map expression_tree args) in
    let old = c.args.found.now.items in
    let counted = c.judge_count.new.found.items in
    let new = c.judge_typed_arguments.new.found.items in
    let owning = c.in-Some.owning.now in
    let looked = structured (struct_named p name) c.in-Some.index owning (c.in-Some.ensures p here.scope) in
    let asked = map (λ (x : made.Field.Field). type_meant p x.ty) (owning_fields looked.structure) in
    let many : length owning ≡ length asked = omega (arith, ap length looked.owning, length-map (owning_fields looked.structure) (λ (x : made.Field.Field). type_meant p x.ty)) in
    subst (λ o. Adds old new (struct_made_mistakes s o name es)) (sym looked.is)
    (adds_then (numbered expression_tree asked (length owning) args name.place many c.in_ok-judge_count-in-Some.ensures)
    (subst (λ xs. Adds counted new (argument_mistakes s (map (λ (x : made.Field.Field). type_meant p x.ty) xs) es)) looked.owning (c.in_ok-judge_typed_arguments-in-Some.ensures p f here.scope here.frame)))
