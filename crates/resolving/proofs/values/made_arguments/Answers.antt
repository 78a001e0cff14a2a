use Rattle.std.proofs.Common.{◌≡◌, List, map, subst, sym}
use Rattle.std.specs.Prelude.{IfOk}
use Rattle.tree.specs.ExpressionTrees.{expression_tree}
use Rattle.tree.specs.Values.{made_tree}
use Rattle.tree.specs.declared.expression.Expression.{Expression}
use Rattle.tree.specs.declared.value.Made.{Made}
use Rattle.resolving.specs.Around.{program_in}
use Rattle.resolving.specs.Plain.{made_arguments, payloads}
use Rattle.resolving.proofs.values.made_arguments.Goals as goal

pub returns-in-Struct : goal.returns-in-Struct
returns-in-Struct c = λ items own f frame.
    let p = program_in c.args.text.now items in
    let given = c.payloads_of.result in
    subst (λ (m : Made). IfOk given (λ list. list.items ≡ made_arguments p own f (made_tree m))) (sym c.in-Struct.is)
    (subst (λ (es : List Expression). IfOk given (λ list. list.items ≡ payloads p own f (map expression_tree es))) c.deref.ensures.value (c.payloads_of.ensures items own f frame))
