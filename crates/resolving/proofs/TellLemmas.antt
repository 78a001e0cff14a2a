-- What declarations and methods resolve to.
use Rattle.std.proofs.Common.{◌≡◌, ℕ, List, map, sym, ap, ◌∙◌}
use Rattle.std.specs.Prelude.{Bool, Option, is_some, option_map}
use Rattle.source.specs.declared.place.Place.{Place}
use Rattle.tree.specs.StatementTrees.{BlockTree, statement_tree, statement_sequence}
use Rattle.tree.specs.Trees.{MethodTree, method_tree}
use Rattle.tree.specs.declared.class as made
use Rattle.declarations.specs.Program.{ProgramText}
use Rattle.program.specs.Methods.{MethodModel, VariableModel, method_model, variable_model}
use Rattle.program.specs.Statements as seen
use Rattle.program.specs.Statements.{StatementsModel, statement_model}
use Rattle.program.specs.declared.types.HeapType.{HeapType}
use Rattle.program.specs.declared.method.Method.{Method}
use Rattle.program.specs.declared.number.VarId.{VarId}
use Rattle.resolving.specs.Frames.{IsLocalFrame}
use Rattle.resolving.specs.Types.{result_held}
use Rattle.resolving.specs.Locals.{LocalFrame, number_of}
use Rattle.resolving.specs.Methods.{no_variables, parameters_frame, method_told, takes_some}
use Rattle.resolving.specs.Steps.{IsResolvedPiece}
use Rattle.resolving.specs.Told.{statements_told}
use Rattle.resolving.specs.Staying.{stays_here}
use Rattle.resolving.specs.declared.locals.Locals.{Locals}
use Rattle.tree.proofs.StatementTwins.{block_is}

method_of : Place → Bool → Bool → Option HeapType → List VariableModel → StatementsModel → Option VarId → Place → MethodModel
method_of name takes gives result variables statements scope close = record { name = name; takes = takes; gives = gives; result = result; variables = variables; statements = statements; scope = scope; close = close }

with_body : made.Method.Method → BlockTree → MethodTree
with_body m b = record { access = m.access; result = m.result; name = m.name; open_paren = m.«open»; params = m.params.items; body = b }

-- a method resolves to what its parts resolve to
pub method_is : (p : ProgramText) (class : ℕ) (m : made.Method.Method) (r : Method) (l : Locals) → r.name ≡ m.name.place → r.takes ≡ takes_some m.params.items → r.gives ≡ is_some m.result → r.result ≡ result_held p m.result → r.close ≡ m.body.close.place
    → IsResolvedPiece p.text (statements_told p class (stays_here (parameters_frame p m.params.items no_variables)) (statement_sequence (map statement_tree m.body.statements.items)) (parameters_frame p m.params.items no_variables)) (seen.statement_sequence (map statement_model r.statements.items)) l
    → ((t : List ℕ) (f : LocalFrame) → IsLocalFrame t f l → map variable_model r.variables.items ≡ f.variables) → ((t : List ℕ) (f : LocalFrame) → IsLocalFrame t f l → r.scope ≡ option_map number_of f.last)
    → method_model r ≡ method_told p class (method_tree m)
unfolding method_of with_body
method_is p class m r l name takes gives result close body variables scope =
    let b = statements_told p class (stays_here (parameters_frame p m.params.items no_variables)) (statement_sequence (map statement_tree m.body.statements.items)) (parameters_frame p m.params.items no_variables) in
    let statements = seen.statement_sequence (map statement_model r.statements.items) in
    let heap = map variable_model r.variables.items in
    let held = result_held p m.result in
    ap (λ n. method_of n r.takes r.gives r.result heap statements r.scope r.close) name
    ∙ ap (λ t. method_of m.name.place t r.gives r.result heap statements r.scope r.close) takes
    ∙ ap (λ g. method_of m.name.place (takes_some m.params.items) g r.result heap statements r.scope r.close) gives
    ∙ ap (λ k. method_of m.name.place (takes_some m.params.items) (is_some m.result) k heap statements r.scope r.close) result
    ∙ ap (λ v. method_of m.name.place (takes_some m.params.items) (is_some m.result) held v statements r.scope r.close) (variables p.text b.frame body.frame)
    ∙ ap (λ s. method_of m.name.place (takes_some m.params.items) (is_some m.result) held b.frame.variables s r.scope r.close) body.is
    ∙ ap (λ o. method_of m.name.place (takes_some m.params.items) (is_some m.result) held b.frame.variables b.what o r.close) (scope p.text b.frame body.frame)
    ∙ ap (λ c. method_of m.name.place (takes_some m.params.items) (is_some m.result) held b.frame.variables b.what (option_map number_of b.frame.last) c) close
    ∙ ap (λ (k : BlockTree). method_told p class (with_body m k)) (sym (block_is m.body))
