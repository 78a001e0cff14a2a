use Rattle.std.proofs.Common.{◌≡◌, ℕ, map, sym, refl, subst, Err}
use Rattle.std.specs.Result.{IsErrOf}
use Rattle.syntax.specs.Reading.{AtFault}
use Rattle.tree.specs.Spelled.{Spells}
use Rattle.syntax.specs.Parsing.{IsFirstWrong}
use Rattle.tree.specs.Programs.{program}
use Rattle.tree.specs.Trees.{item_tree}
use Rattle.syntax.specs.declared.cursor.Stuck.{Stuck}
use Rattle.syntax.specs.declared.cursor.Stuck.TheVariants.{Unexpected}
use Rattle.syntax.specs.declared.fault.SyntaxFault.TheVariants.{At}
use Rattle.syntax.proofs.definitions.ItemRules.{program_piece}
use Rattle.syntax.proofs.pieces.FewLemmas.{few_symbols}
use Rattle.syntax.proofs.pieces.Tops.{left_ok, left_err, parsed, wrong_rest, wrong_piece, one_tree, not_wrong}
use Rattle.syntax.proofs.parsing.parse.Goals as goal

same_at : {T : Type 0} (m k : ℕ) → IsErrOf {T = T} (Err (At m)) (At k) → m ≡ k
same_at m k e = cc

at_unexpected : (f : Stuck) (P : Type 0) → f ≡ Unexpected → AtFault f P → P
at_unexpected f P is told = subst (λ f. AtFault f P) is told

pub overflow_sub-result : goal.overflow_sub-result
overflow_sub-result c = left_ok c.as_slice-list.result.now (program (map item_tree c.in-Ok.items.items)) _ _ _ c.new-cursor.ensures c.in-Ok.ensures.0 c.tokens_left-left.ensures

pub overflow_sub-result-in-Err-Unexpected : goal.overflow_sub-result-in-Err-Unexpected
overflow_sub-result-in-Err-Unexpected c = left_err c.as_slice-list.result.now _ _ _ c.new-cursor.ensures (at_unexpected _ _ c.in-Err-Unexpected.field-0-is c.in-Err-Unexpected.ensures) c.tokens_left.ensures

pub returns-then-left-eq0-clause-tree : goal.returns-then-left-eq0-clause-tree
returns-then-left-eq0-clause-tree c =
    subst (Spells program (map item_tree c.in-Ok.items.items)) c.as_slice-list.ensures.value
    (parsed c.as_slice-list.result.now (program (map item_tree c.in-Ok.items.items)) _ _ _ c.new-cursor.ensures c.in-Ok.ensures.0 c.tokens_left-left.ensures c.if-left-eq0.true)

pub returns-then-left-eq0-clause-few : goal.returns-then-left-eq0-clause-few
returns-then-left-eq0-clause-few c =
    few_symbols (program (map item_tree c.in-Ok.items.items)) c.args.tokens.now.list.items
    (subst (Spells program (map item_tree c.in-Ok.items.items)) c.as_slice-list.ensures.value
    (parsed c.as_slice-list.result.now (program (map item_tree c.in-Ok.items.items)) _ _ _ c.new-cursor.ensures c.in-Ok.ensures.0 c.tokens_left-left.ensures c.if-left-eq0.true))

pub returns-then-left-eq0-clause-found : goal.returns-then-left-eq0-clause-found
returns-then-left-eq0-clause-found c t spelled =
    let this : Spells program (map item_tree c.in-Ok.items.items) c.as_slice-list.result.now =
    parsed c.as_slice-list.result.now (program (map item_tree c.in-Ok.items.items)) _ _ _ c.new-cursor.ensures c.in-Ok.ensures.0 c.tokens_left-left.ensures c.if-left-eq0.true in
    one_tree program_piece refl (λ _. refl) c.as_slice-list.result.now (map item_tree c.in-Ok.items.items) t this (subst (Spells program t) (sym c.as_slice-list.ensures.value) spelled)

pub returns-else-left-eq0-clause-wrong : goal.returns-else-left-eq0-clause-wrong
returns-else-left-eq0-clause-wrong c k e =
    subst (λ ts. IsFirstWrong program ts k) c.as_slice-list.ensures.value
    (subst (IsFirstWrong program c.as_slice-list.result.now) (same_at _ k e)
    (wrong_rest program_piece refl c.as_slice-list.result.now (map item_tree c.in-Ok.items.items) _ _ _ c.new-cursor.ensures c.in-Ok.ensures c.tokens_left-left.ensures c.if-left-eq0.false))

pub returns-else-left-eq0-clause-found : goal.returns-else-left-eq0-clause-found
returns-else-left-eq0-clause-found c t spelled =
    absurd (not_wrong c.as_slice-list.result.now _ t (subst (Spells program t) (sym c.as_slice-list.ensures.value) spelled)
    (wrong_rest program_piece refl c.as_slice-list.result.now (map item_tree c.in-Ok.items.items) _ _ _ c.new-cursor.ensures c.in-Ok.ensures c.tokens_left-left.ensures c.if-left-eq0.false))

pub returns-in-Err-Unexpected-clause-wrong : goal.returns-in-Err-Unexpected-clause-wrong
returns-in-Err-Unexpected-clause-wrong c k e =
    subst (λ ts. IsFirstWrong program ts k) c.as_slice-list.ensures.value
    (subst (IsFirstWrong program c.as_slice-list.result.now) (same_at _ k e)
    (wrong_piece program_piece refl c.as_slice-list.result.now _ _ _ c.new-cursor.ensures (at_unexpected _ _ c.in-Err-Unexpected.field-0-is c.in-Err-Unexpected.ensures) c.tokens_left.ensures))

pub returns-in-Err-Unexpected-clause-found : goal.returns-in-Err-Unexpected-clause-found
returns-in-Err-Unexpected-clause-found c t spelled =
    absurd (not_wrong c.as_slice-list.result.now _ t (subst (Spells program t) (sym c.as_slice-list.ensures.value) spelled)
    (wrong_piece program_piece refl c.as_slice-list.result.now _ _ _ c.new-cursor.ensures (at_unexpected _ _ c.in-Err-Unexpected.field-0-is c.in-Err-Unexpected.ensures) c.tokens_left.ensures))
