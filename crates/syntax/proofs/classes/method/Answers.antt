use Rattle.std.proofs.Common.{refl}
use Rattle.source.specs.declared.kind.Kind.TheVariants as kind
use Rattle.syntax.specs.Reading.{never}
use Rattle.syntax.proofs.pieces.Exits.{exits}
use Rattle.syntax.proofs.pieces.Pieces.{fails_here, fails_after, fails_first, fails_second, via_fails, next}
use Rattle.syntax.proofs.pieces.CursorLemmas.{fixed_piece, named_piece}
use Rattle.tree.specs.Trees.{method_tree}
use Rattle.tree.specs.Programs.{method}
use Rattle.syntax.proofs.definitions.AccessRules.{access_piece}
use Rattle.syntax.proofs.StatementWays.{block_piece}
use Rattle.syntax.proofs.definitions.ClassRules.{parameters_piece, result_piece, result_follows, result_end, method_follows, method_to, method_from}
use Rattle.syntax.proofs.classes.method.Goals as goal

pub returns-in_err-expect : goal.returns-in_err-expect
returns-in_err-expect c = exits method_tree method never (λ _. never) _ _ _ _ _ c.from_residual.ensures.1 c.in_err-expect.ensures
    (λ h. via_fails method_to method_from (λ _. refl) (fails_second c.access-access.result access_piece c.access-access.ensures method_follows (fails_here h result_end)))

pub returns-in_err-result : goal.returns-in_err-result
returns-in_err-result c = exits method_tree method never (λ _. never) _ _ _ _ _ c.from_residual-in_err-result.ensures.1 c.in_err-result.ensures
    (λ h. via_fails method_to method_from (λ _. refl) (fails_second c.access-access.result access_piece c.access-access.ensures method_follows (fails_after tt (fixed_piece kind.Static) c.in_ok-expect.ensures (fails_first h (next named_piece (next parameters_piece block_piece)) result_follows))))

pub returns-in_err-name : goal.returns-in_err-name
returns-in_err-name c = exits method_tree method never (λ _. never) _ _ _ _ _ c.from_residual-in_err-name.ensures.1 c.in_err-name.ensures
    (λ h. via_fails method_to method_from (λ _. refl) (fails_second c.access-access.result access_piece c.access-access.ensures method_follows (fails_after tt (fixed_piece kind.Static) c.in_ok-expect.ensures (fails_second c.in_ok-result.result result_piece c.in_ok-result.ensures result_follows (fails_here h (next parameters_piece block_piece))))))

pub returns-in_err-open : goal.returns-in_err-open
returns-in_err-open c = exits method_tree method never (λ _. never) _ _ _ _ _ c.from_residual-in_err-open.ensures.1 c.in_err-open.ensures
    (λ h. via_fails method_to method_from (λ _. refl) (fails_second c.access-access.result access_piece c.access-access.ensures method_follows (fails_after tt (fixed_piece kind.Static) c.in_ok-expect.ensures (fails_second c.in_ok-result.result result_piece c.in_ok-result.ensures result_follows (fails_after c.in_ok-name.name named_piece c.in_ok-name.ensures (fails_here h block_piece))))))

pub returns-in_err-body : goal.returns-in_err-body
returns-in_err-body c = exits method_tree method never (λ _. never) _ _ _ _ _ c.from_residual-in_err-body.ensures.1 c.in_err-body.ensures
    (λ h. via_fails method_to method_from (λ _. refl) (fails_second c.access-access.result access_piece c.access-access.ensures method_follows (fails_after tt (fixed_piece kind.Static) c.in_ok-expect.ensures (fails_second c.in_ok-result.result result_piece c.in_ok-result.ensures result_follows (fails_after c.in_ok-name.name named_piece c.in_ok-name.ensures (fails_after (c.in_ok-open.open, c.in_ok-open.params.items) parameters_piece c.in_ok-open.ensures h))))))
