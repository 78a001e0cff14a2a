use Rattle.std.proofs.Common.{refl}
use Rattle.source.specs.declared.kind.Kind.TheVariants as kind
use Rattle.syntax.specs.Reading.{never}
use Rattle.syntax.proofs.pieces.Exits.{exits}
use Rattle.syntax.proofs.pieces.Pieces.{fails_here, fails_after, via_fails, next}
use Rattle.syntax.proofs.pieces.CursorLemmas.{fixed_piece, placed_piece, named_piece}
use Rattle.syntax.specs.StatementParts.{case_front, case_front_tree}
use Rattle.syntax.proofs.CaseRules.{awaited_piece, binds_piece, front_to, front_from}
use Rattle.syntax.proofs.cases.case_front.Goals as goal

pub returns-in_err-word : goal.returns-in_err-word
returns-in_err-word c = exits case_front_tree case_front never (λ _. never) _ _ _ _ _ c.from_residual.ensures.1 c.in_err-word.ensures
    (λ h. via_fails front_to front_from (λ _. refl) (fails_here h (next named_piece (next (fixed_piece kind.Dot) (next awaited_piece (next binds_piece (fixed_piece kind.Colon)))))))

pub returns-in_err-endpoint : goal.returns-in_err-endpoint
returns-in_err-endpoint c = exits case_front_tree case_front never (λ _. never) _ _ _ _ _ c.from_residual-in_err-endpoint.ensures.1 c.in_err-endpoint.ensures
    (λ h. via_fails front_to front_from (λ _. refl) (fails_after c.in_ok-word.word (placed_piece kind.Case) c.in_ok-word.ensures (fails_here h (next (fixed_piece kind.Dot) (next awaited_piece (next binds_piece (fixed_piece kind.Colon)))))))

pub returns-in_err-expect : goal.returns-in_err-expect
returns-in_err-expect c = exits case_front_tree case_front never (λ _. never) _ _ _ _ _ c.from_residual-in_err-expect.ensures.1 c.in_err-expect.ensures
    (λ h. via_fails front_to front_from (λ _. refl) (fails_after c.in_ok-word.word (placed_piece kind.Case) c.in_ok-word.ensures (fails_after c.in_ok-endpoint.endpoint named_piece c.in_ok-endpoint.ensures (fails_here h (next awaited_piece (next binds_piece (fixed_piece kind.Colon)))))))

pub returns-in_err-message : goal.returns-in_err-message
returns-in_err-message c = exits case_front_tree case_front never (λ _. never) _ _ _ _ _ c.from_residual-in_err-message.ensures.1 c.in_err-message.ensures
    (λ h. via_fails front_to front_from (λ _. refl) (fails_after c.in_ok-word.word (placed_piece kind.Case) c.in_ok-word.ensures (fails_after c.in_ok-endpoint.endpoint named_piece c.in_ok-endpoint.ensures (fails_after tt (fixed_piece kind.Dot) c.in_ok-expect.ensures (fails_here h (next binds_piece (fixed_piece kind.Colon)))))))

pub returns-in_err-open : goal.returns-in_err-open
returns-in_err-open c = exits case_front_tree case_front never (λ _. never) _ _ _ _ _ c.from_residual-in_err-open.ensures.1 c.in_err-open.ensures
    (λ h. via_fails front_to front_from (λ _. refl) (fails_after c.in_ok-word.word (placed_piece kind.Case) c.in_ok-word.ensures (fails_after c.in_ok-endpoint.endpoint named_piece c.in_ok-endpoint.ensures (fails_after tt (fixed_piece kind.Dot) c.in_ok-expect.ensures (fails_after c.in_ok-message.message awaited_piece c.in_ok-message.ensures (fails_here h (fixed_piece kind.Colon)))))))

pub returns-in_err-expect-2 : goal.returns-in_err-expect-2
returns-in_err-expect-2 c = exits case_front_tree case_front never (λ _. never) _ _ _ _ _ c.from_residual-in_err-expect-2.ensures.1 c.in_err-expect-2.ensures
    (λ h. via_fails front_to front_from (λ _. refl) (fails_after c.in_ok-word.word (placed_piece kind.Case) c.in_ok-word.ensures (fails_after c.in_ok-endpoint.endpoint named_piece c.in_ok-endpoint.ensures (fails_after tt (fixed_piece kind.Dot) c.in_ok-expect.ensures (fails_after c.in_ok-message.message awaited_piece c.in_ok-message.ensures (fails_after (c.in_ok-open.open, c.in_ok-open.binds.items) binds_piece c.in_ok-open.ensures h))))))
