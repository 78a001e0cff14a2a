use Rattle.std.proofs.Common.{refl}
use Rattle.source.specs.declared.kind.Kind.TheVariants as kind
use Rattle.syntax.specs.Reading.{never}
use Rattle.tree.specs.StatementGrammar.{exchange}
use Rattle.syntax.proofs.pieces.Exits.{exits}
use Rattle.syntax.proofs.pieces.Pieces.{fails_here, fails_after, via_fails, next}
use Rattle.syntax.proofs.pieces.CursorLemmas.{fixed_piece, placed_piece, named_piece}
use Rattle.syntax.proofs.PlainRules.{exchange_to, exchange_from}
use Rattle.syntax.proofs.statement_ends.exchange.Goals as goal

pub returns-in_err-word : goal.returns-in_err-word
returns-in_err-word c = exits (λ x. x) exchange never (λ _. never) _ _ _ _ _ c.from_residual.ensures.1 c.in_err-word.ensures
    (λ h. via_fails exchange_to exchange_from (λ _. refl) (fails_here h (next (placed_piece kind.OpenParen) (next named_piece (next (fixed_piece kind.Dot) (next named_piece (next (fixed_piece kind.Comma) (next named_piece (next (fixed_piece kind.CloseParen) (fixed_piece kind.Semicolon))))))))))

pub returns-in_err-open : goal.returns-in_err-open
returns-in_err-open c = exits (λ x. x) exchange never (λ _. never) _ _ _ _ _ c.from_residual-in_err-open.ensures.1 c.in_err-open.ensures
    (λ h. via_fails exchange_to exchange_from (λ _. refl) (fails_after c.in_ok-word.word (placed_piece kind.Exchange) c.in_ok-word.ensures (fails_here h (next named_piece (next (fixed_piece kind.Dot) (next named_piece (next (fixed_piece kind.Comma) (next named_piece (next (fixed_piece kind.CloseParen) (fixed_piece kind.Semicolon))))))))))

pub returns-in_err-holder : goal.returns-in_err-holder
returns-in_err-holder c = exits (λ x. x) exchange never (λ _. never) _ _ _ _ _ c.from_residual-in_err-holder.ensures.1 c.in_err-holder.ensures
    (λ h. via_fails exchange_to exchange_from (λ _. refl) (fails_after c.in_ok-word.word (placed_piece kind.Exchange) c.in_ok-word.ensures (fails_after c.in_ok-open.open (placed_piece kind.OpenParen) c.in_ok-open.ensures (fails_here h (next (fixed_piece kind.Dot) (next named_piece (next (fixed_piece kind.Comma) (next named_piece (next (fixed_piece kind.CloseParen) (fixed_piece kind.Semicolon))))))))))

pub returns-in_err-expect : goal.returns-in_err-expect
returns-in_err-expect c = exits (λ x. x) exchange never (λ _. never) _ _ _ _ _ c.from_residual-in_err-expect.ensures.1 c.in_err-expect.ensures
    (λ h. via_fails exchange_to exchange_from (λ _. refl) (fails_after c.in_ok-word.word (placed_piece kind.Exchange) c.in_ok-word.ensures (fails_after c.in_ok-open.open (placed_piece kind.OpenParen) c.in_ok-open.ensures (fails_after c.in_ok-holder.holder named_piece c.in_ok-holder.ensures (fails_here h (next named_piece (next (fixed_piece kind.Comma) (next named_piece (next (fixed_piece kind.CloseParen) (fixed_piece kind.Semicolon))))))))))

pub returns-in_err-field : goal.returns-in_err-field
returns-in_err-field c = exits (λ x. x) exchange never (λ _. never) _ _ _ _ _ c.from_residual-in_err-field.ensures.1 c.in_err-field.ensures
    (λ h. via_fails exchange_to exchange_from (λ _. refl) (fails_after c.in_ok-word.word (placed_piece kind.Exchange) c.in_ok-word.ensures (fails_after c.in_ok-open.open (placed_piece kind.OpenParen) c.in_ok-open.ensures (fails_after c.in_ok-holder.holder named_piece c.in_ok-holder.ensures (fails_after tt (fixed_piece kind.Dot) c.in_ok-expect.ensures (fails_here h (next (fixed_piece kind.Comma) (next named_piece (next (fixed_piece kind.CloseParen) (fixed_piece kind.Semicolon))))))))))

pub returns-in_err-expect-2 : goal.returns-in_err-expect-2
returns-in_err-expect-2 c = exits (λ x. x) exchange never (λ _. never) _ _ _ _ _ c.from_residual-in_err-expect-2.ensures.1 c.in_err-expect-2.ensures
    (λ h. via_fails exchange_to exchange_from (λ _. refl) (fails_after c.in_ok-word.word (placed_piece kind.Exchange) c.in_ok-word.ensures (fails_after c.in_ok-open.open (placed_piece kind.OpenParen) c.in_ok-open.ensures (fails_after c.in_ok-holder.holder named_piece c.in_ok-holder.ensures (fails_after tt (fixed_piece kind.Dot) c.in_ok-expect.ensures (fails_after c.in_ok-field.field named_piece c.in_ok-field.ensures (fails_here h (next named_piece (next (fixed_piece kind.CloseParen) (fixed_piece kind.Semicolon))))))))))

pub returns-in_err-given : goal.returns-in_err-given
returns-in_err-given c = exits (λ x. x) exchange never (λ _. never) _ _ _ _ _ c.from_residual-in_err-given.ensures.1 c.in_err-given.ensures
    (λ h. via_fails exchange_to exchange_from (λ _. refl) (fails_after c.in_ok-word.word (placed_piece kind.Exchange) c.in_ok-word.ensures (fails_after c.in_ok-open.open (placed_piece kind.OpenParen) c.in_ok-open.ensures (fails_after c.in_ok-holder.holder named_piece c.in_ok-holder.ensures (fails_after tt (fixed_piece kind.Dot) c.in_ok-expect.ensures (fails_after c.in_ok-field.field named_piece c.in_ok-field.ensures (fails_after tt (fixed_piece kind.Comma) c.in_ok-expect-2.ensures (fails_here h (next (fixed_piece kind.CloseParen) (fixed_piece kind.Semicolon))))))))))

pub returns-in_err-expect-3 : goal.returns-in_err-expect-3
returns-in_err-expect-3 c = exits (λ x. x) exchange never (λ _. never) _ _ _ _ _ c.from_residual-in_err-expect-3.ensures.1 c.in_err-expect-3.ensures
    (λ h. via_fails exchange_to exchange_from (λ _. refl) (fails_after c.in_ok-word.word (placed_piece kind.Exchange) c.in_ok-word.ensures (fails_after c.in_ok-open.open (placed_piece kind.OpenParen) c.in_ok-open.ensures (fails_after c.in_ok-holder.holder named_piece c.in_ok-holder.ensures (fails_after tt (fixed_piece kind.Dot) c.in_ok-expect.ensures (fails_after c.in_ok-field.field named_piece c.in_ok-field.ensures (fails_after tt (fixed_piece kind.Comma) c.in_ok-expect-2.ensures (fails_after c.in_ok-given.given named_piece c.in_ok-given.ensures (fails_here h (fixed_piece kind.Semicolon))))))))))

pub returns-in_err-expect-4 : goal.returns-in_err-expect-4
returns-in_err-expect-4 c = exits (λ x. x) exchange never (λ _. never) _ _ _ _ _ c.from_residual-in_err-expect-4.ensures.1 c.in_err-expect-4.ensures
    (λ h. via_fails exchange_to exchange_from (λ _. refl) (fails_after c.in_ok-word.word (placed_piece kind.Exchange) c.in_ok-word.ensures (fails_after c.in_ok-open.open (placed_piece kind.OpenParen) c.in_ok-open.ensures (fails_after c.in_ok-holder.holder named_piece c.in_ok-holder.ensures (fails_after tt (fixed_piece kind.Dot) c.in_ok-expect.ensures (fails_after c.in_ok-field.field named_piece c.in_ok-field.ensures (fails_after tt (fixed_piece kind.Comma) c.in_ok-expect-2.ensures (fails_after c.in_ok-given.given named_piece c.in_ok-given.ensures (fails_after tt (fixed_piece kind.CloseParen) c.in_ok-expect-3.ensures h)))))))))
