use Rattle.std.proofs.Common.{refl}
use Rattle.source.specs.declared.kind.Kind.TheVariants as kind
use Rattle.syntax.specs.Reading.{never}
use Rattle.tree.specs.Grammar.{message}
use Rattle.tree.specs.Trees.{message_tree}
use Rattle.syntax.proofs.pieces.Exits.{exits}
use Rattle.syntax.proofs.pieces.Pieces.{next, fails_here, fails_after, via_fails}
use Rattle.syntax.proofs.pieces.CursorLemmas.{fixed_piece, named_piece}
use Rattle.syntax.proofs.pieces.Words.{words_piece}
use Rattle.syntax.proofs.definitions.MessageRules.{directions, message_to, message_from, params_piece}
use Rattle.syntax.proofs.messages.message.Goals as goal

pub returns-in_err-direction : goal.returns-in_err-direction
returns-in_err-direction c = exits message_tree message never (λ _. never) _ _ _ _ _ c.from_residual.ensures.1 c.in_err-direction.ensures
    (λ h. via_fails message_to message_from (λ _. refl) (fails_here h (next (fixed_piece kind.Message) (next named_piece (next params_piece (fixed_piece kind.Semicolon))))))

pub returns-in_err-expect : goal.returns-in_err-expect
returns-in_err-expect c = exits message_tree message never (λ _. never) _ _ _ _ _ c.from_residual-in_err-expect.ensures.1 c.in_err-expect.ensures
    (λ h. via_fails message_to message_from (λ _. refl) (fails_after c.in_ok-direction.direction (words_piece directions) c.in_ok-direction.ensures (fails_here h (next named_piece (next params_piece (fixed_piece kind.Semicolon))))))

pub returns-in_err-name : goal.returns-in_err-name
returns-in_err-name c = exits message_tree message never (λ _. never) _ _ _ _ _ c.from_residual-in_err-name.ensures.1 c.in_err-name.ensures
    (λ h. via_fails message_to message_from (λ _. refl) (fails_after c.in_ok-direction.direction (words_piece directions) c.in_ok-direction.ensures (fails_after tt (fixed_piece kind.Message) c.in_ok-expect.ensures (fails_here h (next params_piece (fixed_piece kind.Semicolon))))))

pub returns-in_err-open : goal.returns-in_err-open
returns-in_err-open c = exits message_tree message never (λ _. never) _ _ _ _ _ c.from_residual-in_err-open.ensures.1 c.in_err-open.ensures
    (λ h. via_fails message_to message_from (λ _. refl) (fails_after c.in_ok-direction.direction (words_piece directions) c.in_ok-direction.ensures (fails_after tt (fixed_piece kind.Message) c.in_ok-expect.ensures (fails_after c.in_ok-name.name named_piece c.in_ok-name.ensures (fails_here h (fixed_piece kind.Semicolon))))))

pub returns-in_err-expect-2 : goal.returns-in_err-expect-2
returns-in_err-expect-2 c = exits message_tree message never (λ _. never) _ _ _ _ _ c.from_residual-in_err-expect-2.ensures.1 c.in_err-expect-2.ensures
    (λ h. via_fails message_to message_from (λ _. refl) (fails_after c.in_ok-direction.direction (words_piece directions) c.in_ok-direction.ensures (fails_after tt (fixed_piece kind.Message) c.in_ok-expect.ensures (fails_after c.in_ok-name.name named_piece c.in_ok-name.ensures (fails_after (c.in_ok-open.open, c.in_ok-open.params.items) params_piece c.in_ok-open.ensures h)))))
