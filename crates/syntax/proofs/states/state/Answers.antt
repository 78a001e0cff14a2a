use Rattle.std.proofs.Common.{refl}
use Rattle.source.specs.declared.kind.Kind.TheVariants as kind
use Rattle.tree.specs.Trees.{state_tree}
use Rattle.tree.specs.Grammar.{state}
use Rattle.syntax.specs.States.{state_on, state_at}
use Rattle.syntax.proofs.pieces.Exits.{exits}
use Rattle.syntax.proofs.pieces.Pieces.{next, fails_here, fails_after, via_fails}
use Rattle.syntax.proofs.pieces.CursorLemmas.{fixed_piece, named_piece}
use Rattle.syntax.proofs.definitions.BodyRules.{state_to, state_from, body_piece}
use Rattle.syntax.proofs.states.state.Goals as goal

pub returns-in_err-expect : goal.returns-in_err-expect
returns-in_err-expect c = exits state_tree state state_on state_at _ _ _ _ _ c.from_residual.ensures.1 c.in_err-expect.ensures
    (λ h. via_fails state_to state_from (λ _. refl) (fails_here h (next named_piece (next (fixed_piece kind.Colon) body_piece))))

pub returns-in_err-name : goal.returns-in_err-name
returns-in_err-name c = exits state_tree state state_on state_at _ _ _ _ _ c.from_residual-in_err-name.ensures.1 c.in_err-name.ensures
    (λ h. via_fails state_to state_from (λ _. refl) (fails_after tt (fixed_piece kind.State) c.in_ok-expect.ensures (fails_here h (next (fixed_piece kind.Colon) body_piece))))

pub returns-in_err-expect-2 : goal.returns-in_err-expect-2
returns-in_err-expect-2 c = exits state_tree state state_on state_at _ _ _ _ _ c.from_residual-in_err-expect-2.ensures.1 c.in_err-expect-2.ensures
    (λ h. via_fails state_to state_from (λ _. refl) (fails_after tt (fixed_piece kind.State) c.in_ok-expect.ensures (fails_after c.in_ok-name.name named_piece c.in_ok-name.ensures (fails_here h body_piece))))

pub returns-in_err-body : goal.returns-in_err-body
returns-in_err-body c = exits state_tree state state_on state_at _ _ _ _ _ c.from_residual-in_err-body.ensures.1 c.in_err-body.ensures
    (λ h. via_fails state_to state_from (λ _. refl) (fails_after tt (fixed_piece kind.State) c.in_ok-expect.ensures (fails_after c.in_ok-name.name named_piece c.in_ok-name.ensures (fails_after tt (fixed_piece kind.Colon) c.in_ok-expect-2.ensures h))))
