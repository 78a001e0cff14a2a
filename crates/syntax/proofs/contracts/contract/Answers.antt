use Rattle.std.proofs.Common.{map, refl}
use Rattle.source.specs.declared.kind.Kind.TheVariants as kind
use Rattle.syntax.specs.Reading.{never}
use Rattle.tree.specs.Trees.{message_tree, state_tree, member_tree, contract_tree}
use Rattle.tree.specs.Grammar.{contract}
use Rattle.syntax.proofs.pieces.Exits.{exits}
use Rattle.syntax.proofs.pieces.Pieces.{next, fails_here, fails_after, fails_first, fails_second, via_fails}
use Rattle.syntax.proofs.pieces.CursorLemmas.{fixed_piece, placed_piece, named_piece}
use Rattle.syntax.proofs.definitions.BodyRules.{state_piece}
use Rattle.syntax.proofs.definitions.ContractRules.{messages_piece, messages_follow, members_piece, members_follow, members_end_piece, state_follows, states_end_piece, inside_piece, contract_to, contract_from}
use Rattle.syntax.proofs.contracts.contract.Goals as goal

pub returns-in_err-expect : goal.returns-in_err-expect
returns-in_err-expect c = exits contract_tree contract never (λ _. never) _ _ _ _ _ c.from_residual.ensures.1 c.in_err-expect.ensures
    (λ h. via_fails contract_to contract_from (λ _. refl) (fails_here h (next named_piece (next (fixed_piece kind.OpenBrace) inside_piece))))

pub returns-in_err-name : goal.returns-in_err-name
returns-in_err-name c = exits contract_tree contract never (λ _. never) _ _ _ _ _ c.from_residual-in_err-name.ensures.1 c.in_err-name.ensures
    (λ h. via_fails contract_to contract_from (λ _. refl) (fails_after tt (fixed_piece kind.Contract) c.in_ok-expect.ensures (fails_here h (next (fixed_piece kind.OpenBrace) inside_piece))))

pub returns-in_err-expect-2 : goal.returns-in_err-expect-2
returns-in_err-expect-2 c = exits contract_tree contract never (λ _. never) _ _ _ _ _ c.from_residual-in_err-expect-2.ensures.1 c.in_err-expect-2.ensures
    (λ h. via_fails contract_to contract_from (λ _. refl) (fails_after tt (fixed_piece kind.Contract) c.in_ok-expect.ensures (fails_after c.in_ok-name.name named_piece c.in_ok-name.ensures (fails_here h inside_piece))))

pub returns-in_err-messages : goal.returns-in_err-messages
returns-in_err-messages c = exits contract_tree contract never (λ _. never) _ _ _ _ _ c.from_residual-in_err-messages.ensures.1 c.in_err-messages.ensures
    (λ h. via_fails contract_to contract_from (λ _. refl) (fails_after tt (fixed_piece kind.Contract) c.in_ok-expect.ensures (fails_after c.in_ok-name.name named_piece c.in_ok-name.ensures (fails_after tt (fixed_piece kind.OpenBrace) c.in_ok-expect-2.ensures (fails_first h states_end_piece messages_follow)))))

pub returns-in_err-state : goal.returns-in_err-state
returns-in_err-state c = exits contract_tree contract never (λ _. never) _ _ _ _ _ c.from_residual-in_err-state.ensures.1 c.in_err-state.ensures
    (λ h. via_fails contract_to contract_from (λ _. refl) (fails_after tt (fixed_piece kind.Contract) c.in_ok-expect.ensures (fails_after c.in_ok-name.name named_piece c.in_ok-name.ensures (fails_after tt (fixed_piece kind.OpenBrace) c.in_ok-expect-2.ensures (fails_second (map message_tree c.in_ok-messages.messages.items) messages_piece c.in_ok-messages.ensures messages_follow (fails_first h members_end_piece state_follows))))))

pub returns-in_err-members : goal.returns-in_err-members
returns-in_err-members c = exits contract_tree contract never (λ _. never) _ _ _ _ _ c.from_residual-in_err-members.ensures.1 c.in_err-members.ensures
    (λ h. via_fails contract_to contract_from (λ _. refl) (fails_after tt (fixed_piece kind.Contract) c.in_ok-expect.ensures (fails_after c.in_ok-name.name named_piece c.in_ok-name.ensures (fails_after tt (fixed_piece kind.OpenBrace) c.in_ok-expect-2.ensures (fails_second (map message_tree c.in_ok-messages.messages.items) messages_piece c.in_ok-messages.ensures messages_follow (fails_second (state_tree c.in_ok-state.state) state_piece c.in_ok-state.ensures state_follows (fails_first h (placed_piece kind.CloseBrace) members_follow)))))))

pub returns-in_err-close : goal.returns-in_err-close
returns-in_err-close c = exits contract_tree contract never (λ _. never) _ _ _ _ _ c.from_residual-in_err-close.ensures.1 c.in_err-close.ensures
    (λ h. via_fails contract_to contract_from (λ _. refl) (fails_after tt (fixed_piece kind.Contract) c.in_ok-expect.ensures (fails_after c.in_ok-name.name named_piece c.in_ok-name.ensures (fails_after tt (fixed_piece kind.OpenBrace) c.in_ok-expect-2.ensures (fails_second (map message_tree c.in_ok-messages.messages.items) messages_piece c.in_ok-messages.ensures messages_follow (fails_second (state_tree c.in_ok-state.state) state_piece c.in_ok-state.ensures state_follows (fails_second (map member_tree c.in_ok-members.members.items) members_piece c.in_ok-members.ensures members_follow h)))))))
