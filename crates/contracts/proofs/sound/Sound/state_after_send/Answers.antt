use Rattle.std.proofs.Common.{◌≡◌, ◌∙◌, option_map, sym, ap, subst}
use Rattle.std.specs.Prelude.{Contains}
use Rattle.program.specs.declared.number.StateId.{StateId}
use Rattle.contracts.specs.Leaving.{sign_from}
use Rattle.contracts.specs.Parts.{contract_parts}
use Rattle.contracts.specs.Positions.{first_with}
use Rattle.contracts.proofs.LeavingLemmas.{no_end, end_there, end_elsewhere, to_numbered}
use Rattle.contracts.proofs.NextLemmas.{Found, next_none, next_some}
use Rattle.contracts.proofs.SignLemmas.{sign_same, sign_other}
use Rattle.contracts.proofs.sound.Sound.state_after_send.Goals as goal
use Rattle.contracts.proofs.sound.Sound.state_after_send.Goals.{After-first_on, After-index}

position_is : (c : After-first_on) → c.first_on.result ≡ first_with c.args.self.now.contract.value.edges.items (c.args.state.0, c.args.message.0)
position_is c = subst (λ l. c.first_on.result ≡ first_with l (c.args.state.0, c.args.message.0)) (c.deref.ensures.value ∙ c.args.self.now.edges_are) c.first_on.ensures

pub returns-in_err-position-clause-end : goal.returns-in_err-position-clause-end
returns-in_err-position-clause-end c =
    let is = position_is (goal.at.returns-in_err-position-clause-end c).After-first_on in
    let edges = c.args.self.now.contract.value.edges.items in
    ap (option_map (λ (q : StateId). q.0)) c.from_residual.ensures
    ∙ no_end edges (sign_from c.args.side) c.args.state c.args.message (next_none edges c.args.state c.args.message (sym is ∙ c.in_err-position.was))

-- the edge at the position
found_of : (c : After-index) → Found c.args.self.now.edges.items c.args.state c.args.message c.in_ok-position.position c.index.result.now
found_of c = next_some c.args.self.now.edges.items c.args.state c.args.message c.in_ok-position.position c.index.result.now
    (sym (subst (λ l. c.first_on.result ≡ first_with l (c.args.state.0, c.args.message.0)) c.deref.ensures.value c.first_on.ensures) ∙ c.in_ok-position.was)

listed : (c : After-index) → Contains c.args.self.now.contract.value.edges.items c.index.result.now
listed c = subst (λ l. Contains l c.index.result.now) c.args.self.now.edges_are (c.in_ok-position.position, (found_of c).within, sym c.index.ensures)

pub returns-then-eq-clause-end : goal.returns-then-eq-clause-end
returns-then-eq-clause-end c =
    let before = (goal.at.returns-then-eq-clause-end c).After-index in
    let here = sym c.index.ensures in
    end_there (contract_parts c.args.self.now.contract.value) c.args.self.now.whole c.args.self.now.sound (sign_from c.args.side) c.args.state c.args.message c.index.result.now
    (listed before) ((found_of before).from here) ((found_of before).on here) (sign_same _ _ (sym c.eq.ensures ∙ c.if-eq.true) ∙ c.sign_from.ensures)

pub returns-then-eq-clause-numbered : goal.returns-then-eq-clause-numbered
returns-then-eq-clause-numbered c =
    to_numbered (contract_parts c.args.self.now.contract.value) c.args.self.now.whole c.index.result.now (listed (goal.at.returns-then-eq-clause-numbered c).After-index)

pub returns-else-eq-clause-end : goal.returns-else-eq-clause-end
returns-else-eq-clause-end c =
    let before = (goal.at.returns-else-eq-clause-end c).After-index in
    let here = sym c.index.ensures in
    end_elsewhere (contract_parts c.args.self.now.contract.value) c.args.self.now.whole c.args.self.now.sound (sign_from c.args.side) c.args.state c.args.message c.index.result.now
    (listed before) ((found_of before).from here) ((found_of before).on here) (λ same. sign_other _ _ (sym c.eq.ensures ∙ c.if-eq.false) (same ∙ sym c.sign_from.ensures))
