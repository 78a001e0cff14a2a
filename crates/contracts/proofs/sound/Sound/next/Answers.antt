use Rattle.std.proofs.Common.{◌≡◌, ◌∙◌, Some, sym, subst, refl}
use Rattle.contracts.specs.Positions.{first_with}
use Rattle.contracts.specs.Walks.{IsNext}
use Rattle.contracts.proofs.NextLemmas.{next_none, next_some}
use Rattle.contracts.proofs.sound.Sound.next.Goals as goal
use Rattle.contracts.proofs.sound.Sound.next.Goals.{After-first_on}

position_is : (c : After-first_on) → c.first_on.result ≡ first_with c.args.self.now.edges.items (c.args.state.0, c.args.message.0)
position_is c = subst (λ l. c.first_on.result ≡ first_with l (c.args.state.0, c.args.message.0)) c.deref.ensures.value c.first_on.ensures

pub returns-in_err-position : goal.returns-in_err-position
returns-in_err-position c =
    let is = position_is (goal.at.returns-in_err-position c).After-first_on in
    let was = c.in_err-position.was in
    subst (λ l. IsNext l c.args.state c.args.message c.from_residual.result) c.args.self.now.edges_are
    (subst (IsNext c.args.self.now.edges.items c.args.state c.args.message) (sym c.from_residual.ensures)
    (next_none c.args.self.now.edges.items c.args.state c.args.message (sym is ∙ was)))

pub returns : goal.returns
returns c =
    let is = position_is (goal.at.returns c).After-first_on in
    let e = c.index.result.now in
    let found = next_some c.args.self.now.edges.items c.args.state c.args.message c.in_ok-position.position e (sym is ∙ c.in_ok-position.was) in
    let here = sym c.index.ensures in
    subst (λ l. IsNext l c.args.state c.args.message (Some e.to)) c.args.self.now.edges_are
    (e, (c.in_ok-position.position, found.within, here), found.from here, found.on here, refl)
