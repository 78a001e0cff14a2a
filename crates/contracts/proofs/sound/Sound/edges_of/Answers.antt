use Rattle.std.proofs.Common.{◌∙◌, sym, ap, subst}
use Rattle.std.specs.Prelude.{Contains}
use Rattle.std.specs.Option.{option_copied}
use Rattle.contracts.specs.Parts.{contract_parts}
use Rattle.contracts.proofs.LeavingLemmas.{all_of_sign, first_in, none_first, none_from, none_of_sign}
use Rattle.contracts.proofs.SignLemmas.{sign_same, sign_other}
use Rattle.contracts.proofs.sound.Sound.edges_of.Goals as goal
use Rattle.contracts.proofs.sound.Sound.edges_of.Goals.{in_default-via-in-Some+else-eq, in_default-via-in_default}

pub returns-in-Some : goal.returns-in-Some
returns-in-Some c =
    let sound = c.args.self.now in
    let there = subst (λ l. Contains l c.in-Some.edge.now) c.edges_at-group.ensures (first_in c.edges_at-group.result.now c.in-Some.edge.now (sym c.first.ensures.value ∙ ap option_copied c.in-Some.is)) in
    c.edges_at-group.ensures ∙ all_of_sign (contract_parts sound.contract.value) sound.whole sound.sound c.args.sign c.args.state.0 c.in-Some.edge.now there (sign_same _ _ (sym c.eq.ensures ∙ c.if-eq.true))

pub returns-in_default : goal.returns-in_default
returns-in_default c =
    let sound = c.args.self.now in
    elim c.in_default.branch [
      | in_default-via-in-Some+else-eq w ↦
          let there = subst (λ l. Contains l w.in-Some.edge.now) c.edges_at-group.ensures (first_in c.edges_at-group.result.now w.in-Some.edge.now (sym c.first.ensures.value ∙ ap option_copied w.in-Some.is)) in
          none_of_sign (contract_parts sound.contract.value) sound.whole sound.sound c.args.sign c.args.state.0 w.in-Some.edge.now there (sign_other _ _ (sym w.eq.ensures ∙ w.if-eq.false))
      | in_default-via-in_default w ↦
          none_from sound.contract.value.edges.items c.args.sign c.args.state.0 (sym c.edges_at-group.ensures ∙ none_first c.edges_at-group.result.now (sym c.first.ensures.value ∙ ap option_copied w.in_default.is))
    ]
