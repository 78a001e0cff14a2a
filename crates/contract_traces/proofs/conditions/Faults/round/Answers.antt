use Rattle.std.proofs.Common.{◌∙◌, subst, sym}
use Rattle.std.proofs.lemmas.Result.{IfOk-weaker}
use Rattle.program.specs.declared.contract.Sign.TheVariants.{Receive, Send}
use Rattle.contract_traces.specs.Tables.{HasStateAt}
use Rattle.contract_traces.proofs.ConditionLemmas.{round_shown}
use Rattle.contract_traces.proofs.conditions.Faults.round.Goals as goal

pub returns-then-not-is_empty : goal.returns-then-not-is_empty
returns-then-not-is_empty c = λ some.
    let contract = c.args.self.now.contract.now in
    let at = subst (λ k. HasStateAt contract.states.items k c.in-Some.state) c.place_key.ensures
    (c.requires.reasons.states.right c.place_key.result c.in-Some.state (sym (c.in-Some.ensures ∙ c.get.ensures.value))) in
    let walk = c.in_ok-sends.ensures some in
    round_shown contract c.args.place c.in-Some.state Send c.in_ok-sends.sends.items at some walk.0 walk.1

pub returns : goal.returns
returns c =
    let contract = c.args.self.now.contract.now in
    let at = subst (λ k. HasStateAt contract.states.items k c.in-Some.state) c.place_key.ensures
    (c.requires.reasons.states.right c.place_key.result c.in-Some.state (sym (c.in-Some.ensures ∙ c.get.ensures.value))) in
    IfOk-weaker c.round_by-2.result _ _ (λ shown told some.
    let walk = told some in
    round_shown contract c.args.place c.in-Some.state Receive shown.items at some walk.0 walk.1) c.round_by-2.ensures
