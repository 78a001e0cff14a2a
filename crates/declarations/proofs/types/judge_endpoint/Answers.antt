use Rattle.std.proofs.Common.{Some, sym, subst}
use Rattle.std.specs.Prelude.{OnOk}
use Rattle.declarations.specs.Declarations.{names_of_states, states_of}
use Rattle.declarations.specs.Mistakes.{Adds}
use Rattle.declarations.specs.Types.{endpoint_unknown}
use Rattle.declarations.specs.Listed.{asked_name}
use Rattle.declarations.specs.declared.mistake.NameSort.TheVariants as sort
use Rattle.tables.specs.Tables.{IsTable}
use Rattle.tables.specs.Words.{words_at}
use Rattle.declarations.proofs.ScopeLemmas.{looked_contract}
use Rattle.declarations.proofs.types.judge_endpoint.Goals as goal

pub returns-in-Some-Some : goal.returns-in-Some-Some
returns-in-Some-Some c = λ p h.
    let old = c.args.found.now.items in
    let new = c.judge_name.new.found.items in
    let result = c.judge_name.result in
    let declared = c.in-Some-Some.declared.now in
    let looked = looked_contract p.text _ _ declared (c.in-Some-Some.ensures p h) in
    let names = names_of_states (states_of looked.contract) in
    subst (λ o. OnOk result (Adds old new (endpoint_unknown p.text o c.args.contract c.args.state))) (sym looked.is)
    (subst (λ s. OnOk result (Adds old new (endpoint_unknown p.text (Some (c.in-Some-Some.index, looked.contract)) c.args.contract s))) (sym c.in-Some-Some.is-1)
    (subst (λ t. OnOk result (Adds old new (asked_name (sort.State (Some c.in-Some-Some.index)) t names c.in-Some-Some.state))) h.text_is
    (c.judge_name.ensures names (subst (λ t. IsTable (words_at t names) declared.states) (sym h.text_is) looked.declared.states))))
