use Rattle.std.proofs.Common.{◌≡◌, ◌∙◌, List, ℕ, ap, Bor, Option, Some, None, map, refl, sym}
use Rattle.std.specs.Prelude.{option_and_then, option_map, slice_get, string_bytes}
use Rattle.std.proofs.lemmas.Option.{slice_get_past, slice_get_read}
use Rattle.program.specs.Parts.{ContractModel, StateModel, contract_model, state_model}
use Rattle.program.specs.declared.contract.Contract.{Contract}
use Rattle.rules.specs.Programs.{model_of}
use Rattle.replays.specs.Names.{state_of}
use Rattle.replays.proofs.NameLemmas.{by_index, seen_at, state_placed}
use Rattle.replays.proofs.naming.Naming.find_state_name.Goals as goal
use Rattle.replays.proofs.naming.Naming.find_state_name.Goals.{After-index_of}

-- the state is at the index from the tables
by_tables : (c : After-index_of) → state_of (model_of c.args.self.now.program.now).contracts c.args.contract.0 c.args.state.0
    ≡ by_index (model_of c.args.self.now.program.now).contracts c.args.contract.0 c.index_of.result
by_tables c =
    let contracts = (model_of c.args.self.now.program.now).contracts in
    state_placed contracts c.args.self.now.states.items c.args.self.now.placed c.args.contract.0 c.args.state.0 ∙ ap (by_index contracts c.args.contract.0) (sym c.index_of.ensures)

-- the name of a state, if it exists
abbrev name_of : Option StateModel → Option (List ℕ)
name_of s = option_map (λ (x : StateModel). x.name) s

-- the state at an index of a contract, if it exists
abbrev within : Option ContractModel → ℕ → Option StateModel
within contract index = option_and_then (λ (x : ContractModel). slice_get x.parts.states index) contract

-- the states of a contract that exists
in_contract : (c : After-index_of) (index : ℕ) (contract : Contract) → c.index_of.result ≡ Some index → slice_get (model_of c.args.self.now.program.now).contracts c.args.contract.0 ≡ Some (contract_model contract)
    → state_of (model_of c.args.self.now.program.now).contracts c.args.contract.0 c.args.state.0 ≡ slice_get (map (state_model (string_bytes contract.state_names)) contract.states.items) index
in_contract c index contract was there = by_tables c ∙ ap (by_index (model_of c.args.self.now.program.now).contracts c.args.contract.0) was ∙ ap (λ o. within o index) there

pub returns-in_err-index : goal.returns-in_err-index
returns-in_err-index c =
    let contracts = (model_of c.args.self.now.program.now).contracts in
    ap (option_map (λ (b : Bor (List ℕ)). b.now)) c.from_residual.ensures
    ∙ sym (ap name_of (by_tables (goal.at.returns-in_err-index c).After-index_of ∙ ap (by_index contracts c.args.contract.0) c.in_err-index.was))

pub returns-in_err-within : goal.returns-in_err-within
returns-in_err-within c =
    let contracts = (model_of c.args.self.now.program.now).contracts in
    let n = c.args.contract.0 in
    let past = seen_at contract_model c.contracts.result.now contracts n None c.contracts.ensures (slice_get_past c.contracts.result.now n c.in_err-within.ensures.lookup.3) in
    ap (option_map (λ (b : Bor (List ℕ)). b.now)) c.from_residual-in_err-within.ensures
    ∙ sym (ap name_of (by_tables (goal.at.returns-in_err-within c).After-index_of ∙ ap (by_index contracts n) c.in_ok-index.was
    ∙ ap (λ o. within o c.in_ok-index.index) past))

pub returns-in_err-there : goal.returns-in_err-there
returns-in_err-there c =
    let n = c.args.contract.0 in
    let x = c.in_ok-within.within.now in
    let view = state_model (string_bytes x.state_names) in
    let look = c.in_ok-within.ensures.lookup in
    let there = seen_at contract_model c.contracts.result.now (model_of c.args.self.now.program.now).contracts n (Some x) c.contracts.ensures (slice_get_read c.contracts.result.now _ n x refl look.3.0 look.1) in
    ap (option_map (λ (b : Bor (List ℕ)). b.now)) c.from_residual-in_err-there.ensures
    ∙ sym (ap name_of (in_contract (goal.at.returns-in_err-there c).After-index_of c.in_ok-index.index x c.in_ok-index.was there
    ∙ seen_at view c.deref.result.now _ c.in_ok-index.index None (ap (map view) c.deref.ensures.value) (slice_get_past c.deref.result.now c.in_ok-index.index c.in_err-there.ensures.lookup.3)))

pub returns : goal.returns
returns c =
    let n = c.args.contract.0 in
    let x = c.in_ok-within.within.now in
    let view = state_model (string_bytes x.state_names) in
    let look = c.in_ok-within.ensures.lookup in
    let there = seen_at contract_model c.contracts.result.now (model_of c.args.self.now.program.now).contracts n (Some x) c.contracts.ensures (slice_get_read c.contracts.result.now _ n x refl look.3.0 look.1) in
    let state = c.in_ok-there.field-0.now in
    let at = c.in_ok-there.ensures.lookup in
    ap Some c.state_name.ensures
    ∙ sym (ap name_of (in_contract (goal.at.returns c).After-index_of c.in_ok-index.index x c.in_ok-index.was there
    ∙ seen_at view c.deref.result.now _ c.in_ok-index.index (Some state) (ap (map view) c.deref.ensures.value) (slice_get_read c.deref.result.now _ c.in_ok-index.index state refl at.3.0 at.1)))
