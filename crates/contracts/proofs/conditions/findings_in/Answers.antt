use Rattle.std.proofs.Common.{◌∙◌, ◌++◌, map, ap, sym, subst}
use Rattle.std.specs.Prelude.{string_bytes}
use Rattle.std.proofs.lemmas.List.{length-map, map-append}
use Rattle.contracts.specs.Conditions.{AreExactly, IsFlaw, IsBoth, IsRound, finding_model}
use Rattle.contracts.specs.Found.{FoundBelow}
use Rattle.contracts.specs.Parts.{contract_parts, state_model}
use Rattle.contracts.proofs.RoundLemmas.{all_found}
use Rattle.contracts.proofs.conditions.findings_in.Goals as goal

pub against_directions-requires : goal.against_directions-requires
against_directions-requires c = record { whole = c.requires.whole; numbers = c.messages_of-messages.ensures }

pub twice_in_states-requires : goal.twice_in_states-requires
twice_in_states-requires c = record { whole = c.requires.whole; numbers = c.messages_of-messages.ensures; ordered = c.requires.ordered }

pub returns : goal.returns
returns c =
    let view = state_model (string_bytes c.args.contract.now.state_names) in
    let states = c.args.contract.now.states.items in
    let edges = c.args.contract.now.edges.items in
    let size = sym (length-map states view) in
    let a = c.in_ok-found.found.items in
    let b = c.in_ok-twice.twice.items in
    let both = c.in_ok-both.both.items in
    let round = c.in_ok-round.round.items in
    let is = c.in_ok-add-3.ensures ∙ ap (λ l. l ++ round) (c.in_ok-add-2.ensures ∙ ap (λ l. l ++ both) c.in_ok-add.ensures) in
    let cut = ap (map finding_model) is ∙ map-append finding_model (a ++ b ++ both) round ∙ ap (λ l. l ++ map finding_model round) (map-append finding_model (a ++ b) both ∙ ap (λ l. l ++ map finding_model both) (map-append finding_model a b)) in
    record {
      exactly = subst (AreExactly (IsFlaw (contract_parts c.args.contract.now))) (sym cut)
          (all_found (contract_parts c.args.contract.now) (map finding_model a) (map finding_model b) (map finding_model both) (map finding_model round)
          c.in_ok-found.ensures.found c.in_ok-twice.ensures.found
          (subst (λ n. FoundBelow (IsBoth (map view states) edges) n (map finding_model both)) size c.in_ok-both.ensures.found)
          (subst (λ n. FoundBelow (IsRound (map view states) edges) n (map finding_model round)) size c.in_ok-round.ensures.found));
    }
