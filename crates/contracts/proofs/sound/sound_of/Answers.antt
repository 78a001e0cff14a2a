use Rattle.std.proofs.Common.{◌≡◌, ◌∙◌, List, map, ap, sym, subst}
use Rattle.program.specs.declared.contract.Contract.{Contract}
use Rattle.program.specs.declared.contract.Message.{Message}
use Rattle.program.specs.declared.number.MessageId.{MessageId}
use Rattle.contracts.specs.Arcs.{EndsListed}
use Rattle.contracts.specs.Conditions.{IsSound}
use Rattle.contracts.specs.Graphs.{groups}
use Rattle.contracts.specs.Leaving.{AreLeaving}
use Rattle.contracts.specs.Parts.{MessageModel, contract_parts, message_model}
use Rattle.contracts.specs.Positions.{numbers_of}
use Rattle.contracts.proofs.PartLemmas.{ends_listed, message_numbers_are}
use Rattle.contracts.proofs.sound.sound_of.Goals as goal

-- lists of messages with the same parts have the same numbers
same_numbers : (one other : List Message) → map message_model one ≡ map message_model other → map (λ (m : Message). m.id.0) one ≡ map (λ (m : Message). m.id.0) other
same_numbers one other same = sym (message_numbers_are one) ∙ ap (λ l. map (λ (i : MessageId). i.0) (map (λ (m : MessageModel). m.id) l)) same ∙ message_numbers_are other

pub edges_by_state-requires : goal.edges_by_state-requires
edges_by_state-requires c =
    let same = c.in_ok-edges.ensures.items_if_clones_equal (λ x y h. h) ∙ c.deref.ensures.value in
    record { listed = subst (EndsListed (numbers_of c.states_of-states.result)) (sym (c.deref-3.ensures.value ∙ same)) (ends_listed c.args.contract.now (numbers_of c.states_of-states.result) c.requires.whole c.states_of-states.ensures) }

pub invariant_of-result-clause-sound : goal.invariant_of-result-clause-sound
invariant_of-result-clause-sound c = subst (λ (k : Contract). IsSound (contract_parts k)) (sym c.of.ensures) c.requires.sound

pub invariant_of-result-clause-edges_are : goal.invariant_of-result-clause-edges_are
invariant_of-result-clause-edges_are c = c.in_ok-edges.ensures.items_if_clones_equal (λ x y h. h) ∙ c.deref.ensures.value ∙ ap (λ (k : Contract). k.edges.items) (sym c.of.ensures)

pub invariant_of-result-clause-messages_are : goal.invariant_of-result-clause-messages_are
invariant_of-result-clause-messages_are c = c.in_ok-messages.ensures.parts ∙ ap (map message_model) c.deref-2.ensures.value ∙ ap (λ (k : Contract). map message_model k.messages.items) (sym c.of.ensures)

pub invariant_of-result-clause-named : goal.invariant_of-result-clause-named
invariant_of-result-clause-named c = c.messages_of.ensures ∙ same_numbers c.args.contract.now.messages.items c.in_ok-messages.messages.items (sym (c.in_ok-messages.ensures.parts ∙ ap (map message_model) c.deref-2.ensures.value))

pub invariant_of-result-clause-leave : goal.invariant_of-result-clause-leave
invariant_of-result-clause-leave c =
    let same = c.in_ok-edges.ensures.items_if_clones_equal (λ x y h. h) ∙ c.deref.ensures.value ∙ ap (λ (k : Contract). k.edges.items) (sym c.of.ensures) in
    subst (λ edges. AreLeaving (numbers_of c.states_of-states.result) edges (groups c.in_ok-leaving.leaving)) (c.deref-3.ensures.value ∙ same) c.in_ok-leaving.ensures
