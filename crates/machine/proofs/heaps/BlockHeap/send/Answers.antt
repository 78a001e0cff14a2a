use Rattle.std.proofs.Common.{◌≡◌, ◌∙◌, refl, sym, ap, subst, false}
use Rattle.machine.specs.Answers.{in_state, with_message}
use Rattle.machine.specs.BlockViews.{blocks_model}
use Rattle.machine.specs.Blocks.{with_new_owner, sent_block}
use Rattle.machine.specs.Heaps.{QueuesBring, IsCounted, FieldsHold}
use Rattle.machine.specs.World.{MessageHeld, change_each}
use Rattle.machine.specs.declared.worlds.Owner.TheVariants.{Queue, Channel}
use Rattle.machine.proofs.ChangeLemmas.{lost_is, sent_is}
use Rattle.machine.proofs.CountLemmas.{counted_kept}
use Rattle.machine.proofs.HeapLemmas.{brought_handed, brought_kept, brought_sent}
use Rattle.machine.proofs.HeldLemmas.{held_handed, held_kept, held_sent}
use Rattle.machine.proofs.heaps.BlockHeap.send.Goals as goal

pub invariant_of-self : goal.invariant_of-self
invariant_of-self c =
    let old = blocks_model c.args.self.now.blocks.items in
    let state = in_state c.args.way.at c.args.way.state.0 in
    let handed_all : QueuesBring (blocks_model c.hand.new.blocks.items) =
    subst QueuesBring (sym c.hand.ensures.handed) (brought_handed Channel old c.args.given.now (λ a. refl) c.requires.owned c.args.self.now.kept.brought) in
    record {
      kept = record {
        counted = subst (λ bs. IsCounted bs c.hand.new.counts.items) (sym c.set_state.ensures)
            (counted_kept state (blocks_model c.hand.new.blocks.items) c.hand.new.counts.items (λ j b. refl) c.hand.ensures.counted);
        brought = subst QueuesBring (sym c.set_state.ensures) (brought_kept state (blocks_model c.hand.new.blocks.items) (λ j b. refl) (λ j b. refl) handed_all);
        held = subst FieldsHold (sym c.set_state.ensures) (held_kept state (blocks_model c.hand.new.blocks.items) (λ j b. refl) (λ j b. refl)
            (subst FieldsHold (sym c.hand.ensures.handed) (held_handed Channel old c.args.given.now (λ a. refl) refl c.requires.owned c.args.self.now.kept.held)));
      };
    }

pub returns-then-way-clause-done : goal.returns-then-way-clause-done
returns-then-way-clause-done c = λ done.
    let old = blocks_model c.args.self.now.blocks.items in
    let m : MessageHeld = record { message = c.args.message.0; payload = c.args.given.now } in
    c.set_state.ensures
    ∙ (ap (change_each (in_state c.args.way.at c.args.way.state.0)) c.hand.ensures.handed
    ∙ (lost_is c.args.way.at c.args.way.state.0 c.args.way.peer m old
    ∙ ap (λ g. change_each (sent_block c.args.way.at c.args.way.state.0 c.args.way.peer g m) old) (sym c.if-way.true)))

pub hand-requires-2-clause-counted : goal.hand-requires-2-clause-counted
hand-requires-2-clause-counted c =
    let old = blocks_model c.args.self.now.blocks.items in
    subst (λ bs. IsCounted bs c.args.self.now.counts.items) (sym (c.enqueue.ensures.done c.if-not-enqueue.false))
    (counted_kept (with_message c.args.way.peer _) old c.args.self.now.counts.items (λ j b. refl) c.args.self.now.kept.counted)

pub returns-clause-done : goal.returns-clause-done
returns-clause-done c = λ done.
    let old = blocks_model c.args.self.now.blocks.items in
    let m : MessageHeld = record { message = c.args.message.0; payload = c.args.given.now } in
    let put : blocks_model c.enqueue.new.blocks.items ≡ change_each (with_message c.args.way.peer m) old =
    c.enqueue.ensures.done c.if-not-enqueue.false ∙ ap (λ given. change_each (with_message c.args.way.peer record { message = c.args.message.0; payload = given }) old) c.in-Ok.ensures.items in
    c.set_state-2.ensures
    ∙ (ap (change_each (in_state c.args.way.at c.args.way.state.0)) (c.hand-2.ensures.handed ∙ ap (change_each (with_new_owner (Queue c.args.way.peer) c.args.given.now)) put)
    ∙ (sent_is c.args.way.at c.args.way.state.0 c.args.way.peer m old
    ∙ ap (λ g. change_each (sent_block c.args.way.at c.args.way.state.0 c.args.way.peer g m) old) (sym c.if-way.false)))

pub invariant_of-self-2 : goal.invariant_of-self-2
invariant_of-self-2 c =
    let old = blocks_model c.args.self.now.blocks.items in
    let m : MessageHeld = record { message = c.args.message.0; payload = c.args.given.now } in
    let state = in_state c.args.way.at c.args.way.state.0 in
    let put : blocks_model c.enqueue.new.blocks.items ≡ change_each (with_message c.args.way.peer m) old =
    c.enqueue.ensures.done c.if-not-enqueue.false ∙ ap (λ given. change_each (with_message c.args.way.peer record { message = c.args.message.0; payload = given }) old) c.in-Ok.ensures.items in
    let sent : blocks_model c.set_state-2.new.blocks.items ≡ change_each (sent_block c.args.way.at c.args.way.state.0 c.args.way.peer false m) old =
    c.set_state-2.ensures
    ∙ (ap (change_each state) (c.hand-2.ensures.handed ∙ ap (change_each (with_new_owner (Queue c.args.way.peer) c.args.given.now)) put)
    ∙ sent_is c.args.way.at c.args.way.state.0 c.args.way.peer m old) in
    record {
      kept = record {
        counted = subst (λ bs. IsCounted bs c.hand-2.new.counts.items) (sym c.set_state-2.ensures)
            (counted_kept state (blocks_model c.hand-2.new.blocks.items) c.hand-2.new.counts.items (λ j b. refl) c.hand-2.ensures.counted);
        brought = subst QueuesBring (sym sent)
            (brought_sent old c.args.way.at c.args.way.state.0 c.args.way.peer m c.requires.owned c.requires.once (c.requires.there c.if-way.false) c.args.self.now.kept.brought);
        held = subst FieldsHold (sym sent) (held_sent old c.args.way.at c.args.way.state.0 c.args.way.peer m c.requires.owned c.args.self.now.kept.held);
      };
    }
