use Rattle.std.proofs.Common.{◌≡◌, [], ◌∙◌, None, Some, refl, sym, ap, subst}
use Rattle.std.specs.Prelude.{IsSome, Option, option_map}
use Rattle.std.specs.Option.{option_map_or}
use Rattle.machine.specs.Answers.{in_state, left_in}
use Rattle.machine.specs.BlockViews.{blocks_model, held_model}
use Rattle.machine.specs.Blocks.{with_new_owner, received_block}
use Rattle.machine.specs.Heaps.{QueuesBring, IsCounted, FieldsHold}
use Rattle.machine.specs.World.{MessageHeld, block_at, change_each}
use Rattle.machine.specs.declared.worlds.Held.{Held}
use Rattle.machine.specs.declared.worlds.Owner.TheVariants.{Process}
use Rattle.machine.proofs.ChangeLemmas.{received_is}
use Rattle.machine.proofs.CountLemmas.{counted_kept, listed_own}
use Rattle.machine.proofs.HeapLemmas.{brought_received, cons_of}
use Rattle.machine.proofs.HeldLemmas.{held_received}
use Rattle.machine.proofs.heaps.BlockHeap.receive.Goals as goal

-- if the model of the taken message is a message, one was taken
is_there : (o : Option Held) (m : MessageHeld) → option_map held_model o ≡ Some m → IsSome o
is_there None m e = absurd (none_some e)
  where
    none_some : None ≡ Some m → ⊥
    none_some e = absurd (cc)
is_there (Some h) m e = refl

pub unwrap-payload-requires : goal.unwrap-payload-requires
unwrap-payload-requires c =
    let front = cons_of (block_at (blocks_model c.args.self.now.blocks.items) c.args.at).queue c.requires.some in
    is_there c.take_front.result front.0 (c.take_front.ensures.taken front.0 front.1 front.2)

pub hand-requires-clause-counted : goal.hand-requires-clause-counted
hand-requires-clause-counted c =
    let old = blocks_model c.args.self.now.blocks.items in
    let front = cons_of (block_at old c.args.at).queue c.requires.some in
    subst (λ bs. IsCounted bs c.args.self.now.counts.items) (sym (c.take_front.ensures.left front.0 front.1 front.2))
    (counted_kept (left_in c.args.at front.1) old c.args.self.now.counts.items (λ j b. refl) c.args.self.now.kept.counted)

pub hand-requires-clause-listed : goal.hand-requires-clause-listed
hand-requires-clause-listed c = listed_own (blocks_model c.args.self.now.blocks.items) c.args.self.now.counts.items c.args.at c.args.process c.args.self.now.kept.counted c.requires.owned

pub returns-clause-received : goal.returns-clause-received
returns-clause-received c = λ m ms is.
    let old = blocks_model c.args.self.now.blocks.items in
    let brings : c.deref.result.now ≡ m.payload = c.deref.ensures.value ∙ ap (λ o. option_map_or (λ h. h.payload) o []) (ap (option_map held_model) (sym c.unwrap-payload.ensures) ∙ c.take_front.ensures.taken m ms is) in
    c.set_state.ensures
    ∙ (ap (change_each (in_state c.args.at c.args.state.0)) (c.hand.ensures.handed
    ∙ (ap (change_each (with_new_owner (Process c.args.process) c.deref.result.now)) (c.take_front.ensures.left m ms is)
    ∙ ap (λ xs. change_each (with_new_owner (Process c.args.process) xs) (change_each (left_in c.args.at ms) old)) brings))
    ∙ received_is c.args.process c.args.at c.args.state.0 m ms old)

pub invariant_of-self : goal.invariant_of-self
invariant_of-self c =
    let old = blocks_model c.args.self.now.blocks.items in
    let front = cons_of (block_at old c.args.at).queue c.requires.some in
    let m = front.0 in
    let ms = front.1 in
    let state = in_state c.args.at c.args.state.0 in
    let brings : c.deref.result.now ≡ m.payload = c.deref.ensures.value ∙ ap (λ o. option_map_or (λ h. h.payload) o []) (ap (option_map held_model) (sym c.unwrap-payload.ensures) ∙ c.take_front.ensures.taken m ms front.2) in
    let received : blocks_model c.set_state.new.blocks.items ≡ change_each (received_block c.args.process c.args.at c.args.state.0 m ms) old =
    c.set_state.ensures
    ∙ (ap (change_each state) (c.hand.ensures.handed
    ∙ (ap (change_each (with_new_owner (Process c.args.process) c.deref.result.now)) (c.take_front.ensures.left m ms front.2)
    ∙ ap (λ xs. change_each (with_new_owner (Process c.args.process) xs) (change_each (left_in c.args.at ms) old)) brings))
    ∙ received_is c.args.process c.args.at c.args.state.0 m ms old) in
    record {
      kept = record {
        counted = subst (λ bs. IsCounted bs c.hand.new.counts.items) (sym c.set_state.ensures)
            (counted_kept state (blocks_model c.hand.new.blocks.items) c.hand.new.counts.items (λ j b. refl) c.hand.ensures.counted);
        brought = subst QueuesBring (sym received) (brought_received old c.args.process c.args.at c.args.state.0 m ms front.2 c.args.self.now.kept.brought);
        held = subst FieldsHold (sym received)
            (held_received old c.args.process c.args.at c.args.state.0 m ms front.2 c.args.self.now.kept.brought c.args.self.now.kept.held);
      };
    }
