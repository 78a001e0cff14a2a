use Rattle.std.proofs.Common.{◌≡◌, ◌∷◌, [], ◌∙◌, List, Some, ap, refl, sym, subst}
use Rattle.std.specs.Prelude.{slice_get}
use Rattle.machine.specs.Blocks.{exchanged_block, with_new_owner}
use Rattle.machine.specs.Heaps.{QueuesBring, IsCounted, FieldsHold}
use Rattle.machine.specs.World.{Block, block_at, change_each}
use Rattle.machine.specs.declared.worlds.Owner.TheVariants.{Process, Inside}
use Rattle.machine.specs.declared.worlds.Block as made_block
use Rattle.machine.specs.Answers.{with_field}
use Rattle.machine.specs.BlockViews.{blocks_model}
use Rattle.machine.proofs.CountLemmas.{counted_kept, listed_own}
use Rattle.machine.proofs.HeldLemmas.{exchange_brought, exchange_holds, exchanged_is}
use Rattle.machine.proofs.heaps.BlockHeap.exchange.Goals as goal

pub hand_one-requires-clause-counted : goal.hand_one-requires-clause-counted
hand_one-requires-clause-counted c = subst (λ (bs : List Block). IsCounted bs c.args.self.now.counts.items) (sym c.set_field.ensures)
    (counted_kept (with_field c.args.at c.args.field c.args.given) (blocks_model c.args.self.now.blocks.items) c.args.self.now.counts.items
    (λ j b. refl) c.args.self.now.kept.counted)

pub hand_one-requires-clause-listed : goal.hand_one-requires-clause-listed
hand_one-requires-clause-listed c =
    listed_own (blocks_model c.args.self.now.blocks.items) c.args.self.now.counts.items c.args.at c.args.process c.args.self.now.kept.counted
    c.requires.holder

pub invariant_of-self : goal.invariant_of-self
invariant_of-self c =
    let old = blocks_model c.args.self.now.blocks.items in
    let kept = c.args.self.now.kept in
    let found : slice_get (block_at old c.args.at).fields c.args.field ≡ Some c.in_ok-held.held =
    ap (λ (items : List made_block.Block). slice_get (block_at (blocks_model items) c.args.at).fields c.args.field)
    (sym c.deref.ensures.value)
    ∙ (sym c.field_of.ensures ∙ c.in_ok-held.was) in
    let now : blocks_model c.hand_one-2.new.blocks.items
    ≡ change_each (exchanged_block c.args.process c.args.at c.args.field c.args.given c.in_ok-held.held) old =
    c.hand_one-2.ensures.handed ∙ (ap (change_each (with_new_owner (Inside c.args.at) (c.args.given ∷ []))) (c.hand_one.ensures.handed
    ∙ ap (change_each (with_new_owner (Process c.args.process) (c.in_ok-held.held ∷ []))) c.set_field.ensures)
    ∙ exchanged_is c.args.process c.args.at c.args.field c.args.given c.in_ok-held.held old) in
    record {
      kept = record {
        counted = c.hand_one-2.ensures.counted;
        brought = subst QueuesBring (sym now) (exchange_brought old c.args.process c.args.at c.args.field c.args.given c.in_ok-held.held
            kept.held c.requires.holder c.requires.given c.requires.apart found kept.brought);
        held = subst FieldsHold (sym now) (exchange_holds old c.args.process c.args.at c.args.field c.args.given c.in_ok-held.held
            kept.held c.requires.holder c.requires.given c.requires.apart found);
      };
    }

pub returns-clause-exchanged : goal.returns-clause-exchanged
returns-clause-exchanged c =
    let old = blocks_model c.args.self.now.blocks.items in
    c.hand_one-2.ensures.handed ∙ (ap (change_each (with_new_owner (Inside c.args.at) (c.args.given ∷ []))) (c.hand_one.ensures.handed
    ∙ ap (change_each (with_new_owner (Process c.args.process) (c.in_ok-held.held ∷ []))) c.set_field.ensures)
    ∙ exchanged_is c.args.process c.args.at c.args.field c.args.given c.in_ok-held.held old)
