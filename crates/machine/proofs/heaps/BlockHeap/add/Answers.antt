use Rattle.std.proofs.Common.{◌≡◌, ◌∷◌, [], ◌++◌, ◌∙◌, List, length, sym, subst}
use Rattle.machine.specs.BlockViews.{blocks_model}
use Rattle.machine.specs.Blocks.{with_new_owner, new_block}
use Rattle.machine.specs.Heaps.{QueuesBring, IsCounted, FieldsHold}
use Rattle.machine.specs.World.{Block, change_each}
use Rattle.machine.specs.declared.worlds.Owner.TheVariants.{Inside}
use Rattle.machine.proofs.ChangeLemmas.{seen_length}
use Rattle.machine.proofs.CountLemmas.{counted_added, room_for}
use Rattle.machine.proofs.HeldLemmas.{grown_is, made_pushed, made_model, new_brought, new_holds}
use Rattle.machine.proofs.heaps.BlockHeap.add.Goals as goal

pub count_more-requires-clause-room : goal.count_more-requires-clause-room
count_more-requires-clause-room c = room_for c.list.new.self.blocks c.list.new.self.counts.items c.list.new.self.kept.counted

pub hand-requires-clause-counted : goal.hand-requires-clause-counted
hand-requires-clause-counted c =
    let given = c.args.given.now in
    let made = new_block c.args.ty c.args.process 0 0 given in
    let pushed : blocks_model c.push.new.self.items ≡ blocks_model c.list.new.self.blocks.items ++ made ∷ [] =
    made_pushed made c.list.new.self.blocks.items c.push.new.self.items _ c.in_ok-push.ensures.items
    (made_model c.args.ty c.args.process given c.new.result.items c.in_ok-fields.fields.items c.new.ensures.items
    c.in_ok-fields.ensures.items) in
    subst (λ (bs : List Block). IsCounted bs c.count_more.new.counts.items) (sym pushed)
    (counted_added (blocks_model c.list.new.self.blocks.items) c.list.new.self.counts.items c.count_more.new.counts.items made
    c.list.new.self.kept.counted (λ q. c.count_more.ensures.more q))

pub invariant_of-self-2 : goal.invariant_of-self-2
invariant_of-self-2 c =
    let bs = blocks_model c.args.self.now.blocks.items in
    let kept = c.args.self.now.kept in
    let given = c.args.given.now in
    let made = new_block c.args.ty c.args.process 0 0 given in
    let long : c.len-address.result ≡ length bs =
    c.len-address.ensures ∙ (c.args.self.now.blocks.ok.0 ∙ sym (seen_length c.args.self.now.blocks.items)) in
    let grown : blocks_model c.hand.new.blocks.items ≡ change_each (with_new_owner (Inside (length bs)) given) bs ++ made ∷ [] =
    grown_is bs c.args.process given c.args.ty kept.held c.requires.owned.own c.requires.once.once c.len-address.result
    (blocks_model c.list.new.self.blocks.items) (blocks_model c.push.new.self.items) (blocks_model c.hand.new.blocks.items) long
    c.list.ensures.same
    (made_pushed made c.list.new.self.blocks.items c.push.new.self.items _ c.in_ok-push.ensures.items
    (made_model c.args.ty c.args.process given c.new.result.items c.in_ok-fields.fields.items c.new.ensures.items
    c.in_ok-fields.ensures.items))
    c.hand.ensures.handed in
    record {
      kept = record {
        counted = c.hand.ensures.counted;
        brought = subst QueuesBring (sym grown)
            (new_brought bs c.args.process given c.args.ty kept.held c.requires.owned.own c.requires.once.once kept.brought);
        held = subst FieldsHold (sym grown) (new_holds bs c.args.process given c.args.ty kept.held c.requires.owned.own c.requires.once.once);
      };
    }

pub returns-clause-added : goal.returns-clause-added
returns-clause-added c =
    let bs = blocks_model c.args.self.now.blocks.items in
    let given = c.args.given.now in
    let long : c.len-address.result ≡ length bs =
    c.len-address.ensures ∙ (c.args.self.now.blocks.ok.0 ∙ sym (seen_length c.args.self.now.blocks.items)) in
    grown_is bs c.args.process given c.args.ty c.args.self.now.kept.held c.requires.owned.own c.requires.once.once c.len-address.result
    (blocks_model c.list.new.self.blocks.items) (blocks_model c.push.new.self.items) (blocks_model c.hand.new.blocks.items) long
    c.list.ensures.same
    (made_pushed (new_block c.args.ty c.args.process 0 0 given) c.list.new.self.blocks.items c.push.new.self.items _
    c.in_ok-push.ensures.items
    (made_model c.args.ty c.args.process given c.new.result.items c.in_ok-fields.fields.items c.new.ensures.items
    c.in_ok-fields.ensures.items))
    c.hand.ensures.handed
