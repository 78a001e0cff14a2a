use Rattle.acceptance_methods.proofs.FormedLemmas.{made_well_formed, one_is_few, one_method}
use Rattle.acceptance_methods.proofs.fields.methods_of_exchange.Goals as goal

pub new-requires-3 : goal.new-requires-3
new-requires-3 c = record {
  well_formed = made_well_formed _ _ _ _ c.new.ensures.items c.new-2.ensures.items c.in_ok-structs.ensures
      (one_method _ _ _ c.new-methods.ensures.items c.in_ok-push.ensures.items c.in_ok-method.ensures);
  few = one_is_few _ _ _ c.new-methods.ensures.items c.in_ok-push.ensures.items;
}
