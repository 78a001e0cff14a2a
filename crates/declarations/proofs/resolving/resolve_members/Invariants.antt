use Rattle.std.proofs.Common.{◌≡◌, map, take}
use Rattle.declarations.specs.Ready.{all_resolved, declared_in, declared_messages, declared_states}
use Rattle.program.specs.Parts.{contract_model}
use Rattle.declarations.proofs.resolving.resolve_members.Given as goal

abbrev pub invariant-loop-item : goal.invariant-loop-item
invariant-loop-item l = record {
  messages : l.before.messages ≡ declared_messages (declared_in (take l.item-index l.items));
  states : l.before.states ≡ declared_states (declared_in (take l.item-index l.items));
  contracts : map contract_model l.contracts.items ≡ all_resolved l.text (declared_in (take l.item-index l.items));
}
