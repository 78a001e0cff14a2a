use Rattle.std.proofs.Common.{◌≡◌, map}
use Rattle.tree.specs.Trees.{item_tree}
use Rattle.program.specs.Methods.{method_model}
use Rattle.resolving.specs.Around.{program_in}
use Rattle.program.specs.Programs.{type_lists}
use Rattle.resolving.proofs.BroughtLemmas.{first_brought}
use Rattle.resolving.proofs.ItemLemmas.{first_told}
use Rattle.resolving.proofs.methods.resolve_items.Given as goal

abbrev pub invariant-loop-class : goal.invariant-loop-class
invariant-loop-class l = record {
  messages : type_lists l.messages.items ≡ first_brought (program_in l.text (map item_tree l.items)) l.items l.class;
  methods : map method_model l.resolved.items ≡ first_told (program_in l.text (map item_tree l.items)) l.items l.class;
}
