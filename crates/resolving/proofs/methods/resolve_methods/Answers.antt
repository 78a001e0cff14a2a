use Rattle.std.proofs.Common.{◌≤◌, List, arith, ap, length, map, subst, sym, ◌∙◌}
use Rattle.std.proofs.lemmas.List.{length-map}
use Rattle.tree.specs.Trees.{item_tree}
use Rattle.tree.specs.declared.item.Item.{Item}
use Rattle.declarations.specs.Program.{program_of}
use Rattle.program.specs.declared.limits.TheConstants.{MOST_METHODS}
use Rattle.program.specs.Methods.{method_model}
use Rattle.resolving.specs.Callees.{all_methods}
use Rattle.resolving.specs.Around.{program_in}
use Rattle.resolving.specs.Methods.{methods_told}
use Rattle.resolving.proofs.ItemLemmas.{few_methods, told_many}
use Rattle.resolving.proofs.methods.resolve_methods.Goals as goal

pub resolve_items-requires-clause-few : goal.resolve_items-requires-clause-few
resolve_items-requires-clause-few c =
    let p = program_of c.args.text.now c.args.tree.now in
    subst (λ (l : List Item). length (all_methods (map item_tree l)) ≤ MOST_METHODS) (sym c.deref-2.ensures.value) (few_methods p c.requires.clean)

pub returns-clause-few : goal.returns-clause-few
returns-clause-few c =
    let p = program_of c.args.text.now c.args.tree.now in
    let few = few_methods p c.requires.clean in
    let size = length-map c.in_ok-program.program.methods.items method_model in
    let all = ap length (c.in_ok-program.ensures.methods ∙ ap (λ (l : List Item). methods_told (program_in c.args.text.now (map item_tree l))) c.deref-2.ensures.value) in
    let many = told_many p 0 p.items in
    omega (arith, few, size, all, many)
