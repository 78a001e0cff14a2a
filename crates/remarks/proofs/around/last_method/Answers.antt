use Rattle.std.proofs.Common.{rules, tests}
use Rattle.std.proofs.lemmas.Iterator.Adapters.{YieldsList-from_rev_slice}
use Rattle.std.proofs.lemmas.Iterator.Search.{find_from_yields_List}
use Rattle.nearest.specs.Locals.{is_before}
use Rattle.tree.specs.Trees.{method_tree}
use Rattle.remarks.proofs.AroundLemmas.{last_seen}
use Rattle.remarks.proofs.around.last_method.Goals as goal

pub returns : goal.returns
returns c =
    last_seen method_tree (λ m. is_before m.name.place c.args.place) c.args.methods.now c.find.result
    (find_from_yields_List (λ m. is_before m.name.place c.args.place) _ _ c.find.result c.find.ensures.ran
    (YieldsList-from_rev_slice c.args.methods.now cc) (λ x b q k. search (rules, tests)))
