use Rattle.std.proofs.Common.{◌++◌, ◌∙◌, ap, sym}
use Rattle.std.specs.List.{flat_map}
use Rattle.std.proofs.lemmas.List.{take_all}
use Rattle.std.proofs.lemmas.List.Folds.{flat_map-map}
use Rattle.tree.specs.Trees.{path_tree}
use Rattle.tree.specs.declared.contract as tree
use Rattle.declarations.specs.Declarations.{unnamed_of}
use Rattle.declarations.proofs.counted.add_paths.Goals as goal

pub returns : goal.returns
returns c =
    let paths = c.args.paths.now in
    c.loop-path.invariant ∙ ap (λ l. c.args.names.now.items ++ l)
    (ap (flat_map (λ (p : tree.Path.Path). unnamed_of (path_tree p))) (take_all c.loop-path.path-index paths c.loop-path-test.false) ∙ sym (flat_map-map unnamed_of path_tree paths))
