use Rattle.std.proofs.Common.{◌≡◌, ◌++◌, drop, map}
use Rattle.nearest.specs.Locals.{those_before}
use Rattle.tree.specs.Trees.{method_tree}
use Rattle.tree.specs.declared.class.Parameter.{Parameter}
use Rattle.nearest.proofs.locals.names_before.Given as goal

-- the parameters added, and those left, are all
abbrev pub invariant-loop-param : goal.invariant-loop-param
invariant-loop-param l =
    l.names.items ++ those_before l.place (map (λ (x : Parameter). x.name) (drop l.param-index l.param-items))
    ≡ those_before l.place (map (λ (x : Parameter). x.name) (method_tree l.method).params)
