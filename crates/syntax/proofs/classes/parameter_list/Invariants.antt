use Rattle.std.proofs.Common.{◌≡◌, ◌∷◌, ◌++◌, List, length}
use Rattle.tree.specs.Spelling.{comma_list}
use Rattle.tree.specs.Programs.{parameter}
use Rattle.tree.specs.declared.class.Parameter.{Parameter}
use Rattle.syntax.proofs.classes.parameter_list.Given as goal

abbrev pub invariant-more : goal.invariant-more
invariant-more l = record {
  read : l.fn.cursor ≡ comma_list parameter l.all.items ++ l.cursor;
  first : Parameter;
  others : List Parameter;
  some : l.all.items ≡ first ∷ others;
}

abbrev pub decreases-more : goal.decreases-more
decreases-more l = length l.cursor
