use Rattle.std.proofs.Common.{◌≡◌, ◌∷◌, ◌++◌, List, length}
use Rattle.tree.specs.Spelling.{comma_list}
use Rattle.tree.specs.Grammar.{param}
use Rattle.tree.specs.declared.contract.MessageParameter.{MessageParameter}
use Rattle.syntax.proofs.messages.param_list.Given as goal

abbrev pub invariant-more : goal.invariant-more
invariant-more l = record {
  read : l.fn.cursor ≡ comma_list param l.all.items ++ l.cursor;
  first : MessageParameter;
  others : List MessageParameter;
  some : l.all.items ≡ first ∷ others;
}

abbrev pub decreases-more : goal.decreases-more
decreases-more l = length l.cursor
