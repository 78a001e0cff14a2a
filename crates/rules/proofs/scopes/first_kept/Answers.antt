use Rattle.rules.specs.Scopes.{declared_between}
use Rattle.rules.specs.Sites.{method_of, row_of}
use Rattle.rules.proofs.KeptLemmas.{first_none}
use Rattle.rules.proofs.NestedLemmas.{first_plain}
use Rattle.rules.proofs.scopes.first_kept.Goals as goal

pub returns-in_default : goal.returns-in_default
returns-in_default c =
    let m = method_of c.args.here.now in
    first_none m (row_of c.args.here.now) c.args.given (c.first_of_all.ensures.none c.in_default.is) (declared_between m c.args.outer c.args.last)

pub returns-then-is_in_scope : goal.returns-then-is_in_scope
returns-then-is_in_scope c =
    first_plain (method_of c.args.here.now) (row_of c.args.here.now) c.args.given c.args.outer c.in-Some.first.0 c.in-Some.ensures.some c.args.last
    (c.is_in_scope.ensures c.if-is_in_scope.true)
