use Rattle.std.specs.Thread.{IsSync}
use Rattle.std.proofs.Crossing.{crosses}
use Rattle.std.specs.contracts.vec.Vec as vec
use Rattle.std.specs.contracts.alloc.Global as global
use Rattle.std.specs.contracts.impls.GlobalAllocator.TheImpl.{ghosts}
use denote.Hole.{as_row}
use denote.RattleType.{RattleType}
use denote.Param.Send.{sendable, view_sync}
use denote.Param.SendFields.{declared_sync}
use Rattle.program.specs.contracts.method.Method as method
use Rattle.program.specs.contracts.methods.Methods as methods
use Rattle.program.specs.contracts.statement.Statement as statement
use Rattle.program.proofs.laws.threads_share_methods.Goals as goal

-- threads can share a list if they can share its elements, also as a field
field_sync : (T : RattleType) → IsSync T → IsSync (as_row (vec.the_field T global.the_row ghosts))
field_sync T s = search (crosses, sendable) depth 20

-- they can share a method if they can share its statements
method_sync : IsSync statement.the_row → IsSync method.the_row
method_sync s = declared_sync method.the_type (
  search (crosses, sendable) depth 40 fits 100000,
  (
    search (crosses, sendable) depth 40 fits 100000,
    (
      search (crosses, sendable) depth 40 fits 100000,
      (
        search (crosses, sendable) depth 40 fits 100000,
        (
          search (crosses, sendable) depth 40 fits 100000,
          (
            field_sync statement.the_row s,
            (search (crosses, sendable) depth 40 fits 100000, (search (crosses, sendable) depth 40 fits 100000, tt)),
          ),
        ),
      ),
    ),
  ),
)

pub returns-clause-methods : goal.returns-clause-methods
returns-clause-methods c = view_sync _ _ _ _ _ (declared_sync methods.TheInside.the_type (
  search (crosses, sendable) depth 60 fits 100000,
  (search (crosses, sendable) depth 60 fits 100000, (search (crosses, sendable) depth 60 fits 100000, (field_sync method.the_row (method_sync c.threads_share_statements.ensures), tt))),
))
