use Rattle.std.specs.Thread.{IsSync}
use Rattle.std.proofs.Crossing.{crosses}
use Rattle.std.specs.contracts.vec.Vec as vec
use Rattle.std.specs.contracts.alloc.Global as global
use Rattle.std.specs.contracts.impls.GlobalAllocator.TheImpl.{ghosts}
use denote.Hole.{as_row}
use denote.RattleType.{RattleType}
use denote.Param.Send.{sendable}
use denote.Param.SendFields.{declared_sync}
use Rattle.rules.specs.contracts.lowered.Program as program
use Rattle.rules.specs.contracts.repeats.Repeats as repeats
use Rattle.contracts.specs.contracts.sound.Sound as sound
use Rattle.flow.specs.contracts.graph.Graph as graph
use Rattle.program.specs.contracts.types.HeapType as ty
use Rattle.rules.proofs.laws.threads_share_a_program.Goals as goal

-- threads can share a list if they can share its elements
list_sync : (T : RattleType) → IsSync T → IsSync (vec.the_row T global.the_row ghosts)
list_sync T s = search (crosses, sendable) depth 20

-- also as a field
field_sync : (T : RattleType) → IsSync T → IsSync (as_row (vec.the_field T global.the_row ghosts))
field_sync T s = search (crosses, sendable) depth 20

pub returns : goal.returns
returns c = declared_sync program.the_type (
  c.threads_share_methods.ensures.methods,
  (
    field_sync sound.the_row c.threads_share_a_contract.ensures,
    (
      field_sync graph.the_row c.threads_share_a_graph.ensures,
      (
        field_sync repeats.the_row c.threads_share_repeats.ensures,
        (field_sync (vec.the_row ty.the_row global.the_row ghosts) (list_sync ty.the_row c.threads_share_methods.ensures.types), tt),
      ),
    ),
  ),
)
