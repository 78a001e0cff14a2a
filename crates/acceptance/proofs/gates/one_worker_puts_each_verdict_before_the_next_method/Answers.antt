use Rattle.std.specs.Thread.{IsSync}
use Rattle.std.proofs.Crossing.{crosses}
use denote.Param.Send.{sendable}
use Rattle.shelf.specs.contracts.shelf.Shelf as shelf
use Rattle.acceptance.proofs.gates.one_worker_puts_each_verdict_before_the_next_method.Goals as goal

pub check_onto-requires-sync-G : goal.check_onto-requires-sync-G
check_onto-requires-sync-G g c κs =
    let s : IsSync shelf.the_row = c.threads_share_a_shelf.ensures.shelf in
    search (crosses, sendable) depth 20
