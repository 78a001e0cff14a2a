use Rattle.std.proofs.Common.{ℕ, List}
use Rattle.machine.specs.Views.{blocks_model, stack_model}
use Rattle.machine.specs.World.{Frame}
use Rattle.replays.specs.Naming.{words_of}
use Rattle.replays.specs.Remains.{process_waits}
use Rattle.replays.proofs.LineLemmas.{line_more}
use Rattle.replays.proofs.waits.add_waits.Goals as goal

pub loop-number-preserved : goal.loop-number-preserved
loop-number-preserved c =
    line_more stack_model (λ (q : ℕ × List Frame). process_waits (words_of c.args.naming.now) (blocks_model c.blocks-blocks.result.now) q.0 q.1)
    c.args.answer.now.items c.loop-number.answer.items c.add_process.new.answer.items c.processes-processes.result.now c.loop-number.number
    c.index-processes-number.result c.index-processes-number.result c.loop-number-test.true c.index-processes-number.is c.loop-number.invariant c.in_ok-add_process.ensures
