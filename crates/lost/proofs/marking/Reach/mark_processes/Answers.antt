use Rattle.machine.specs.Views.{stack_model}
use Rattle.lost.specs.Marks.{Have}
use Rattle.lost.proofs.MarkLemmas.{marks_more}
use Rattle.lost.proofs.marking.Reach.mark_processes.Goals as goal

pub loop-process-preserved : goal.loop-process-preserved
loop-process-preserved c =
    let x = c.process-item.result in
    marks_more Have stack_model c.args.processes.now c.loop-process.process-index x x c.args.self.now c.loop-process.self
    c.mark_process.new.self c.loop-process-test.true c.process-item.is c.loop-process.invariant c.in_ok-mark_process.ensures
