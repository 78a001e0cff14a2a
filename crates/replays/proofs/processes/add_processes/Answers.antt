use Rattle.std.proofs.Common.{ℕ}
use Rattle.std.specs.Prelude.{Option}
use Rattle.source.specs.declared.place.Place.{Place}
use Rattle.rules.specs.Programs.{model_of}
use Rattle.machine.specs.Views.{stack_model}
use Rattle.machine.specs.declared.worlds.Process.{Process}
use Rattle.replays.specs.WorldLines.{position, process_line}
use Rattle.replays.proofs.LineLemmas.{line_more}
use Rattle.replays.proofs.processes.add_processes.Goals as goal

pub loop-number-preserved : goal.loop-number-preserved
loop-number-preserved c =
    line_more (λ (process : Process). position (model_of c.args.program.now) (stack_model process))
    (λ (q : ℕ × (ℕ × Option Place)). process_line q.0 q.1) c.args.answer.now.items c.loop-number.answer.items c.add_process.new.answer.items c.args.processes.now c.loop-number.number
    c.index-processes-number.result c.index-processes-number.result c.loop-number-test.true c.index-processes-number.is c.loop-number.invariant c.in_ok-add_process.ensures
