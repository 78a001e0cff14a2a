use Rattle.std.proofs.Common.{◌∙◌, ◌++◌, Bool, List, ℕ, ap₂, length}
use Rattle.machine.specs.Views.{world_model}
use Rattle.replays.specs.RunLines.{run_lines}
use Rattle.replays.specs.Telling.{tracer_words}
use Rattle.singcheck.proofs.printed_runs.printed_run.Goals as goal

pub returns-clause-lines : goal.returns-clause-lines
returns-clause-lines c =
    let r = c.args.run in
    let j = r.journal in
    record {
      lost = c.in_ok-lost.lost.items;
      which = record { long = c.in_ok-lost.ensures.long; right = c.in_ok-lost.ensures.right; all = c.in_ok-lost.ensures.all };
      are = c.in_ok-add_run.ensures
          ∙ ap₂ (λ (old : List ℕ) (l : List Bool). old ++ run_lines (tracer_words c.args.tracer.now) (world_model j.world)
          (length j.events.items) j.lines.items j.conditions r.end l) c.new-bytes.ensures.items c.deref.ensures.value;
    }
