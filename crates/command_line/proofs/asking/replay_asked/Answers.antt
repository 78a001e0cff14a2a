use Rattle.std.proofs.Common.{codes, refl, sym}
use Rattle.command_line.proofs.AskLemmas.{gives}
use Rattle.command_line.proofs.asking.replay_asked.Goals as goal

pub returns : goal.returns
returns c = (
  refl,
  (
    gives c.args.inner.now (codes "FILE") c.in_ok-file.file.now (sym c.in_ok-file.ensures),
    gives c.args.inner.now (codes "ENTRY") c.in_ok-entry.entry.now (sym c.in_ok-entry.ensures),
    gives c.args.inner.now (codes "SCHEDULE") c.in_ok-schedule.schedule.now (sym c.in_ok-schedule.ensures),
  ),
)
