use Rattle.std.proofs.Common.{codes, refl, sym}
use Rattle.command_line.specs.Asking.{text_in}
use Rattle.command_line.proofs.AskLemmas.{gives, gives_in}
use Rattle.command_line.proofs.asking.run_asked.Goals as goal

pub returns : goal.returns
returns c = (
  refl,
  record {
    its_file = gives c.args.inner.now (codes "FILE") c.in_ok-file.file.now (sym c.in_ok-file.ensures);
    its_entry = gives c.args.inner.now (codes "ENTRY") c.in_ok-entry.entry.now (sym c.in_ok-entry.ensures);
    its_schedule = gives_in c.args.inner.now (codes "schedule") (text_in c.get_str-3.result) c.get_str-3.ensures;
  },
)
