use Rattle.std.proofs.Common.{codes, sym}
use Rattle.command_line.proofs.AskLemmas.{gives, gives_none}
use Rattle.command_line.proofs.asking.asked_place.Goals as goal

pub returns-in_ok-place_of-in-Some : goal.returns-in_ok-place_of-in-Some
returns-in_ok-place_of-in-Some c = (
  c.in-Some.text.now,
  gives c.args.inner.now (codes "LINE:COL") c.in-Some.text.now (sym c.in-Some.ensures),
  c.in_ok-place_of-in-Some.ensures,
)

pub returns-in-None : goal.returns-in-None
returns-in-None c = gives_none c.args.inner.now (codes "LINE:COL") (sym c.in-None.ensures)
