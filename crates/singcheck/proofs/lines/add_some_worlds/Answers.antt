use Rattle.std.proofs.Common.{codes}
use Rattle.std.specs.Fmt.{decimal}
use Rattle.std.proofs.lemmas.Result.{on_ok_weaker}
use Rattle.singcheck.proofs.PartLemmas.{three_added}
use Rattle.singcheck.proofs.lines.add_some_worlds.Goals as goal

pub returns : goal.returns
returns c = on_ok_weaker c.add-2.result (λ e. three_added c.args.answer.now.items (codes "no deadlock within ") (decimal c.args.worlds) (codes " worlds\n") _ _ _ c.in_ok-add.ensures c.in_ok-add_number.ensures e) c.add-2.ensures
