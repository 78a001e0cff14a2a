use Rattle.std.proofs.Common.{codes}
use Rattle.std.specs.Fmt.{decimal}
use Rattle.std.proofs.lemmas.Result.{on_ok_weaker}
use Rattle.singcheck.proofs.PartLemmas.{five_added}
use Rattle.singcheck.proofs.lines.add_clear.Goals as goal

pub returns : goal.returns
returns c = on_ok_weaker c.add-3.result (λ e. five_added c.args.answer.now.items (codes "ok: ") (decimal c.args.contracts) (codes " contracts, ") (decimal c.args.methods) (codes " methods\n") _ _ _ _ _ c.in_ok-add.ensures c.in_ok-add_number.ensures c.in_ok-add-2.ensures c.in_ok-add_number-2.ensures e) c.add-3.ensures
