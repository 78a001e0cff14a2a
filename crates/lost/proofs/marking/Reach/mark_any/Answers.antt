use Rattle.std.proofs.lemmas.Result.{on_ok_weaker}
use Rattle.lost.proofs.MarkLemmas.{marks_any}
use Rattle.lost.proofs.marking.Reach.mark_any.Goals as goal

pub returns-in-Some : goal.returns-in-Some
returns-in-Some c =
    on_ok_weaker c.mark.result
    (λ step. marks_any c.args.has c.in-Some.address c.args.self.now c.mark.new.self c.in-Some.is step) c.mark.ensures
