use Rattle.std.proofs.Common.{◌∙◌, refl, sym}
use Rattle.lost.proofs.MarkLemmas.{marks_one}
use Rattle.lost.proofs.marking.Reach.mark.Goals as goal

pub returns : goal.returns
returns c =
    marks_one c.args.self.now _ c.args.address (sym c.is_known.ensures ∙ c.if-is_known.false) refl c.in_ok-push.ensures.items
