use Rattle.std.proofs.Common.{sym, subst, ap, ◌∙◌}
use Rattle.std.specs.Prelude.{IfSome}
use Rattle.std.specs.Slice.{IsItemAt}
use Rattle.declarations.specs.Labels.{Stands, in_parentheses}
use Rattle.declarations.proofs.LabelLemmas.{shared_part}
use Rattle.declarations.proofs.labels.Labels.shared_part.Goals as goal
use Rattle.tables.specs.Firsts.{first_of}
use Rattle.tables.specs.Words.{words_at}

pub returns : goal.returns
returns c = λ names h.
    let labels = c.args.self.now in
    let message = c.args.message in
    let place = c.in_ok-place.place in
    subst (λ o. IfSome o (λ part. Stands names part (in_parentheses labels.text.now message))) (sym c.copied.ensures)
    (shared_part labels names message place c.get.result h
    (c.in_ok-place.ensures _ h.table ∙ ap (first_of (words_at labels.text.now h.messages)) c.slice.ensures)
    (subst (λ l. IsItemAt l place c.get.result) c.deref.ensures.value c.get.ensures.lookup))
