use Rattle.std.proofs.Common.{◌++◌, take, drop, ap, ◌∙◌, append_assoc, take-append-drop}
use Rattle.std.proofs.lemmas.List.{take_rest}
use Rattle.std.proofs.KnownBytes.{Appends-trans}
use Rattle.devices.proofs.writing.write_all.Goals as goal

pub writes-preserved : goal.writes-preserved
writes-preserved g c =
    let kept = c.writes.invariant in
    let rest = c.writes.rest.now in
    let n = c.in-Ok.n in
    record {
      done = kept.done ++ take n rest;
      all = ap (λ r. (kept.done ++ take n rest) ++ r) (take_rest rest n) ∙ append_assoc kept.done (take n rest) (drop n rest) ∙ ap (λ r. kept.done ++ r) (take-append-drop n rest) ∙ kept.all;
      bytes = Appends-trans _ _ _ kept.done (take n rest) kept.bytes c.in-Ok.ensures.bytes;
      same = c.in-Ok.ensures.failures ∙ kept.same;
    }
