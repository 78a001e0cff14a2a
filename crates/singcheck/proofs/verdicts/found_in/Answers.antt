use Rattle.std.proofs.Common.{[], ◌∷◌, ◌++◌, map, take, get_or, sym, ap, ◌∙◌, subst}
use Rattle.std.proofs.lemmas.List.{take_more, map-append}
use Rattle.source.specs.Findings.{finding_model}
use Rattle.rules.specs.Programs.{model_of}
use Rattle.pool.specs.Counts.{method_of}
use Rattle.singcheck.specs.Verdicts.{AreOfMethods, HasVerdict}
use Rattle.singcheck.proofs.VerdictLemmas.{of_methods_more, verdict_exactly}
use Rattle.singcheck.proofs.verdicts.found_in.Goals as goal

pub findings_of-requires : goal.findings_of-requires
findings_of-requires c = record {
  has = subst (λ x. HasVerdict c.args.program.now c.args.shelf.now (method_of x) x.out) (sym c.one-item.is)
      (c.requires.each c.loop-one.one-index c.one-item.result c.loop-one-test.true);
}

pub loop-one-preserved : goal.loop-one-preserved
loop-one-preserved c =
    let p = model_of c.args.program.now in
    let done = c.args.done.now in
    let at = c.loop-one.one-index in
    let one = c.one-item.result in
    let found = map finding_model c.findings_of.result.now in
    let more = of_methods_more p (map method_of (take at done)) (method_of one) c.loop-one.found.items c.add_copies.new.found.items c.loop-one.invariant (record {
      more = found;
      exactly = verdict_exactly p (method_of one) found c.findings_of.ensures;
      added = c.in_ok-add_copies.ensures;
    }) in
    subst (λ l. AreOfMethods p l (map finding_model c.add_copies.new.found.items))
    (ap (λ x. map method_of (take at done) ++ method_of x ∷ []) c.one-item.is
    ∙ sym (map-append method_of (take at done) (get_or done at one ∷ []))
    ∙ ap (map method_of) (sym (take_more done at one c.loop-one-test.true)))
    more
