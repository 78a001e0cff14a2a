use Rattle.std.proofs.Common.{◌∙◌, ap, map, subst, sym}
use Rattle.source.specs.Findings.{finding_model}
use Rattle.rules.specs.Programs.{model_of}
use Rattle.analyse.specs.VerdictParts.{findings_of}
use Rattle.analyse.specs.Verdicts.{IsMethodVerdict}
use Rattle.pool.specs.Counts.{method_of}
use Rattle.singcheck.proofs.VerdictLemmas.{back_of, put_of}
use Rattle.singcheck.proofs.verdicts.findings_of.Goals as goal

pub read-requires : goal.read-requires
read-requires c =
    let done = c.args.done.now in
    (put_of c.args._program.now c.args.shelf.now (method_of done) done.out c.in-Ok.receipt c.requires.has c.in-Ok.is).of_shelf

pub returns-in-Ok : goal.returns-in-Ok
returns-in-Ok c =
    let done = c.args.done.now in
    let put = put_of c.args._program.now c.args.shelf.now (method_of done) done.out c.in-Ok.receipt c.requires.has c.in-Ok.is in
    subst (λ l. IsMethodVerdict (model_of c.args._program.now) (method_of done) (map finding_model l))
    (sym (c.findings.ensures.findings ∙ ap findings_of c.read.ensures)) put.found

pub returns-in-Err : goal.returns-in-Err
returns-in-Err c =
    let done = c.args.done.now in
    subst (λ l. IsMethodVerdict (model_of c.args._program.now) (method_of done) (map finding_model l))
    (sym c.findings-in-Err.ensures.findings)
    (back_of c.args._program.now c.args.shelf.now (method_of done) done.out c.in-Err.verdict c.requires.has c.in-Err.is)
