use Rattle.std.proofs.Common.{subst, ◌∙◌, ◌++◌, IfOk}
use Rattle.std.specs.Str.Lossy.{utf8_lossy}
use Rattle.source.specs.Findings.{IsFinding}
use Rattle.source.specs.declared.finding.Code.TheVariants.{A05}
use Rattle.source.proofs.texts.ownership.not_covered.Goals as goal

pub returns : goal.returns
returns c =
    subst (λ rest. IfOk c.named.result (IsFinding c.args.place A05 (utf8_lossy c.args.endpoint.now ++ rest)))
    (c.deref.ensures ∙ c.in_ok-rest.ensures) c.named.ensures
