use Rattle.std.proofs.Common.{subst, ap, ◌∙◌, ◌++◌, codes, IfOk}
use Rattle.std.proofs.lemmas.List.{append-nil}
use Rattle.std.specs.Str.Lossy.{utf8_lossy}
use Rattle.source.specs.Findings.{IsFinding}
use Rattle.source.specs.declared.finding.Code.TheVariants.{A03}
use Rattle.source.proofs.texts.ownership.in_a_wrong_state_for.Goals as goal

pub returns : goal.returns
returns c =
    subst (λ rest. IfOk c.named.result (IsFinding c.args.place A03 (utf8_lossy c.args.variable.now ++ rest)))
    (c.deref.ensures ∙ c.in_ok-rest.ensures ∙ ap (λ name. codes " in a wrong state for " ++ name) (append-nil (utf8_lossy c.args.message.now))) c.named.ensures
