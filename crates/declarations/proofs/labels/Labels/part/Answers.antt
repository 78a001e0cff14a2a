use Rattle.std.proofs.Common.{string_bytes, sym, subst}
use Rattle.declarations.specs.Labels.{IsTold, in_parentheses}
use Rattle.declarations.specs.Numbered.{counted_as}
use Rattle.declarations.proofs.LabelLemmas.{told_there}
use Rattle.declarations.proofs.labels.Labels.part.Goals as goal

pub returns-in-Some : goal.returns-in-Some
returns-in-Some c =
    let names = string_bytes c.args.names.now in
    let text = c.args.self.now.text.now in
    let part = c.in-Some.part in
    subst (λ name. IsTold names names part (counted_as text name).name) (sym c.in-Unnamed.is)
    (told_there names part (in_parentheses text c.in-Unnamed.message) (c.in-Some.ensures names c.requires))
