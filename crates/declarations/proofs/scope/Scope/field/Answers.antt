use Rattle.std.proofs.Common.{ap, ◌∙◌, sym, subst}
use Rattle.std.specs.Prelude.{option_and_then}
use Rattle.tree.specs.Trees.{StructTree}
use Rattle.declarations.specs.Named.{field_named}
use Rattle.declarations.specs.Program.{Numbered}
use Rattle.declarations.specs.Scopes.{AreFieldsOf}
use Rattle.declarations.proofs.ScopeLemmas.{struct_missing, struct_here}
use Rattle.declarations.proofs.scope.Scope.field.Goals as goal

pub returns-in_err-fields : goal.returns-in_err-fields
returns-in_err-fields c = λ p h.
    let none = struct_missing p c.args.self.now.members.items c.args.index h.members c.in_err-fields.ensures in
    c.from_residual.ensures ∙ sym (ap (option_and_then (λ (s : Numbered StructTree). field_named p.text s.1 c.args.name)) none)

pub returns : goal.returns
returns c = λ p h.
    let here = struct_here p c.args.self.now.members.items c.args.index c.in_ok-fields.fields.now h.members c.in_ok-fields.ensures in
    c.find.ensures here.structure (subst (λ t. AreFieldsOf t here.structure c.in_ok-fields.fields.now) (sym h.text_is) here.fields)
    ∙ ap (λ t. field_named t here.structure c.args.name) h.text_is
    ∙ sym (ap (option_and_then (λ (s : Numbered StructTree). field_named p.text s.1 c.args.name)) here.is)
