use Rattle.std.proofs.Common.{ap, ◌∙◌, map, sym, subst}
use Rattle.std.specs.Prelude.{option_and_then}
use Rattle.tree.specs.Trees.{StructTree}
use Rattle.declarations.specs.Declarations.{first_among}
use Rattle.declarations.specs.Program.{Numbered}
use Rattle.declarations.specs.Scopes.{AreFieldsOf}
use Rattle.declarations.proofs.ScopeLemmas.{struct_missing, struct_here}
use Rattle.declarations.proofs.scope.Scope.field_index.Goals as goal

pub returns-in_err-fields : goal.returns-in_err-fields
returns-in_err-fields c = λ p h.
    let none = struct_missing p c.args.self.now.members.items c.args.structure h.members c.in_err-fields.ensures in
    c.from_residual.ensures ∙ sym (ap (option_and_then (λ (s : Numbered StructTree). first_among p.text (map (λ f. f.name) s.1.fields) c.args.name)) none)

pub returns : goal.returns
returns c = λ p h.
    let here = struct_here p c.args.self.now.members.items c.args.structure c.in_ok-fields.fields.now h.members c.in_ok-fields.ensures in
    c.index_of.ensures here.structure (subst (λ t. AreFieldsOf t here.structure c.in_ok-fields.fields.now) (sym h.text_is) here.fields)
    ∙ ap (λ t. first_among t (map (λ f. f.name) here.structure.fields) c.args.name) h.text_is
    ∙ sym (ap (option_and_then (λ (s : Numbered StructTree). first_among p.text (map (λ f. f.name) s.1.fields) c.args.name)) here.is)
