use Rattle.std.proofs.Common.{Some, sym, ap, ◌∙◌}
use Rattle.std.specs.Prelude.{option_map}
use Rattle.tree.specs.Trees.{StructTree}
use Rattle.declarations.specs.Owning.{owning_fields}
use Rattle.declarations.specs.Program.{Numbered, struct_named}
use Rattle.declarations.proofs.ScopeLemmas.{looked_struct, no_struct}
use Rattle.declarations.proofs.scope.Scope.owning_fields.Goals as goal

pub returns-in-Some : goal.returns-in-Some
returns-in-Some c = λ p scope.
    let looked = looked_struct p.text (struct_named p c.args.name) c.in-Some.index c.in-Some.fields.now (c.in-Some.ensures p scope) in
    ap (option_map (λ (s : Numbered StructTree). (s.0, owning_fields s.1))) looked.is
    ∙ ap (λ l. Some (c.in-Some.index, l)) (sym (c.deref.ensures.value ∙ looked.fields.owning))

pub returns-in-None : goal.returns-in-None
returns-in-None c = λ p scope.
    ap (option_map (λ (s : Numbered StructTree). (s.0, owning_fields s.1))) (no_struct p.text (struct_named p c.args.name) (c.in-None.ensures p scope))
