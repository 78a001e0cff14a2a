use Rattle.std.proofs.Common.{◌∙◌, sym, subst, refl, map}
use Rattle.std.proofs.lemmas.Simd.{map-map}
use Rattle.tree.specs.Trees.{item_tree, defined_name}
use Rattle.declarations.specs.Program.{ProgramText}
use Rattle.tables.specs.Tables.{IsTable}
use Rattle.tables.specs.Words.{words_at}
use Rattle.declarations.proofs.scope.Scope.of.Goals as goal

pub returns : goal.returns
returns c =
    let p : ProgramText = record { text = c.args.text.now; items = map item_tree c.args.items.now } in
    let names = subst (λ names. IsTable (words_at c.args.text.now names) c.in_ok-names-2.names)
    (c.deref.ensures.value ∙ c.in_ok-names.ensures ∙ sym (map-map (λ i. defined_name i.definition) item_tree c.args.items.now))
    c.in_ok-names-2.ensures in
    record {
      text_is = refl;
      items_are = refl;
      names = names;
      members = c.in_ok-members.ensures;
      noted = c.in_ok-scope.ensures p (record { text_is = refl; items_are = refl; names = names; members = c.in_ok-members.ensures; noted = c.new.ensures p });
    }
