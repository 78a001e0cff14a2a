use Rattle.std.proofs.Common.{◌∙◌, sym, subst, ap, map}
use Rattle.std.proofs.lemmas.Simd.{map-map}
use Rattle.tree.specs.Trees.{method_tree}
use Rattle.tree.specs.declared.class as made
use Rattle.tables.specs.Tables.{IsTable}
use Rattle.declarations.specs.Owning.{can_start}
use Rattle.tables.specs.Words.{words_at}
use Rattle.declarations.proofs.members.ClassMethods.of.Goals as goal

pub returns : goal.returns
returns c = record {
  list = ap (map method_tree) c.deref-4.ensures.value;
  startable = c.in_ok-startable.ensures ∙ ap (λ l. map can_start (map method_tree l)) c.deref-3.ensures.value;
  table = subst (λ names. IsTable (words_at c.args.text.now names) c.in_ok-table.table)
      (c.deref-2.ensures.value ∙ c.in_ok-names.ensures ∙ ap (map (λ (m : made.Method.Method). m.name)) c.deref.ensures.value ∙ sym (map-map (λ m. m.name) method_tree c.args.class.now.methods.items))
      c.in_ok-table.ensures;
}
