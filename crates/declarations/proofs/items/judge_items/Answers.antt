use Rattle.declarations.specs.declared.mistake.Limit.TheVariants as limit
use Rattle.std.proofs.Common.{◌∙◌, ap, map, sym, subst}
use Rattle.std.specs.Prelude.{OnOk}
use Rattle.std.specs.List.{flat_map}
use Rattle.std.proofs.lemmas.Result.{on_ok_weaker}
use Rattle.std.proofs.lemmas.Simd.{map-map}
use Rattle.tree.specs.Trees.{ItemTree, MethodTree, item_tree, defined_name}
use Rattle.declarations.specs.Mistakes.{Adds}
use Rattle.declarations.specs.Listed.{twice_among, past_limit}
use Rattle.declarations.specs.ItemMistakes.{methods_in}
use Rattle.declarations.specs.Program.{item_names}
use Rattle.tables.specs.Tables.{IsTable}
use Rattle.tables.specs.Words.{words_at}
use Rattle.declarations.proofs.AddLemmas.{adds_then}
use Rattle.declarations.proofs.items.judge_items.Goals as goal

pub returns : goal.returns
returns c = λ p h.
    let here = c.args.scope.now.text.now in
    let table = c.args.scope.now.names in
    let listed = c.deref.ensures.value ∙ c.in_ok-names.ensures ∙ sym (map-map (λ i. defined_name i.definition) item_tree c.args.scope.now.items.now)
    ∙ ap (map (λ (i : ItemTree). defined_name i.definition)) h.items_are in
    let known = subst (λ t. IsTable (words_at t (item_names p)) table) (sym h.text_is) h.names in
    let first = subst (λ t. Adds c.args.found.now.items c.judge_twice.new.found.items (twice_among t (item_names p))) h.text_is
    (subst (λ n. Adds c.args.found.now.items c.judge_twice.new.found.items (twice_among here n)) listed
    (c.in_ok-judge_twice.ensures (subst (λ n. IsTable (words_at here n) table) (sym listed) known))) in
    let methods = c.deref-2.ensures.value ∙ c.in_ok-methods.ensures ∙ ap (λ items. map (λ (m : MethodTree). m.name) (flat_map (λ (i : ItemTree). methods_in i.definition) items)) h.items_are in
    let second = subst (λ n. OnOk c.judge_limit.result (Adds c.judge_twice.new.found.items c.judge_limit.new.found.items (past_limit limit.Methods n))) methods c.judge_limit.ensures in
    on_ok_weaker c.judge_limit.result (λ last. adds_then first last) second
