use Rattle.std.proofs.Common.{◌∙◌, ap, map, sym, subst}
use Rattle.std.specs.Prelude.{OnOk}
use Rattle.std.proofs.lemmas.Simd.{map-map}
use Rattle.tree.specs.Trees.{MethodTree, method_tree}
use Rattle.declarations.specs.Mistakes.{Adds}
use Rattle.declarations.specs.Listed.{twice_among}
use Rattle.tables.specs.Tables.{IsTable}
use Rattle.tables.specs.Words.{words_at}
use Rattle.declarations.proofs.items.judge_method_names.Goals as goal

pub returns : goal.returns
returns c = λ p k h j.
    let here = c.args.scope.now.text.now in
    let table = c.args.methods.now.table in
    let names = map (λ (m : MethodTree). m.name) k.methods in
    let old = c.args.found.now.items in
    let new = c.judge_twice.new.found.items in
    let result = c.judge_twice.result in
    let listed = c.deref.ensures.value ∙ c.in_ok-names.ensures ∙ sym (map-map (λ (m : MethodTree). m.name) method_tree c.args.methods.now.list.now) ∙ ap (map (λ (m : MethodTree). m.name)) j.list in
    let known = subst (λ t. IsTable (words_at t names) table) (sym h.text_is) j.table in
    subst (λ t. OnOk result (Adds old new (twice_among t names))) h.text_is
    (subst (λ n. OnOk result (Adds old new (twice_among here n))) listed
    (c.judge_twice.ensures (subst (λ n. IsTable (words_at here n) table) (sym listed) known)))
