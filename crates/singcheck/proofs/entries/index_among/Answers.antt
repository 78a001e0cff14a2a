use Rattle.std.proofs.Common.{◌≢◌, ◌∙◌, List, ℕ, ap, arith, map, subst, sym, take, take_all}
use Rattle.std.proofs.lemmas.List.{length-map, length-take-le}
use Rattle.program.specs.Lists.{Each}
use Rattle.tree.specs.Trees.{method_tree}
use Rattle.tree.specs.declared.class.Method.{Method}
use Rattle.replays.proofs.LineLemmas.{map_twice}
use Rattle.singcheck.specs.Replays.{IsFirstAt, full_name}
use Rattle.singcheck.proofs.EntryLemmas.{first_here}
use Rattle.singcheck.proofs.entries.index_among.Goals as goal

pub returns-then-is_named-clause-some : goal.returns-then-is_named-clause-some
returns-then-is_named-clause-some c =
    let view = λ (m : Method). full_name c.args.text.now c.args.class (method_tree m) in
    let xs = c.args.methods.now in
    let i = c.loop-index.index in
    let lt = c.loop-index-test.true in
    subst (λ l. IsFirstAt l c.args.entry.now i) (sym (map_twice (full_name c.args.text.now c.args.class) method_tree xs))
    (first_here view xs c.args.entry.now i c.index-methods-index.result lt c.index-methods-index.is (c.is_named.ensures.yes c.if-is_named.true)
    (length-map (take i xs) view ∙ length-take-le i xs (omega (arith, lt))) c.loop-index.invariant)

pub returns-clause-none : goal.returns-clause-none
returns-clause-none c =
    let text = c.args.text.now in
    let xs = c.args.methods.now in
    subst (Each (λ (x : List ℕ). x ≢ c.args.entry.now)) (ap (map (λ (m : Method). full_name text c.args.class (method_tree m))) (take_all c.loop-index.index xs c.loop-index-test.false) ∙ sym (map_twice (full_name text c.args.class) method_tree xs)) c.loop-index.invariant
