use Rattle.std.proofs.Common.{◌++◌, ◌∙◌, ap, map, sym}
use Rattle.std.proofs.lemmas.List.{take_all}
use Rattle.std.proofs.lemmas.Simd.{map-map}
use Rattle.tree.specs.Trees.{method_tree}
use Rattle.tree.specs.declared.class as made
use Rattle.program.specs.Methods.{method_model}
use Rattle.resolving.specs.Around.{program_in}
use Rattle.resolving.specs.Methods.{method_told}
use Rattle.resolving.proofs.ItemLemmas.{seen_more}
use Rattle.resolving.proofs.methods.add_methods.Goals as goal

pub returns : goal.returns
returns c = λ items own round.
    let p = program_in c.args.text.now items in
    let methods = c.args.methods.now in
    c.loop-method.invariant items own round ∙ ap (λ l. map method_model c.args.resolved.now.items ++ l)
    (ap (map (λ (m : made.Method.Method). method_told p own (method_tree m))) (take_all c.loop-method.method-index methods c.loop-method-test.false) ∙ sym (map-map (method_told p own) method_tree methods))

pub loop-method-preserved : goal.loop-method-preserved
loop-method-preserved c = λ items own round.
    let p = program_in c.args.text.now items in
    seen_more method_model (λ m. method_told p own (method_tree m)) c.args.methods.now c.loop-method.method-index c.method-item.result c.args.resolved.now.items c.loop-method.resolved.items _ _
    c.loop-method-test.true c.method-item.is (c.loop-method.invariant items own round) c.in_ok-push.ensures.items (c.in_ok-resolve_method.ensures items own round)
