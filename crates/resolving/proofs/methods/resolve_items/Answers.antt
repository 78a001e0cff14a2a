use Rattle.std.proofs.Common.{◌++◌, ◌∙◌, ℕ, ap, map, refl, sym}
use Rattle.std.specs.Global.{Vec}
use Rattle.std.specs.List.{flat_map}
use Rattle.tree.specs.Trees.{contract_of, definition_tree, item_tree, method_tree}
use Rattle.declarations.specs.Declarations.{messages_of}
use Rattle.resolving.specs.Around.{program_in}
use Rattle.resolving.specs.Brought.{payload_types}
use Rattle.resolving.specs.Methods.{method_told}
use Rattle.resolving.proofs.BroughtLemmas.{brought_all, brought_more}
use Rattle.resolving.proofs.ItemLemmas.{first_told, items_more, items_all}
use Rattle.resolving.proofs.methods.resolve_items.Goals as goal

pub loop-class-preserved : goal.loop-class-preserved
loop-class-preserved c =
    let items = c.args.items.now in
    let trees = map item_tree items in
    let p = program_in c.args.text.now trees in
    let i = c.loop-class.class in
    let methods = c.methods_of-methods.result.now in
    let owning = ap (map (λ (sequence : Vec ℕ). sequence.items)) c.deref-in-loop-class.ensures.value ∙ (c.in_ok-fields.ensures c.args.text.now (record { scope = c.requires.scope; contracts = c.requires.contracts; before = c.deref.ensures.value ∙ c.in_ok-before.ensures })).1 in
    record {
      messages =
          c.in_ok-add_brought.ensures p (record { scope = c.requires.scope; contracts = c.requires.contracts; before = c.deref.ensures.value ∙ c.in_ok-before.ensures })
          ∙ ap (λ l. l ++ map (payload_types p) (flat_map messages_of (contract_of (definition_tree c.index-items-class.result.definition)))) c.loop-class.invariant.messages
          ∙ sym (brought_more p items i c.index-items-class.result c.loop-class-test.true c.index-items-class.is);
      methods =
          c.in_ok-add_methods.ensures trees i (record { directory = record { scope = c.requires.scope; contracts = c.requires.contracts; before = c.deref.ensures.value ∙ c.in_ok-before.ensures }; items = refl; owning = owning; class_is = refl; few = c.requires.few })
          ∙ ap (λ l. l ++ map (method_told p i) (map method_tree methods)) c.loop-class.invariant.methods
          ∙ ap (λ ms. first_told p items i ++ map (method_told p i) ms) c.methods_of-methods.ensures
          ∙ sym (items_more p items i c.index-items-class.result c.loop-class-test.true c.index-items-class.is);
    }

pub returns : goal.returns
returns c =
    let items = c.args.items.now in
    let p = program_in c.args.text.now (map item_tree items) in
    record {
      messages = c.loop-class.invariant.messages ∙ brought_all p items c.loop-class.class c.loop-class-test.false;
      structs = (c.in_ok-fields.ensures c.args.text.now (record { scope = c.requires.scope; contracts = c.requires.contracts; before = c.deref.ensures.value ∙ c.in_ok-before.ensures })).0;
      methods = c.loop-class.invariant.methods ∙ items_all p items c.loop-class.class c.loop-class-test.false;
    }
