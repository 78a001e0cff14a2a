use Rattle.std.proofs.Common.{◌++◌, ◌∙◌, ℕ, [], ap, append-nil, map, sym}
use Rattle.std.proofs.lemmas.List.{take_all}
use Rattle.std.proofs.lemmas.Simd.{map-map}
use Rattle.std.specs.Global.{Vec}
use Rattle.tree.specs.Trees.{definition_tree, item_tree}
use Rattle.tree.specs.declared.item.Definition.{Definition}
use Rattle.tree.specs.declared.item.Item.{Item}
use Rattle.program.specs.Programs.{type_lists}
use Rattle.program.specs.declared.types.HeapType.{HeapType}
use Rattle.resolving.specs.Around.{owning_indices, indices_held, indices_in, program_in}
use Rattle.resolving.specs.Fields.{fields_held}
use Rattle.resolving.proofs.BroughtLemmas.{lists_more}
use Rattle.resolving.proofs.FieldLemmas.{fields_all, fields_in, fields_more, no_struct}
use Rattle.resolving.proofs.ItemLemmas.{seen_more}
use Rattle.resolving.proofs.fields.fields_of.Goals as goal
use Rattle.resolving.proofs.fields.fields_of.Goals.{in-Struct+in_ok-owning+in_ok-push+in_ok-push-2, in_default+in_ok-push-3}

pub loop-item-preserved : goal.loop-item-preserved
loop-item-preserved c = λ text h.
    let items = c.args.items.now in
    let p = program_in text (map item_tree items) in
    let i = c.loop-item.item-index in
    let item = c.item-item.result in
    let so = c.loop-item.invariant text h in
    let done = c.loop-item.structs.items in
    let here = λ (d : Definition). type_lists done ++ fields_in p (definition_tree d) in
    let more = ap (λ l. l ++ fields_in p (definition_tree item.definition)) so.0 ∙ sym (fields_more p items i item c.loop-item-test.true c.item-item.is) in
    let indices = seen_more (λ (sequence : Vec ℕ). sequence.items) (λ (x : Item). owning_indices p (item_tree x)) items i item [] c.loop-item.indices.items in
    elim c.match-item.branch [
      | in-Struct+in_ok-owning+in_ok-push+in_ok-push-2 w ↦
          let owning = w.in_ok-owning.owning in
          let fields = w.in-Struct.structure.fields.items in
          let found = w.in_ok-owning.ensures p h in (
            ap (λ (t : Vec (Vec HeapType)). type_lists t.items) w.structs-is
                ∙ lists_more done _ owning.types (fields_held p fields) w.in_ok-push.ensures.items (found.0 ∙ ap (fields_held p) w.deref.ensures.value)
                ∙ ap here (sym w.in-Struct.is) ∙ more,
            ap (λ (t : Vec (Vec ℕ)). map (λ (sequence : Vec ℕ). sequence.items) t.items) w.indices-is
                ∙ indices _ owning.indices c.loop-item-test.true c.item-item.is so.1 w.in_ok-push-2.ensures.items
                (found.1 ∙ ap (indices_held p) w.deref.ensures.value ∙ ap (λ (d : Definition). indices_in p (definition_tree d)) (sym w.in-Struct.is)),
          )
      | in_default+in_ok-push-3 w ↦
          let none = no_struct p item.definition w.in_default.not-Struct in (
            ap (λ (t : Vec (Vec HeapType)). type_lists t.items) w.structs-is ∙ sym (append-nil (type_lists done)) ∙ ap (λ l. type_lists done ++ l) none.0 ∙ more,
            ap (λ (t : Vec (Vec ℕ)). map (λ (sequence : Vec ℕ). sequence.items) t.items) w.indices-is
                ∙ indices _ w.new.result c.loop-item-test.true c.item-item.is so.1 w.in_ok-push-3.ensures.items (w.new.ensures.items ∙ none.1),
          )
    ]

pub returns : goal.returns
returns c = λ text h.
    let items = c.args.items.now in
    let p = program_in text (map item_tree items) in
    let so = c.loop-item.invariant text h in
    let past = c.loop-item-test.false in (
      so.0 ∙ fields_all p items c.loop-item.item-index past,
      so.1 ∙ ap (map (λ (i : Item). owning_indices p (item_tree i))) (take_all c.loop-item.item-index items past) ∙ sym (map-map (owning_indices p) item_tree items),
    )
