use Rattle.std.proofs.Common.{ℕ, None, ◌∙◌, ap}
use Rattle.std.specs.Global.{Vec}
use Rattle.std.proofs.lemmas.List.{take_all}
use Rattle.tree.specs.declared.class.Field.{Field}
use Rattle.tree.specs.declared.types.Type.TheVariants.{Scalar}
use Rattle.program.specs.declared.types.HeapType.{HeapType}
use Rattle.program.specs.declared.types.Scalar.TheVariants.{Int}
use Rattle.resolving.specs.Around.{indices_held}
use Rattle.resolving.specs.Fields.{fields_held}
use Rattle.resolving.specs.Types.{type_held}
use Rattle.resolving.proofs.BroughtLemmas.{held_none, held_some}
use Rattle.resolving.proofs.FieldLemmas.{index_none, index_some}
use Rattle.resolving.proofs.fields.owning_among.Goals as goal
use Rattle.resolving.proofs.fields.owning_among.Goals.{in-Some+in_ok-push+in_ok-push-2, in_default}

-- the default for a read past the end of a list
abbrev past : Field
past = record { access = None; ty = Scalar Int; name = record { start = 0; end = 0; place = record { line = 0; col = 0 } } }

pub loop-index-preserved : goal.loop-index-preserved
loop-index-preserved c = λ p h.
    let fields = c.args.fields.now in
    let i = c.loop-index.index in
    let lt = c.loop-index-test.true in
    let so = c.loop-index.invariant p h in
    let types = c.loop-index.types.items in
    let indices = c.loop-index.indices.items in
    let holds = λ (f : Field). type_held p f.ty in
    elim c.match-type_held.branch [
      | in-Some+in_ok-push+in_ok-push-2 w ↦
          let is = w.in-Some.ensures p h in (
            ap (λ (k : Vec HeapType). k.items) w.types-is ∙ w.in_ok-push.ensures.items ∙ held_some holds fields i past w.in-Some.ty types lt so.0 is,
            ap (λ (k : Vec ℕ). k.items) w.indices-is ∙ w.in_ok-push-2.ensures.items ∙ index_some p fields i past w.in-Some.ty indices lt so.1 is,
          )
      | in_default w ↦
          let is = w.in_default.ensures p h in (
            ap (λ (k : Vec HeapType). k.items) w.types-is ∙ held_none holds fields i past types lt so.0 is,
            ap (λ (k : Vec ℕ). k.items) w.indices-is ∙ index_none p fields i past indices lt so.1 is,
          )
    ]

pub returns : goal.returns
returns c = λ p h.
    let so = c.loop-index.invariant p h in
    let all = take_all c.loop-index.index c.args.fields.now c.loop-index-test.false in
    (so.0 ∙ ap (fields_held p) all, so.1 ∙ ap (indices_held p) all)
