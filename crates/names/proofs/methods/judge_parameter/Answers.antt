use Rattle.std.proofs.Common.{subst, sym}
use Rattle.std.specs.Prelude.{OnOk}
use Rattle.std.proofs.lemmas.Result.{on_ok_weaker}
use Rattle.names.specs.Frames.{IsNameFrame, Turned}
use Rattle.declarations.specs.Types.{is_heap, type_meant}
use Rattle.names.specs.Variables.{declared_variable}
use Rattle.names.proofs.ParameterLemmas.{turned_before}
use Rattle.names.proofs.methods.judge_parameter.Goals as goal

pub returns : goal.returns
returns c = λ p f h k.
    let x = c.args.parameter in
    let mid = c.judge_type.new.found.items in
    let new = c.declare.new.found.items in
    let variables = c.declare.new.self in
    let here = c.args.scope.now.text.now in
    let framed = subst (λ t. IsNameFrame t f c.args.variables.now) (sym h.text_is) k in
    let declared = subst (λ t. OnOk c.declare.result (Turned t mid new variables (declared_variable t x.name (type_meant p x.ty) (is_heap x.ty) f))) h.text_is
    (subst (λ ty. OnOk c.declare.result (Turned here mid new variables (declared_variable here x.name ty (is_heap x.ty) f))) (c.type_meant-ty.ensures p h)
    (subst (λ heap. OnOk c.declare.result (Turned here mid new variables (declared_variable here x.name c.type_meant-ty.result heap f))) c.is_heap-heap.ensures
    (c.declare.ensures f framed))) in
    on_ok_weaker c.declare.result (λ last. turned_before (c.in_ok-judge_type.ensures p h) last) declared
