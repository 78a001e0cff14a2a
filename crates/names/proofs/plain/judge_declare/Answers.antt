use Rattle.std.proofs.Common.{◌++◌, [], sym, subst}
use Rattle.std.specs.Prelude.{OnOk}
use Rattle.std.specs.Option.{option_map, option_map_or}
use Rattle.tree.specs.Values.{value_tree}
use Rattle.names.specs.Bodies.{inside_of}
use Rattle.names.specs.Values.{value_mistakes}
use Rattle.declarations.specs.Mistakes.{Adds}
use Rattle.names.specs.Frames.{IsNameFrame, Turned}
use Rattle.declarations.specs.Types.{is_heap, type_meant, type_unknown}
use Rattle.names.specs.Variables.{declared_variable}
use Rattle.declarations.proofs.AddLemmas.{adds_then}
use Rattle.names.proofs.TurnLemmas.{on_before}
use Rattle.names.proofs.plain.judge_declare.Goals as goal

pub returns : goal.returns
returns c = λ m f around frame.
    let text = m.program.text in
    let declare = c.args.declare.now in
    let ty = type_meant m.program declare.ty in
    let heap = is_heap declare.ty in
    let v = c.args.variables.now in
    let w = c.declare.new.self in
    let result = c.declare.result in
    let typed = c.judge_type.new.found.items in
    let given = c.judge_given.new.found.items in
    let new = c.declare.new.found.items in
    let unknown = type_unknown m.program declare.ty in
    let value = option_map_or (value_mistakes (inside_of m f) ty) (option_map value_tree declare.value) [] in
    let same = around.scope.text_is in
    let is = c.type_meant-ty.ensures m.program around.scope in
    on_before result text c.args.found.now.items given new w (unknown ++ value) (declared_variable text declare.name ty heap f)
    (adds_then (c.in_ok-judge_type.ensures m.program around.scope)
    (subst (λ k. Adds typed given (option_map_or (value_mistakes (inside_of m f) k) (option_map value_tree declare.value) [])) is (c.in_ok-judge_given.ensures m f around frame)))
    (subst (λ k. OnOk result (Turned text given new w (declared_variable text declare.name k heap f))) is
    (subst (λ b. OnOk result (Turned text given new w (declared_variable text declare.name c.type_meant-ty.result b f))) c.is_heap-heap.ensures
    (subst (λ t. OnOk result (Turned t given new w (declared_variable t declare.name c.type_meant-ty.result c.is_heap-heap.result f))) same
    (c.declare.ensures f (subst (λ t. IsNameFrame t f v) (sym same) frame)))))
