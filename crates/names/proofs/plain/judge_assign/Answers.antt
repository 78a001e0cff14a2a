use Rattle.std.proofs.Common.{subst}
use Rattle.std.specs.Prelude.{OnOk}
use Rattle.tree.specs.StatementTrees.{assign_tree}
use Rattle.names.specs.Bodies.{scope_in, inside_of}
use Rattle.declarations.specs.Mistakes.{Adds}
use Rattle.names.specs.Values.{target_mistakes, target_type, value_mistakes}
use Rattle.names.proofs.PassLemmas.{on_adds}
use Rattle.names.proofs.plain.judge_assign.Goals as goal

pub returns : goal.returns
returns c = λ m f around frame.
    let target = (assign_tree c.args.assign.now).target in
    let value = (assign_tree c.args.assign.now).value in
    let s = scope_in m f in
    let mid = c.judge_target.new.found.items in
    let new = c.judge_value.new.found.items in
    on_adds c.judge_value.result c.args.found.now.items mid new (target_mistakes s target) (value_mistakes (inside_of m f) (target_type s target) value)
    (c.in_ok-asked.ensures.all m.program f around.scope frame).found
    (subst (λ k. OnOk c.judge_value.result (Adds mid new (value_mistakes (inside_of m f) k value))) (c.in_ok-asked.ensures.all m.program f around.scope frame).ty
    (c.judge_value.ensures m f around frame))
