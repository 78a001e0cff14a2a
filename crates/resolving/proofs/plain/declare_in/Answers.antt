use Rattle.std.proofs.Common.{sym, subst, ap}
use Rattle.std.specs.Prelude.{OnOk}
use Rattle.tree.specs.StatementTrees as stated
use Rattle.tree.specs.StatementTrees.{PlainTree, plain_tree, declare_tree}
use Rattle.resolving.specs.Around.{program_in}
use Rattle.resolving.specs.Frames.{IsLocalFrame}
use Rattle.resolving.specs.Locals.{with_declaration}
use Rattle.resolving.specs.Plain.{frame_behind}
use Rattle.resolving.specs.declared.locals.Declaration.{Declaration}
use Rattle.resolving.proofs.plain.declare_in.Goals as goal

pub returns-in-Declare : goal.returns-in-Declare
returns-in-Declare c = λ items own f around frame.
    let p = program_in c.args.text.now items in
    subst (λ (s : PlainTree). OnOk c.declare.result (IsLocalFrame p.text (frame_behind p own f s) c.declare.new.self)) (sym (ap plain_tree c.in-Declare.is))
    (subst (λ d. OnOk c.declare.result (IsLocalFrame p.text (frame_behind p own f (stated.Declare (declare_tree d))) c.declare.new.self)) c.deref.ensures (subst (λ (d : Declaration). OnOk c.declare.result (IsLocalFrame p.text (with_declaration p.text d f) c.declare.new.self)) (c.declaration_of.ensures p own around) (c.declare.ensures f frame)))
