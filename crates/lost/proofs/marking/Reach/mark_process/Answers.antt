use Rattle.std.proofs.Common.{Contains, Some, map, reverse, subst, sym}
use Rattle.std.proofs.lemmas.Result.{on_ok_weaker}
use Rattle.machine.specs.Views.{frame_model, stack_of}
use Rattle.lost.specs.Marks.{Have, AddsMarks}
use Rattle.lost.proofs.MarkLemmas.{marks_ended, marks_first}
use Rattle.lost.proofs.marking.Reach.mark_process.Goals as goal

pub returns-in_ok-mark_variables-in-Some : goal.returns-in_ok-mark_variables-in-Some
returns-in_ok-mark_variables-in-Some c =
    let p = c.args.process.now in
    let f = c.in-Some.frame in
    on_ok_weaker c.mark_waiting.result
    (λ waiting. subst (λ top. AddsMarks (Have (stack_of top p.waiting.items)) c.args.self.now c.mark_waiting.new.self) (sym c.in-Some.is)
    (marks_first (λ g a. Contains g.variables (Some a)) (frame_model f) (map frame_model (reverse p.waiting.items))
    c.args.self.now c.mark_variables.new.self c.mark_waiting.new.self c.in_ok-mark_variables-in-Some.ensures
    (subst (λ l. AddsMarks (Have (map frame_model (reverse l))) c.mark_variables.new.self c.mark_waiting.new.self)
    c.deref.ensures.value waiting)))
    c.mark_waiting.ensures

pub returns-in-None : goal.returns-in-None
returns-in-None c =
    subst (λ top. AddsMarks (Have (stack_of top c.args.process.now.waiting.items)) c.args.self.now c.args.self.now) (sym c.in-None.is)
    (marks_ended (λ g a. Contains g.variables (Some a)) c.args.self.now)
