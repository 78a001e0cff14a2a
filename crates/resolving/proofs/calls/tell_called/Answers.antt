use Rattle.std.proofs.Common.{sym, ap, ◌∙◌, Some, option_map}
use Rattle.tree.specs.Values.{call_tree}
use Rattle.resolving.specs.Around.{callee_model, program_in}
use Rattle.resolving.specs.Plain as told
use Rattle.resolving.proofs.calls.tell_called.Goals as goal

pub returns-in_ok-call-in-Some : goal.returns-in_ok-call-in-Some
returns-in_ok-call-in-Some c = λ items own around. record {
  all = λ f frame.
      let p = program_in c.args.text.now items in
      let call_of = told.call_of p own f (call_tree c.args.call.now) c.args.after.target c.args.after.behind.items in
      ap Some (c.in_ok-call-in-Some.ensures items own f frame) ∙ ap (option_map call_of) (sym (ap (option_map callee_model) c.in-Some.is) ∙ c.callee_of.ensures items own f around frame);
}
