use Rattle.std.proofs.Common.{Option, None, [], sym, ap, ◌∙◌}
use Rattle.std.specs.Option.{option_map_or}
use Rattle.std.specs.Prelude.{option_map}
use Rattle.tree.specs.Values.{call_tree}
use Rattle.program.specs.Statements as seen
use Rattle.program.specs.Statements.{SendModel, send_model}
use Rattle.program.specs.declared.call.Send.{Send}
use Rattle.resolving.specs.Around.{program_in}
use Rattle.resolving.specs.Plain.{call_statement, stated_call}
use Rattle.resolving.proofs.PlainLemmas.{told_as}
use Rattle.resolving.proofs.FormTwins.{sent_is}
use Rattle.resolving.proofs.sends.tell_stated.Goals as goal

pub returns-in-Some : goal.returns-in-Some
returns-in-Some c = λ items own around. record {
  all = λ f frame.
      let p = program_in c.args.text.now items in
      let call = call_statement p own f (call_tree c.args.call.now) None [] in
      sent_is c.in-Some.send
      ∙ ap (λ (o : Option Send). option_map_or seen.Send (option_map send_model o) call) (sym c.in-Some.is)
      ∙ ap (λ (o : Option SendModel). option_map_or seen.Send o call) ((c.in_ok-send.ensures items own around).all f frame);
}

pub returns-in-None : goal.returns-in-None
returns-in-None c = λ items own around.
    let p = program_in c.args.text.now items in
    let call = call_tree c.args.call.now in
    told_as p.text c.args.locals.now c.tell_call.result (λ f. call_statement p own f call None c.new.result.items) (λ f. stated_call p own f call)
    (λ f frame. ap (call_statement p own f call None) c.new.ensures.items
    ∙ ap (λ (o : Option Send). option_map_or seen.Send (option_map send_model o) (call_statement p own f call None [])) (sym c.in-None.is)
    ∙ ap (λ (o : Option SendModel). option_map_or seen.Send o (call_statement p own f call None [])) ((c.in_ok-send.ensures items own around).all f frame))
    (c.tell_call.ensures items own around)
