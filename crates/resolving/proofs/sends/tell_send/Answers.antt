use Rattle.std.proofs.Common.{Some, sym, ap, ◌∙◌}
use Rattle.std.specs.Prelude.{option_and_then, option_map}
use Rattle.tree.specs.Values.{call_tree}
use Rattle.resolving.specs.Around.{meant_model, program_in}
use Rattle.resolving.specs.Plain.{send_of, send_for, sent_by}
use Rattle.resolving.proofs.sends.tell_send.Goals as goal

pub returns : goal.returns
returns c = λ items own around. record {
  all = λ f frame.
      let p = program_in c.args.text.now items in
      let call = call_tree c.args.call.now in
      let word = c.in-Some.word in
      ap Some (c.in_ok-send.ensures items own f frame)
      ∙ ap (option_map (λ e. send_of p own f word call e (meant_model c.in-Some-sent_by.meant))) (c.in-Some-mention.ensures f frame)
      ∙ ap (option_and_then (send_for p own f call word)) (c.in-Some-sent_by.ensures items own f around frame)
      ∙ ap (option_and_then (sent_by p own f call)) (sym c.in-Some.is);
}
