use Rattle.std.proofs.Common.{[], sym, ap, ◌∙◌, option_map}
use Rattle.tree.specs.ExpressionTrees.{expression_tree, target_tree}
use Rattle.tree.specs.StatementTrees.{plain_tree}
use Rattle.tree.specs.Values.{call_tree, value_tree}
use Rattle.tree.specs.declared.statement as made
use Rattle.resolving.specs.Around.{program_in}
use Rattle.resolving.specs.Frames.{staying_model}
use Rattle.resolving.specs.Types.{type_held}
use Rattle.resolving.specs.Locals.{next_number}
use Rattle.program.specs.Statements as seen
use Rattle.resolving.specs.Plain.{effect_of, stated_call, start_statement, first_value, write_statement, channel_found, exchange_found, return_statement, plain_told}
use Rattle.resolving.proofs.PlainLemmas.{told_as}
use Rattle.resolving.proofs.plain.tell_plain.Goals as goal

pub returns-in-Declare : goal.returns-in-Declare
returns-in-Declare c = λ items own around.
    let p = program_in c.args.text.now items in
    let text = c.args.text.now in
    let locals = c.args.locals.now in
    let stays = staying_model c.args.stays in
    told_as text locals c.tell_declare.result (λ f. first_value p own f c.deref.result.now.name (next_number (type_held p c.deref.result.now.ty) f) (option_map value_tree c.deref.result.now.value)) (λ f. plain_told p own f stays (plain_tree c.args.plain.now))
    (λ f frame. ap (λ (d : made.Declare.Declare). first_value p own f d.name (next_number (type_held p d.ty) f) (option_map value_tree d.value)) c.deref.ensures ∙ ap (plain_told p own f stays) (sym (ap plain_tree c.in-Declare.is)))
    (c.tell_declare.ensures items own around)

pub returns-in-Assign : goal.returns-in-Assign
returns-in-Assign c = λ items own around.
    let p = program_in c.args.text.now items in
    let text = c.args.text.now in
    let locals = c.args.locals.now in
    let stays = staying_model c.args.stays in
    told_as text locals c.tell_assign.result (λ f. write_statement p own f (target_tree c.deref-in-Assign.result.now.target) (value_tree c.deref-in-Assign-2.result.now.value)) (λ f. plain_told p own f stays (plain_tree c.args.plain.now))
    (λ f frame. ap (λ (a : made.Assign.Assign). write_statement p own f (target_tree a.target) (value_tree c.deref-in-Assign-2.result.now.value)) c.deref-in-Assign.ensures
    ∙ ap (λ (a : made.Assign.Assign). write_statement p own f (target_tree c.in-Assign.assign.value.target) (value_tree a.value)) c.deref-in-Assign-2.ensures
    ∙ ap (plain_told p own f stays) (sym (ap plain_tree c.in-Assign.is)))
    (c.tell_assign.ensures items own around)

pub returns-in-Call : goal.returns-in-Call
returns-in-Call c = λ items own around.
    let p = program_in c.args.text.now items in
    let text = c.args.text.now in
    let locals = c.args.locals.now in
    let stays = staying_model c.args.stays in
    told_as text locals c.tell_stated.result (λ f. stated_call p own f (call_tree c.deref-in-Call.result.now)) (λ f. plain_told p own f stays (plain_tree c.args.plain.now))
    (λ f frame. ap (λ x. stated_call p own f (call_tree x)) c.deref-in-Call.ensures ∙ ap (plain_told p own f stays) (sym (ap plain_tree c.in-Call.is)))
    (c.tell_stated.ensures items own around)

pub returns-in-Start : goal.returns-in-Start
returns-in-Start c = λ items own around.
    let p = program_in c.args.text.now items in
    let text = c.args.text.now in
    let locals = c.args.locals.now in
    let stays = staying_model c.args.stays in
    told_as text locals c.tell_start.result (λ f. start_statement p own f (call_tree c.deref-in-Start.result.now)) (λ f. plain_told p own f stays (plain_tree c.args.plain.now))
    (λ f frame. ap (λ x. start_statement p own f (call_tree x)) c.deref-in-Start.ensures ∙ ap (plain_told p own f stays) (sym (ap plain_tree c.in-Start.is)))
    (c.tell_start.ensures items own around)

pub returns-in-Exchange : goal.returns-in-Exchange
returns-in-Exchange c = λ items own around. record {
  all = λ f frame.
      let p = program_in c.args.text.now items in
      c.statement_of.ensures ∙ ap (λ a. seen.Simple [] (effect_of a)) (c.exchange_of.ensures items own f around frame) ∙ ap (λ e. seen.Simple [] (effect_of (exchange_found p own f e))) c.deref-in-Exchange.ensures ∙ ap (plain_told p own f (staying_model c.args.stays)) (sym (ap plain_tree c.in-Exchange.is));
}

pub returns-in-NewChannel : goal.returns-in-NewChannel
returns-in-NewChannel c = λ items own around. record {
  all = λ f frame.
      let p = program_in c.args.text.now items in
      c.statement_of-in-NewChannel.ensures ∙ ap (λ a. seen.Simple [] (effect_of a)) (c.channel_of.ensures items own f around frame) ∙ ap (λ n. seen.Simple [] (effect_of (channel_found p own f n))) c.deref-in-NewChannel.ensures ∙ ap (plain_told p own f (staying_model c.args.stays)) (sym (ap plain_tree c.in-NewChannel.is));
}

pub returns-in-Return : goal.returns-in-Return
returns-in-Return c = λ items own around.
    let p = program_in c.args.text.now items in
    let text = c.args.text.now in
    let locals = c.args.locals.now in
    let stays = staying_model c.args.stays in
    told_as text locals c.tell_return.result (λ f. return_statement p own f c.in-Return.word.place (option_map (λ e. expression_tree e.value) c.in-Return.value)) (λ f. plain_told p own f stays (plain_tree c.args.plain.now))
    (λ f frame. ap (plain_told p own f stays) (sym (ap plain_tree c.in-Return.is)))
    (c.tell_return.ensures items own)
