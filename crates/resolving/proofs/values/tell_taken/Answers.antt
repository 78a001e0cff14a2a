use Rattle.std.proofs.Common.{sym, ap, ◌∙◌, [], Some}
use Rattle.tree.specs.Values as values
use Rattle.tree.specs.Values.{call_tree, value_tree, made_tree, new_tree}
use Rattle.tree.specs.declared.value.Value.{Value}
use Rattle.program.specs.Statements as seen
use Rattle.program.specs.declared.statement.Action.TheVariants.{Move}
use Rattle.resolving.specs.Around.{program_in}
use Rattle.resolving.specs.Plain.{call_statement, effect_on, new_of, take_statement}
use Rattle.resolving.proofs.PlainLemmas.{told_as}
use Rattle.resolving.proofs.values.tell_taken.Goals as goal

pub returns-in-Expression : goal.returns-in-Expression
returns-in-Expression c = λ items own around. record {
  all = λ f frame.
      let p = program_in c.args.text.now items in
      c.unread.ensures ∙ ap (seen.Simple []) (c.move_effect.ensures ∙ ap (effect_on (Move c.args.target)) (c.alone-source.ensures items own f frame))
      ∙ ap (λ (v : Value). take_statement p own f c.args.target (value_tree v)) (sym c.in-Expression.is);
}

pub returns-in-Call : goal.returns-in-Call
returns-in-Call c = λ items own around.
    let p = program_in c.args.text.now items in
    let text = c.args.text.now in
    let locals = c.args.locals.now in
    let value = c.args.value.now in
    told_as text locals c.tell_call.result (λ f. call_statement p own f (call_tree c.deref.result.now) (Some c.args.target) c.new-behind.result.items) (λ f. take_statement p own f c.args.target (value_tree value))
    (λ f frame. ap (call_statement p own f (call_tree c.deref.result.now) (Some c.args.target)) c.new-behind.ensures.items ∙ ap (λ x. call_statement p own f (call_tree x) (Some c.args.target) []) c.deref.ensures ∙ ap (λ (v : Value). take_statement p own f c.args.target (value_tree v)) (sym c.in-Call.is))
    (c.tell_call.ensures items own around)

pub returns-in-New : goal.returns-in-New
returns-in-New c = λ items own around.
    let p = program_in c.args.text.now items in
    let text = c.args.text.now in
    let locals = c.args.locals.now in
    let value = c.args.value.now in
    let made = made_tree c.deref-in-New.result.now.made in
    told_as text locals c.tell_new.result (λ f. seen.New (new_of p own f c.args.target made)) (λ f. take_statement p own f c.args.target (value_tree value))
    (λ f frame. ap (λ x. take_statement p own f c.args.target (values.New (new_tree x))) c.deref-in-New.ensures ∙ ap (λ (v : Value). take_statement p own f c.args.target (value_tree v)) (sym c.in-New.is))
    (c.tell_new.ensures items own)
