use Rattle.std.proofs.Common.{sym, ap, ◌∙◌, ◌++◌}
use Rattle.tree.specs.Values as values
use Rattle.tree.specs.Values.{call_tree, value_tree, made_tree, new_tree}
use Rattle.tree.specs.declared.value.Value.{Value}
use Rattle.resolving.specs.Around.{program_in}
use Rattle.program.specs.Statements as seen
use Rattle.resolving.specs.Plain.{made_reads, part_taken}
use Rattle.resolving.proofs.PlainLemmas.{told_as}
use Rattle.resolving.proofs.values.tell_part.Goals as goal

pub returns-in-Call : goal.returns-in-Call
returns-in-Call c = λ items own around.
    let p = program_in c.args.text.now items in
    let text = c.args.text.now in
    let locals = c.args.locals.now in
    let value = c.args.value.now in
    told_as text locals c.tell_part_called.result (λ f. part_taken p own f c.args.index.items c.args.whole (values.Call (call_tree c.deref.result.now))) (λ f. part_taken p own f c.args.index.items c.args.whole (value_tree value))
    (λ f frame. ap (λ x. part_taken p own f c.args.index.items c.args.whole (values.Call (call_tree x))) c.deref.ensures ∙ ap (λ (v : Value). part_taken p own f c.args.index.items c.args.whole (value_tree v)) (sym c.in-Call.is))
    (c.tell_part_called.ensures items own around)

pub returns-in-New : goal.returns-in-New
returns-in-New c = λ items own around.
    let p = program_in c.args.text.now items in
    let text = c.args.text.now in
    let locals = c.args.locals.now in
    let value = c.args.value.now in
    let made = made_tree c.deref-in-New.result.now.made in
    told_as text locals c.tell_made.result (λ f. seen.Simple (c.args.index.items ++ made_reads p own f made) c.use_effect-in-New.result) (λ f. part_taken p own f c.args.index.items c.args.whole (value_tree value))
    (λ f frame. ap (seen.Simple (c.args.index.items ++ made_reads p own f made)) c.use_effect-in-New.ensures ∙ ap (λ x. part_taken p own f c.args.index.items c.args.whole (values.New (new_tree x))) c.deref-in-New.ensures ∙ ap (λ (v : Value). part_taken p own f c.args.index.items c.args.whole (value_tree v)) (sym c.in-New.is))
    (c.tell_made.ensures items own)
