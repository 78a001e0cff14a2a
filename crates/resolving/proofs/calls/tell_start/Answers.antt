use Rattle.std.proofs.Common.{sym, subst, ap, ◌∙◌, [], None, option_map, Option}
use Rattle.std.specs.Option.{option_map_or}
use Rattle.tree.specs.Values.{call_tree}
use Rattle.program.specs.Statements as seen
use Rattle.program.specs.Statements.{call_model}
use Rattle.program.specs.declared.call.Call.{Call}
use Rattle.program.specs.declared.statement.Effect.TheVariants.{Nothing}
use Rattle.resolving.specs.Around.{program_in}
use Rattle.resolving.specs.Steps.{TellsCall}
use Rattle.resolving.specs.Plain.{call_told}
use Rattle.resolving.proofs.FormTwins.{started_is}
use Rattle.resolving.proofs.PlainLemmas.{call_said}
use Rattle.program.specs.declared.statement.Statement.TheVariants as made
use Rattle.resolving.proofs.calls.tell_start.Goals as goal

pub returns-in_ok-new-in-Some : goal.returns-in_ok-new-in-Some
returns-in_ok-new-in-Some c = λ items own around.
    let p = program_in c.args.text.now items in
    let call = call_tree c.args.call.now in
    call_said c.args.text.now c.args.locals.now seen.Start (λ f. call_told p own f call None []) c.in_ok-call.field-0 (made.Start c.in_ok-new-in-Some.field-0)
    (started_is c.in_ok-new-in-Some.field-0 ∙ ap (λ x. seen.Start (call_model x)) c.in_ok-new-in-Some.ensures.ok ∙ ap (λ (o : Option Call). option_map_or seen.Start (option_map call_model o) (seen.Simple [] Nothing)) (sym c.in-Some.is))
    (subst (λ b. TellsCall c.args.text.now c.args.locals.now (λ f. call_told p own f call None b) c.in_ok-call.field-0) c.new-behind.ensures.items (c.in_ok-call.ensures items own around))

pub returns-in-None : goal.returns-in-None
returns-in-None c = λ items own around.
    let p = program_in c.args.text.now items in
    let call = call_tree c.args.call.now in
    call_said c.args.text.now c.args.locals.now seen.Start (λ f. call_told p own f call None []) c.in_ok-call.field-0 c.unread.result
    (c.unread.ensures ∙ ap (λ (o : Option Call). option_map_or seen.Start (option_map call_model o) (seen.Simple [] Nothing)) (sym c.in-None.is))
    (subst (λ b. TellsCall c.args.text.now c.args.locals.now (λ f. call_told p own f call None b) c.in_ok-call.field-0) c.new-behind.ensures.items (c.in_ok-call.ensures items own around))
