use Rattle.std.proofs.Common.{ap, None}
use Rattle.tree.specs.Values as values
use Rattle.tree.specs.Values.{call_tree}
use Rattle.resolving.specs.Around.{program_in}
use Rattle.resolving.specs.Plain.{call_statement, part_taken}
use Rattle.resolving.proofs.PlainLemmas.{told_as}
use Rattle.resolving.proofs.values.tell_part_called.Goals as goal

pub returns : goal.returns
returns c = λ items own around.
    let p = program_in c.args.text.now items in
    let call = call_tree c.args.call.now in
    told_as c.args.text.now c.args.locals.now c.tell_call.result (λ f. call_statement p own f call None c.add_listed.new.found.items) (λ f. part_taken p own f c.args.index.items c.args.whole (values.Call call))
    (λ f frame. ap (call_statement p own f call None) c.in_ok-add_listed.ensures) (c.tell_call.ensures items own around)
