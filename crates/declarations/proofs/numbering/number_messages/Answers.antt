use Rattle.std.proofs.Common.{ℕ, ◌+◌, List, ap, ◌∙◌}
use Rattle.std.specs.Str.Lossy.{utf8_lossy}
use Rattle.tree.specs.Trees.{message_tree}
use Rattle.program.specs.Parts.{MessageModel, message_model}
use Rattle.declarations.specs.Resolution.{numbered_message}
use Rattle.declarations.proofs.BehindLemmas.{number_more}
use Rattle.declarations.proofs.numbering.number_messages.Goals as goal

pub loop-i-preserved : goal.loop-i-preserved
loop-i-preserved c =
    let message = c.index-messages-i.result.now in
    let part : List ℕ → MessageModel = λ name. record { id = record { 0 = c.args.before + c.loop-i.i }; name = name; direction = message.direction } in
    number_more (numbered_message c.args.text.now) message_model (λ m. message_tree m.now) c.args.before c.args.messages.now c.loop-i.i c.index-messages-i.result c.loop-i.numbered.items _ _
    c.loop-i-test.true c.index-messages-i.is c.loop-i.invariant c.in_ok-push.ensures.items (ap part (c.in_ok-name.ensures.lossy ∙ ap utf8_lossy c.slice.ensures))
