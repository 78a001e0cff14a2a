use Rattle.std.proofs.Common.{◌∙◌, ap, sym}
use Rattle.std.specs.Prelude.{string_bytes}
use Rattle.std.proofs.lemmas.Bool.{true≢false}
use Rattle.contracts.specs.Leaving.{name_among}
use Rattle.contracts.specs.Positions.{numbers_of}
use Rattle.contracts.proofs.LeavingLemmas.{name_there, no_name}
use Rattle.contracts.proofs.sound.Sound.message_name.Goals as goal

pub returns-then-has : goal.returns-then-has
returns-then-has c =
    c.as_bytes.ensures.value ∙ ap (λ m. string_bytes m.name) c.index.ensures
    ∙ name_there c.args.self.now.messages.items c.args.self.now.numbers c.args.message.0 c.position-position.result c.index.result.now c.args.self.now.named c.position-position.ensures.within c.position-position.ensures.at
    ∙ ap (λ l. name_among l c.args.message.0) c.args.self.now.messages_are

pub returns-else-has : goal.returns-else-has
returns-else-has c =
    no_name c.args.self.now.messages.items (numbers_of c.args.self.now.numbers) c.args.message.0 c.args.self.now.named (λ there. true≢false (sym (c.has.ensures.1 there) ∙ c.if-has.false))
    ∙ ap (λ l. name_among l c.args.message.0) c.args.self.now.messages_are
