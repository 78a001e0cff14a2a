use Rattle.std.proofs.Common.{◌≡◌, ◌∙◌, List, [], ◌∷◌, map, get_or, Some, None, ap, refl, subst, sym}
use Rattle.std.specs.Prelude.{slice_get}
use Rattle.std.specs.List.{range_with_len}
use Rattle.std.specs.Option.{option_copied}
use Rattle.std.proofs.lemmas.List.{get_or-map, length-map}
use Rattle.std.proofs.lemmas.Option.{get_or_from_slice_get, none-some, slice_get_within}
use Rattle.program.specs.declared.contract.Message.{Message}
use Rattle.contracts.specs.Parts.{AreConsecutive}
use Rattle.contracts.proofs.PartLemmas.{message_numbers_are}
use Rattle.contracts.proofs.PositionLemmas.{row_is}
use Rattle.contracts.proofs.keys.messages_of.Goals as goal

first_number : (messages : List Message) (m : Message) → slice_get messages 0 ≡ Some m → m.id.0 ≡ get_or (map (λ (x : Message). x.id.0) messages) 0 0
first_number messages m at =
    sym (get_or-map (λ (x : Message). x.id.0) messages 0 m 0 (slice_get_within messages 0 m at) ∙ ap (λ (x : Message). x.id.0) (get_or_from_slice_get messages 0 m m at))

no_numbers : (messages : List Message) → slice_get messages 0 ≡ None → [] ≡ map (λ (x : Message). x.id.0) messages
no_numbers [] at = refl
no_numbers (m ∷ messages) at = absurd (none-some m (sym at))

pub returns-in-Some : goal.returns-in-Some
returns-in-Some c =
    let messages = c.args.contract.now.messages.items in
    let numbers = map (λ (x : Message). x.id.0) messages in
    let m = c.in-Some.message.now in
    let at : slice_get messages 0 ≡ Some m = ap (λ l. slice_get l 0) (sym c.deref.ensures.value) ∙ sym c.first.ensures.value ∙ ap option_copied c.in-Some.is in
    let group = subst (λ l. AreConsecutive (get_or l 0 0) l) (message_numbers_are messages) c.requires.whole.messages_consecutive in
    let long = c.args.contract.now.messages.ok in
    c.new.ensures ∙ ap (λ n. range_with_len n c.len.result) (first_number messages m at)
    ∙ ap (range_with_len (get_or numbers 0 0)) (c.len.ensures ∙ long.0 ∙ sym (length-map messages (λ (x : Message). x.id.0))) ∙ row_is (get_or numbers 0 0) numbers group

pub returns-in-None : goal.returns-in-None
returns-in-None c =
    let messages = c.args.contract.now.messages.items in
    c.new-in-None.ensures ∙ no_numbers messages (ap (λ l. slice_get l 0) (sym c.deref.ensures.value) ∙ sym c.first.ensures.value ∙ ap option_copied c.in-None.is)
