use Rattle.std.proofs.Common.{Bor, length, map, ap, refl, ◌∙◌, arith}
use Rattle.std.specs.Str.Lossy.{utf8_lossy}
use Rattle.tree.specs.Trees.{message_tree}
use Rattle.tree.specs.declared.contract as tree
use Rattle.declarations.specs.Numbered.{counted_as}
use Rattle.declarations.specs.Outlines.{outlined_messages, outlined_states}
use Rattle.declarations.specs.Resolution.{messages_from, numbered_states}
use Rattle.declarations.proofs.MeantLemmas.{all_counted, names_counted}
use Rattle.declarations.proofs.SeenLemmas.{seen_is}
use Rattle.declarations.proofs.resolving.resolve_contract.Goals as goal

pub number_states-requires-clause-room : goal.number_states-requires-clause-room
number_states-requires-clause-room c =
    let names = c.deref-2.ensures.value ∙ c.requires.ready.all in
    let size = ap length names in
    let counted = names_counted (outlined_states c.args.declared.now.outline) in
    omega (arith, size, counted, c.requires.states)

pub returns : goal.returns
returns c =
    let text = c.args.text.now in
    let outline = c.args.declared.now.outline in
    let states = outlined_states outline in
    let before = c.args.states_before in
    let names = c.deref-2.ensures.value ∙ c.requires.ready.all in
    seen_is text c.args.messages_before before outline.name (outlined_messages outline) states
    (record { name = c.in_ok-from_utf8_lossy.field-0; first = record { 0 = before }; state_names = c.number_states.new.names; states = c.in_ok-states.states; messages = c.in_ok-messages.messages; edges = c.in_ok-edges.edges })
    (c.in_ok-from_utf8_lossy.ensures.lossy ∙ ap utf8_lossy c.slice.ensures)
    refl
    (c.in_ok-states.ensures ∙ ap (λ t. numbered_states before (map (counted_as t) c.deref-2.result.now)) c.in_ok-labels.ensures.text
    ∙ ap (λ l. numbered_states before (map (counted_as text) l)) names ∙ ap (numbered_states before) (all_counted text states))
    (c.in_ok-messages.ensures ∙ ap (λ l. messages_from text c.args.messages_before (map (λ (m : Bor tree.Message.Message). message_tree m.now) l)) c.deref.ensures.value)
    c.in_ok-edges.ensures
