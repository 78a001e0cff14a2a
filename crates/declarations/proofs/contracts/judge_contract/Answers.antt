use Rattle.std.proofs.Common.{◌∙◌, ap, map, sym, subst}
use Rattle.std.specs.Prelude.{OnOk}
use Rattle.std.specs.List.{flat_map}
use Rattle.std.proofs.lemmas.Result.{on_ok_weaker}
use Rattle.tree.specs.Trees.{message_tree}
use Rattle.declarations.specs.Declarations.{messages_of, states_of, names_of_messages, names_of_states}
use Rattle.declarations.specs.ContractMistakes.{message_mistakes, state_mistakes}
use Rattle.declarations.specs.Mistakes.{Adds}
use Rattle.declarations.specs.Listed.{twice_among}
use Rattle.declarations.specs.Outlines.{outlined_states}
use Rattle.tables.specs.Tables.{IsTable}
use Rattle.tables.specs.Words.{words_at}
use Rattle.declarations.proofs.AddLemmas.{adds_then}
use Rattle.declarations.proofs.contracts.judge_contract.Goals as goal

pub returns : goal.returns
returns c = λ p contract h k.
    let declared = c.args.declared.now in
    let here = c.args.scope.now.text.now in
    let messages = names_of_messages (messages_of contract) in
    let states = names_of_states (states_of contract) in
    let message_table = subst (λ t. IsTable (words_at t messages) declared.messages) (sym h.text_is) k.messages in
    let state_table = subst (λ t. IsTable (words_at t states) declared.states) (sym h.text_is) k.states in
    let message_names = c.deref.ensures.value ∙ c.in_ok-messages.ensures ∙ ap names_of_messages k.outline.messages in
    let state_names = c.deref-2.ensures.value ∙ c.in_ok-states.ensures ∙ ap names_of_states k.outline.states in
    let first = subst (λ t. Adds c.args.found.now.items c.judge_twice.new.found.items (twice_among t messages)) h.text_is
    (subst (λ n. Adds c.args.found.now.items c.judge_twice.new.found.items (twice_among here n)) message_names
    (c.in_ok-judge_twice.ensures (subst (λ n. IsTable (words_at here n) declared.messages) (sym message_names) message_table))) in
    let second = subst (λ t. Adds c.judge_twice.new.found.items c.judge_twice-2.new.found.items (twice_among t states)) h.text_is
    (subst (λ n. Adds c.judge_twice.new.found.items c.judge_twice-2.new.found.items (twice_among here n)) state_names
    (c.in_ok-judge_twice-2.ensures (subst (λ n. IsTable (words_at here n) declared.states) (sym state_names) state_table))) in
    let third = subst (λ l. Adds c.judge_twice-2.new.found.items c.judge_messages.new.found.items (flat_map (message_mistakes p) l))
    (ap (map (λ m. message_tree m.now)) c.deref-3.ensures.value ∙ k.outline.messages)
    (c.in_ok-judge_messages.ensures p h) in
    let last = subst (λ l. OnOk c.judge_states.result (Adds c.judge_messages.new.found.items c.judge_states.new.found.items (flat_map (state_mistakes p.text messages states) l))) k.outline.states
    (subst (λ t. OnOk c.judge_states.result (Adds c.judge_messages.new.found.items c.judge_states.new.found.items (flat_map (state_mistakes t messages states) (outlined_states declared.outline)))) h.text_is
    (c.judge_states.ensures messages states message_table state_table)) in
    on_ok_weaker c.judge_states.result (λ fourth. adds_then first (adds_then second (adds_then third fourth))) last
