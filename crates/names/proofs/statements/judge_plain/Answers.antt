use Rattle.std.proofs.Common.{[], ◌∷◌, ◌++◌, sym, ap, subst}
use Rattle.std.specs.Prelude.{OnOk, if◌then◌else◌}
use Rattle.std.specs.Option.{option_map}
use Rattle.tree.specs.ExpressionTrees.{expression_tree}
use Rattle.tree.specs.StatementTrees.{plain_tree, declare_tree, assign_tree}
use Rattle.tree.specs.Values.{call_tree}
use Rattle.tree.specs.declared.statement as made
use Rattle.declarations.specs.declared.mistake.Mistake.TheVariants.{BreakOutside, ContinueOutside}
use Rattle.names.specs.Bodies.{inside_of, scope_in, declaration_turn, plain_turn, delete_mistakes, exchange_mistakes, channel_mistakes, return_mistakes}
use Rattle.declarations.specs.Mistakes.{Adds}
use Rattle.names.specs.Frames.{Turned}
use Rattle.names.specs.Values.{Alone, Started, call_mistakes, target_mistakes, target_type, value_mistakes}
use Rattle.names.proofs.TurnLemmas.{on_stays}
use Rattle.names.proofs.statements.judge_plain.Goals as goal

pub returns-in-Declare : goal.returns-in-Declare
returns-in-Declare c = λ m f around frame.
    let text = m.program.text in
    let result = c.judge_declare.result in
    let old = c.args.found.now.items in
    let new = c.judge_declare.new.found.items in
    subst (λ x. OnOk result (Turned text old new c.judge_declare.new.variables (plain_turn m x f))) (sym (ap plain_tree c.in-Declare.is))
    (subst (λ d. OnOk result (Turned text old new c.judge_declare.new.variables (declaration_turn m (declare_tree d) f))) c.deref.ensures (c.judge_declare.ensures m f around frame))

pub returns-in-Assign : goal.returns-in-Assign
returns-in-Assign c = λ m f around frame.
    let text = m.program.text in
    let result = c.judge_assign.result in
    let old = c.args.found.now.items in
    let new = c.judge_assign.new.found.items in
    let v = c.args.variables.now in
    subst (λ x. OnOk result (Turned text old new v (plain_turn m x f))) (sym (ap plain_tree c.in-Assign.is))
    (on_stays result text old new v (target_mistakes (scope_in m f) (assign_tree c.in-Assign.assign.value).target ++ value_mistakes (inside_of m f) (target_type (scope_in m f) (assign_tree c.in-Assign.assign.value).target) (assign_tree c.in-Assign.assign.value).value) f frame (subst (λ a. OnOk result (Adds old new (target_mistakes (scope_in m f) (assign_tree a).target ++ value_mistakes (inside_of m f) (target_type (scope_in m f) (assign_tree a).target) (assign_tree a).value))) c.deref-in-Assign.ensures (c.judge_assign.ensures m f around frame)))

pub returns-in-Call : goal.returns-in-Call
returns-in-Call c = λ m f around frame.
    let text = m.program.text in
    let result = c.judge_call.result in
    let old = c.args.found.now.items in
    let new = c.judge_call.new.found.items in
    let v = c.args.variables.now in
    subst (λ x. OnOk result (Turned text old new v (plain_turn m x f))) (sym (ap plain_tree c.in-Call.is))
    (on_stays result text old new v (call_mistakes (inside_of m f) Alone (call_tree c.in-Call.call.value)) f frame (subst (λ x. OnOk result (Adds old new (call_mistakes (inside_of m f) Alone (call_tree x)))) c.deref-in-Call.ensures (c.judge_call.ensures m f around frame)))

pub returns-in-Start : goal.returns-in-Start
returns-in-Start c = λ m f around frame.
    let text = m.program.text in
    let result = c.judge_call-in-Start.result in
    let old = c.args.found.now.items in
    let new = c.judge_call-in-Start.new.found.items in
    let v = c.args.variables.now in
    subst (λ x. OnOk result (Turned text old new v (plain_turn m x f))) (sym (ap plain_tree c.in-Start.is))
    (on_stays result text old new v (call_mistakes (inside_of m f) Started (call_tree c.in-Start.call.value)) f frame (subst (λ x. OnOk result (Adds old new (call_mistakes (inside_of m f) Started (call_tree x)))) c.deref-in-Start.ensures (c.judge_call-in-Start.ensures m f around frame)))

pub returns-in-Delete : goal.returns-in-Delete
returns-in-Delete c = λ m f around frame.
    let text = m.program.text in
    let result = c.judge_delete.result in
    let old = c.args.found.now.items in
    let new = c.judge_delete.new.found.items in
    let v = c.args.variables.now in
    subst (λ x. OnOk result (Turned text old new v (plain_turn m x f))) (sym (ap plain_tree c.in-Delete.is))
    (on_stays result text old new v (delete_mistakes (scope_in m f) c.in-Delete.name) f frame (c.judge_delete.ensures m.program f around.scope frame))

pub returns-in-Exchange : goal.returns-in-Exchange
returns-in-Exchange c = λ m f around frame.
    let text = m.program.text in
    let result = c.judge_exchange.result in
    let old = c.args.found.now.items in
    let new = c.judge_exchange.new.found.items in
    let v = c.args.variables.now in
    subst (λ x. OnOk result (Turned text old new v (plain_turn m x f))) (sym (ap plain_tree c.in-Exchange.is))
    (on_stays result text old new v (exchange_mistakes (scope_in m f) c.in-Exchange.exchange.value) f frame (subst (λ (e : made.Exchange.Exchange). OnOk result (Adds old new (exchange_mistakes (scope_in m f) e))) c.deref-in-Exchange.ensures (c.judge_exchange.ensures m.program f around.scope frame)))

pub returns-in-NewChannel : goal.returns-in-NewChannel
returns-in-NewChannel c = λ m f around frame.
    let text = m.program.text in
    let result = c.judge_channel.result in
    let old = c.args.found.now.items in
    let new = c.judge_channel.new.found.items in
    let v = c.args.variables.now in
    subst (λ x. OnOk result (Turned text old new v (plain_turn m x f))) (sym (ap plain_tree c.in-NewChannel.is))
    (on_stays result text old new v (channel_mistakes (scope_in m f) c.in-NewChannel.channel.value.contract c.in-NewChannel.channel.value.first c.in-NewChannel.channel.value.second) f frame (subst (λ (n : made.NewChannel.NewChannel). OnOk result (Adds old new (channel_mistakes (scope_in m f) n.contract n.first n.second))) c.deref-in-NewChannel.ensures (c.judge_channel.ensures m.program f around.scope frame)))

pub returns-in-Break : goal.returns-in-Break
returns-in-Break c = λ m f around frame.
    let text = m.program.text in
    let result = c.judge_break.result in
    let old = c.args.found.now.items in
    let new = c.judge_break.new.found.items in
    let v = c.args.variables.now in
    subst (λ x. OnOk result (Turned text old new v (plain_turn m x f))) (sym (ap plain_tree c.in-Break.is))
    (on_stays result text old new v (if m.breaks then [] else BreakOutside c.in-Break.word.place ∷ []) f frame (subst (λ b. OnOk result (Adds old new (if b then [] else BreakOutside c.in-Break.word.place ∷ []))) around.breaks c.judge_break.ensures))

pub returns-in-Continue : goal.returns-in-Continue
returns-in-Continue c = λ m f around frame.
    let text = m.program.text in
    let result = c.judge_continue.result in
    let old = c.args.found.now.items in
    let new = c.judge_continue.new.found.items in
    let v = c.args.variables.now in
    subst (λ x. OnOk result (Turned text old new v (plain_turn m x f))) (sym (ap plain_tree c.in-Continue.is))
    (on_stays result text old new v (if m.continues then [] else ContinueOutside c.in-Continue.word.place ∷ []) f frame (subst (λ b. OnOk result (Adds old new (if b then [] else ContinueOutside c.in-Continue.word.place ∷ []))) around.continues c.judge_continue.ensures))

pub returns-in-Return : goal.returns-in-Return
returns-in-Return c = λ m f around frame.
    let text = m.program.text in
    let result = c.judge_return.result in
    let old = c.args.found.now.items in
    let new = c.judge_return.new.found.items in
    let v = c.args.variables.now in
    subst (λ x. OnOk result (Turned text old new v (plain_turn m x f))) (sym (ap plain_tree c.in-Return.is))
    (on_stays result text old new v (return_mistakes (scope_in m f) m.result c.in-Return.word (option_map (λ e. expression_tree e.value) c.in-Return.value)) f frame (subst (λ o. OnOk result (Adds old new (return_mistakes (scope_in m f) o c.in-Return.word (option_map (λ e. expression_tree e.value) c.in-Return.value)))) around.result (c.judge_return.ensures m.program f (c.context-context.ensures m f around frame))))
