use Rattle.std.proofs.Common.{Bor, ◌++◌, false, sym, subst}
use Rattle.std.specs.Option.{option_map_or}
use Rattle.std.specs.Prelude.{OnOk, option_map}
use Rattle.tree.specs.declared.contract.MessageParameter.{MessageParameter}
use Rattle.names.specs.Cases.{bind_turn}
use Rattle.names.specs.Expressions.{type_asked}
use Rattle.declarations.specs.Mistakes.{Adds}
use Rattle.names.specs.Frames.{Turned}
use Rattle.declarations.specs.Types.{brought_type, is_heap, type_meant, type_unknown}
use Rattle.names.specs.Variables.{declared_variable}
use Rattle.names.proofs.TurnLemmas.{on_before}
use Rattle.names.proofs.binds.judge_bind.Goals as goal

pub returns-in_ok-judge_bound_type-in-Some : goal.returns-in_ok-judge_bound_type-in-Some
returns-in_ok-judge_bound_type-in-Some c = λ p f scope frame.
    let text = p.text in
    let written = c.in-Some.written in
    let name = c.args.bind.name in
    let param = option_map (λ (x : Bor MessageParameter). x.now) c.args.parameter in
    let old = c.args.found.now.items in
    let mid = c.judge_bound_type.new.found.items in
    let new = c.declare_in.new.found.items in
    let w = c.declare_in.new.variables in
    let result = c.declare_in.result in
    let bound = type_meant p written in
    subst (λ o. OnOk result (Turned text old new w (bind_turn p param name o f))) (sym c.in-Some.is)
    (on_before result text old mid new w (type_unknown p written ++ type_asked (brought_type p param) bound name.place) (declared_variable text name bound (is_heap written) f)
    (subst (λ k. Adds old mid (type_unknown p written ++ type_asked k bound name.place)) (c.brought_type-brought.ensures p scope) (c.in_ok-judge_bound_type-in-Some.ensures p scope))
    (subst (λ k. OnOk result (Turned text mid new w (declared_variable text name k (is_heap written) f))) (c.type_meant.ensures p scope)
    (subst (λ b. OnOk result (Turned text mid new w (declared_variable text name c.type_meant.result b f))) c.is_heap.ensures (c.declare_in.ensures p f scope frame))))

pub returns-in-None : goal.returns-in-None
returns-in-None c = λ p f scope frame.
    let text = p.text in
    let name = c.args.bind.name in
    let param = option_map (λ (x : Bor MessageParameter). x.now) c.args.parameter in
    let old = c.args.found.now.items in
    let new = c.declare_in-in-None.new.found.items in
    let w = c.declare_in-in-None.new.variables in
    let result = c.declare_in-in-None.result in
    subst (λ o. OnOk result (Turned text old new w (bind_turn p param name o f))) (sym c.in-None.is)
    (subst (λ k. OnOk result (Turned text old new w (declared_variable text name k (option_map_or (λ x. is_heap x.ty) param false) f))) (c.brought_type-brought.ensures p scope)
    (subst (λ b. OnOk result (Turned text old new w (declared_variable text name c.brought_type-brought.result b f))) c.brings_heap-heap.ensures (c.declare_in-in-None.ensures p f scope frame)))
