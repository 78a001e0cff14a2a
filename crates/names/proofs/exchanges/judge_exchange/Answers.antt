use Rattle.std.proofs.Common.{◌++◌, ap, ◌∙◌, subst}
use Rattle.std.specs.Prelude.{OnOk}
use Rattle.names.specs.Bodies.{exchanged_type, holder_mistakes}
use Rattle.names.specs.Expressions.{InScope, type_asked, type_named, variable_mistakes}
use Rattle.declarations.specs.Mistakes.{Adds}
use Rattle.declarations.specs.declared.mistake.Demand.TheVariants as demand
use Rattle.declarations.specs.declared.mistake.Mismatch.TheVariants.{Given}
use Rattle.declarations.specs.Types.{unless}
use Rattle.names.proofs.PassLemmas.{on_adds}
use Rattle.names.proofs.exchanges.judge_exchange.Goals as goal

pub returns : goal.returns
returns c = λ p f scope frame.
    let s : InScope = record { program = p; variables = f.variables } in
    let e = c.args.exchange in
    let place = e.given.place in
    let result = c.ask.result in
    let old = c.args.found.now.items in
    let named = c.judge_variable.new.found.items in
    let judged = c.judge_holder.new.found.items in
    let used = c.judge_variable-2.new.found.items in
    let new = c.ask.new.found.items in
    let holder = c.in_ok-held.ensures.all p f scope frame in
    let asked = c.in_ok-asked.ensures.all s scope in
    let given = c.in_ok-given.ensures.all p f scope frame in
    let ty = exchanged_type s (type_named s e.holder) e.field in
    let first = variable_mistakes s e.holder in
    let second = holder_mistakes s (type_named s e.holder) e.holder e.field in
    let third = variable_mistakes s e.given in
    let last = type_asked ty (type_named s e.given) place in
    on_adds result old named new first (second ++ (third ++ last)) holder.found
    (on_adds result named judged new second (third ++ last) (subst (λ k. Adds named judged (holder_mistakes s k e.holder e.field)) holder.ty asked.found)
    (on_adds result judged used new third last given.found
    (subst (λ k. OnOk result (Adds used new (type_asked ty k place))) given.ty
    (subst (λ k. OnOk result (Adds used new (type_asked k c.in_ok-given.given place))) (asked.ty ∙ ap (λ k. exchanged_type s k e.field) holder.ty)
    (subst (λ b. OnOk result (Adds used new (unless b place (Given (demand.OfType c.in_ok-asked.asked) c.in_ok-given.given)))) c.agrees.ensures c.ask.ensures)))))
