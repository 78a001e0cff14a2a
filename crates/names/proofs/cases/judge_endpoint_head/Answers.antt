use Rattle.std.proofs.Common.{[], ◌∷◌, take, ap, sym, ◌∙◌, refl, subst}
use Rattle.std.specs.Prelude.{OnOk, if◌then◌else◌, ◌||◌}
use Rattle.names.specs.Cases.{awaited_mistakes, lack_mistakes, awaits_too, names_endpoint, awaits_closed}
use Rattle.names.specs.Operands.{in_frame}
use Rattle.declarations.specs.Mistakes.{Adds}
use Rattle.declarations.specs.declared.mistake.Mistake.TheVariants.{LacksClosed}
use Rattle.names.specs.Heads.{IsHeads, case_head, awaiting_of}
use Rattle.names.proofs.HeadWords.{told_unless}
use Rattle.tree.proofs.StatementTwins.{case_is}
use Rattle.names.specs.Bodies.{head_of}
use Rattle.names.proofs.PassLemmas.{on_adds}
use Rattle.names.proofs.cases.judge_endpoint_head.Goals as goal

pub returns : goal.returns
returns c = λ p f all scope heads.
    let s = in_frame p f in
    let h = case_head c.args.case.now in
    let result = c.judge_lacking.result in
    let old = c.args.found.now.items in
    let mid = c.judge_awaited.new.found.items in
    let new = c.judge_lacking.new.found.items in
    let earlier = take c.args.index all in
    let tokens = c.args.context.now.scope.now.text.now in
    let own = subst (λ t. IsHeads t all c.args.heads.now) (sym scope.text_is) heads in
    let twice = c.is_twice-twice.ensures all h own (c.awaiting_at.ensures ∙ ap (λ k. awaiting_of (head_of k)) (case_is c.args.case.now)) ∙ ap (λ t. awaits_too t h earlier) scope.text_is in
    let lacking = c.is_lacking-lacking.ensures all h own refl in
    let said = told_unless (names_endpoint tokens h.endpoint earlier || awaits_closed tokens h.endpoint all) (LacksClosed h.endpoint ∷ []) in
    on_adds result old mid new (awaited_mistakes s earlier c.args.end.side c.args.end.item h h.awaited) (lack_mistakes s all earlier h)
    (c.in_ok-judge_awaited.ensures p f earlier scope twice)
    (subst (λ t. OnOk result (Adds mid new (if names_endpoint t h.endpoint earlier || awaits_closed t h.endpoint all then [] else LacksClosed h.endpoint ∷ []))) scope.text_is
    (subst (λ l. OnOk result (Adds mid new l)) (ap (λ b. if b then LacksClosed h.endpoint ∷ [] else []) lacking ∙ said) c.judge_lacking.ensures))
