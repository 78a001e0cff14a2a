use Rattle.std.proofs.Common.{◌≡◌, ◌∙◌, map, sym, subst, [], arith}
use Rattle.std.proofs.lemmas.Bool.{eqb-true, eqb-false}
use Rattle.std.proofs.lemmas.List.{length-map, take_all}
use Rattle.program.specs.Parts.{contract_model}
use Rattle.singcheck.specs.Judgements.{AreJudged}
use Rattle.singcheck.proofs.JudgeLemmas.{judged_turn, no_items, found_all, clean_all}
use Rattle.singcheck.proofs.soundness.judge_contracts.Goals as goal

pub loop-number-preserved : goal.loop-number-preserved
loop-number-preserved c =
    let size = length-map c.args.resolved.now.contracts.items contract_model in
    record {
      judged = judged_turn (map contract_model c.args.resolved.now.contracts.items) c.loop-number.number c.loop-number.judging _ (omega (arith, size, c.len-number-end.ensures)) c.loop-number.invariant.judged c.in_ok-judge.ensures.judged;
      each = c.in_ok-judge.ensures.each c.loop-number.invariant.each;
    }

pub returns-then-is_empty : goal.returns-then-is_empty
returns-then-is_empty c =
    let all = map contract_model c.args.resolved.now.contracts.items in
    let size = length-map c.args.resolved.now.contracts.items contract_model in
    let judged : AreJudged all c.loop-number.judging = subst (λ l. AreJudged l c.loop-number.judging) (take_all c.loop-number.number all (omega (arith, size, c.len-number-end.ensures))) c.loop-number.invariant.judged in
    let none : c.loop-number.judging.broken.items ≡ [] = no_items c.loop-number.judging.broken.items (sym c.loop-number.judging.broken.ok.0 ∙ eqb-true _ _ (sym c.is_empty.ensures ∙ c.if-is_empty.true)) in
    record { kept = judged.kept none; sound = clean_all all c.loop-number.judging judged none }

pub returns-else-is_empty : goal.returns-else-is_empty
returns-else-is_empty c =
    let all = map contract_model c.args.resolved.now.contracts.items in
    let size = length-map c.args.resolved.now.contracts.items contract_model in
    let judged : AreJudged all c.loop-number.judging = subst (λ l. AreJudged l c.loop-number.judging) (take_all c.loop-number.number all (omega (arith, size, c.len-number-end.ensures))) c.loop-number.invariant.judged in
    let differ = eqb-false _ _ (sym c.is_empty.ensures ∙ c.if-is_empty.false) in
    found_all all c.loop-number.judging judged c.loop-number.invariant.each (omega (arith, differ, c.loop-number.judging.broken.ok.0))
