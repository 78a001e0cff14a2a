use Rattle.std.proofs.Common.{◌∙◌, ap, map, sym, subst, refl}
use Rattle.std.specs.Prelude.{All}
use Rattle.std.proofs.lemmas.List.Elements.{All-push}
use Rattle.program.specs.Parts.{contract_model}
use Rattle.contracts.specs.Conditions.{AreExactly, IsFlaw}
use Rattle.contracts.specs.Parts.{contract_parts}
use Rattle.contracts.specs.Sounds.{IsJudged}
use Rattle.singcheck.specs.Broken.{IsBrokenIn, findings_of, found_of}
use Rattle.singcheck.specs.declared.soundness.BrokenContract.{BrokenContract}
use Rattle.singcheck.proofs.JudgeLemmas.{adds_is, contract_there, found_push, keeps_is, parts_at}
use Rattle.singcheck.proofs.WholeLemmas.{whole_at}
use Rattle.singcheck.proofs.soundness.judge.Goals as goal

pub judge-requires : goal.judge-requires
judge-requires c = record { whole = whole_at c.args.resolved.now.contracts.items c.args.id.0 _ c.requires.whole c.edges.ensures }

pub returns-in_ok-push-in-Sound-clause-judged : goal.returns-in_ok-push-in-Sound-clause-judged
returns-in_ok-push-in-Sound-clause-judged c = λ seen at.
    let judged = subst (IsJudged (contract_parts c.edges.result.now)) c.in-Sound.is c.in_ok-sound.ensures in
    keeps_is seen _ _ _ c.in-Sound.sound (parts_at c.args.resolved.now.contracts.items c.args.id.0 _ seen c.edges.ensures at) judged.1 judged.0 c.in_ok-push-in-Sound.ensures.items refl

pub returns-in_ok-push-in-Broken-clause-judged : goal.returns-in_ok-push-in-Broken-clause-judged
returns-in_ok-push-in-Broken-clause-judged c = λ seen at.
    let judged = subst (IsJudged (contract_parts c.edges.result.now)) c.in-Broken.is c.in_ok-sound.ensures in
    let same = parts_at c.args.resolved.now.contracts.items c.args.id.0 _ seen c.edges.ensures at in
    let b : BrokenContract = record { contract = c.args.id; findings = c.in-Broken.findings } in
    adds_is seen _ _ _ _ same same judged.0 (record {
      more = findings_of b;
      exactly = judged.1;
      added = ap found_of c.in_ok-push-in-Broken.ensures.items ∙ found_push c.args.judging.now.broken.items b;
    })

pub returns-in_ok-push-in-Broken-clause-each : goal.returns-in_ok-push-in-Broken-clause-each
returns-in_ok-push-in-Broken-clause-each c = λ each.
    let all = map contract_model c.args.resolved.now.contracts.items in
    let judged = subst (IsJudged (contract_parts c.edges.result.now)) c.in-Broken.is c.in_ok-sound.ensures in
    let b : BrokenContract = record { contract = c.args.id; findings = c.in-Broken.findings } in
    let at = contract_there c.args.resolved.now.contracts.items c.args.id.0 _ c.edges.ensures in
    subst (All (IsBrokenIn all)) (sym c.in_ok-push-in-Broken.ensures.items) (All-push (IsBrokenIn all) c.args.judging.now.broken.items b each (record {
      contract = at.0;
      there = at.1;
      exactly = subst (λ p. AreExactly (IsFlaw p) (findings_of b)) (sym at.2) judged.1;
      first = judged.0.0;
      some = judged.1.all judged.0.0 judged.0.1;
    }))
