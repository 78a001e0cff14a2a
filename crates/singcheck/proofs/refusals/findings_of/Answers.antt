use Rattle.std.proofs.Common.{◌≡◌, ◌∙◌, [], ◌∷◌, ap, map, subst, sym}
use Rattle.std.specs.Prelude.{IfOk, slice_get}
use Rattle.std.proofs.lemmas.Result.{IfOk-weaker}
use Rattle.source.specs.Findings.{finding_model}
use Rattle.tree.specs.Trees.{program_tree}
use Rattle.declarations.specs.Mistakes.{finding_in}
use Rattle.singcheck.specs.Answers.{AreFindings, OfSyntax, OfText, wrong_token}
use Rattle.singcheck.specs.Broken.{found_of}
use Rattle.singcheck.specs.Fronts.{IsRefused}
use Rattle.singcheck.proofs.StageLemmas.{misnamed, unsound}
use Rattle.singcheck.proofs.refusals.findings_of.Goals as goal

pub returns-in_ok-fault_finding-in-Text : goal.returns-in_ok-fault_finding-in-Text
returns-in_ok-fault_finding-in-Text c =
    let text = c.args.text.now in
    let known = subst (IsRefused text) c.in-Text.is c.requires.refused in
    IfOk-weaker c.one.result _ _ (λ found is. OfText (record {
      fault = c.in-Text.fault;
      first = known c.in_ok-fault_finding-in-Text.ensures.fault;
      are = is ∙ c.in_ok-fault_finding-in-Text.ensures.told;
    })) c.one.ensures

pub returns-in_ok-finding_at-in-Syntax : goal.returns-in_ok-finding_at-in-Syntax
returns-in_ok-finding_at-in-Syntax c =
    let text = c.args.text.now in
    let wrong = subst (IsRefused text) c.in-Syntax.is c.requires.refused in
    let tokens = c.in-Syntax.tokens.list.items in
    let number = c.in-Syntax.number in
    let finding = subst (λ r. IfOk r (λ f. finding_model f ≡ wrong_token text (slice_get tokens number))) c.in_ok-finding_at-in-Syntax.was
    (c.finding_at.ensures text wrong.end) in
    IfOk-weaker c.one-in-Syntax.result _ _ (λ found is. OfSyntax (record {
      tokens = tokens;
      lexed = wrong.lexed;
      number = number;
      wrong = wrong.wrong;
      are = is ∙ ap (λ f. f ∷ []) finding;
    })) c.one-in-Syntax.ensures

pub returns-in_ok-findings_of-in-Names : goal.returns-in_ok-findings_of-in-Names
returns-in_ok-findings_of-in-Names c =
    let text = c.args.text.now in
    let tree = c.in-Names.tree in
    let mistaken = subst (IsRefused text) c.in-Names.is c.requires.refused in
    misnamed text (program_tree tree) c.in-Names.mistakes.items c.in_ok-findings_of-in-Names.field-0.items mistaken.parsed mistaken.are
    (c.in_ok-findings_of-in-Names.ensures ∙ ap (map (finding_in text)) c.deref.ensures.value)

pub returns-in-Contracts : goal.returns-in-Contracts
returns-in-Contracts c =
    let text = c.args.text.now in
    let broken = subst (IsRefused text) c.in-Contracts.is c.requires.refused in
    IfOk-weaker c.findings_in.result _ _ (λ found is. subst (AreFindings text) (sym is) (unsound text _ (found_of c.in-Contracts.broken.items) broken.resolved broken.are.found)) c.findings_in.ensures
