use Rattle.std.proofs.Common.{map, subst, sym}
use Rattle.std.specs.List.{All}
use Rattle.program.specs.Parts.{contract_model}
use Rattle.singcheck.specs.Broken.{IsBrokenIn}
use Rattle.singcheck.specs.Fronts.{AreBrokenOf, AreMistaken, IsRefused}
use Rattle.singcheck.specs.Remarked.{HasFault}
use Rattle.singcheck.specs.Unexpected.{IsUnexpected}
use Rattle.singcheck.proofs.ExplainLemmas.{contracts_explained_if, explained_alone, fault_explained, syntax_explained}
use Rattle.singcheck.proofs.remarking.explain_refused.Goals as goal

pub returns-in_ok-explain_fault-in-Text : goal.returns-in_ok-explain_fault-in-Text
returns-in_ok-explain_fault-in-Text c =
    let text = c.args.text.now in
    let known = subst (IsRefused text) c.in-Text.is c.requires.refused in
    explained_alone (HasFault c.args.named text) (fault_explained c.args.named text) c.in_ok-explain_fault-in-Text.field-0
    (c.in_ok-explain_fault-in-Text.ensures text known) c.alone.result c.alone.ensures

pub explain_at-requires : goal.explain_at-requires
explain_at-requires c = record { wrong = (subst (IsRefused c.args.text.now) c.in-Syntax.is c.requires.refused).wrong }

pub returns-in_ok-explain_at-in-Syntax : goal.returns-in_ok-explain_at-in-Syntax
returns-in_ok-explain_at-in-Syntax c =
    let text = c.args.text.now in
    let wrong = subst (IsRefused text) c.in-Syntax.is c.requires.refused in
    explained_alone (IsUnexpected c.args.named text) (syntax_explained c.args.named text) c.in_ok-explain_at-in-Syntax.field-0
    (c.in_ok-explain_at-in-Syntax.ensures text wrong.lexed wrong.end) c.alone-in-Syntax.result c.alone-in-Syntax.ensures

pub explain_names-requires : goal.explain_names-requires
explain_names-requires c = record {
  mistaken = subst (AreMistaken c.args.text.now c.in-Names.tree) (sym c.deref.ensures.value)
      (subst (IsRefused c.args.text.now) c.in-Names.is c.requires.refused);
}

pub explain_contracts-requires : goal.explain_contracts-requires
explain_contracts-requires c =
    let broken = subst (IsRefused c.args.text.now) c.in-Contracts.is c.requires.refused in
    record { each = subst (λ l. All (IsBrokenIn l) c.in-Contracts.broken.items) (sym c.contracts.ensures) broken.are.each }

pub returns-in-Contracts : goal.returns-in-Contracts
returns-in-Contracts c =
    let text = c.args.text.now in
    let broken = subst (IsRefused text) c.in-Contracts.is c.requires.refused in
    let same = subst (λ l. AreBrokenOf text l c.in-Contracts.broken.items) (sym c.contracts.ensures) broken in
    contracts_explained_if c.args.named text (map contract_model c.contracts.result.now.contracts.items) c.in-Contracts.broken.items same c.explain_contracts.result
    c.explain_contracts.ensures.same c.explain_contracts.ensures.each
