use Rattle.std.proofs.lemmas.Bool.{iff_false}
use Rattle.source.specs.declared.kind.Kind.TheVariants as kind
use Rattle.syntax.specs.Reading.{never}
use Rattle.syntax.proofs.pieces.Exits.{exits}
use Rattle.syntax.proofs.pieces.Choices.{form_fails}
use Rattle.syntax.proofs.pieces.KindLemmas.{kind_leads, neither_leads}
use Rattle.tree.specs.Programs.{definition}
use Rattle.tree.specs.Trees.{definition_tree}
use Rattle.syntax.proofs.definitions.ItemRules.{contract_form, class_form, struct_form}
use Rattle.syntax.proofs.items.definition.Goals as goal

pub returns-in_err-contract : goal.returns-in_err-contract
returns-in_err-contract c = exits definition_tree definition never (λ _. never) _ _ _ _ _ c.from_residual.ensures.1 c.in_err-contract.ensures
    (λ h. form_fails contract_form (kind_leads kind.Contract _ (c.is_next.ensures.is.0 c.if-is_next.true)) h)

pub returns-in_err-class : goal.returns-in_err-class
returns-in_err-class c = exits definition_tree definition never (λ _. never) _ _ _ _ _ c.from_residual-in_err-class.ensures.1 c.in_err-class.ensures
    (λ h. form_fails class_form (kind_leads kind.Class _ (c.is_next-else-is_next.ensures.is.0 c.if-is_next-2.true)) h)

pub returns-in_err-structure : goal.returns-in_err-structure
returns-in_err-structure c = exits definition_tree definition never (λ _. never) _ _ _ _ _ c.from_residual-in_err-structure.ensures.1 c.in_err-structure.ensures
    (λ h. form_fails struct_form (neither_leads kind.Contract kind.Class _ c.is_next.ensures.some (iff_false c.is_next.ensures.is c.if-is_next.false) (iff_false c.is_next-else-is_next.ensures.is c.if-is_next-2.false)) h)
