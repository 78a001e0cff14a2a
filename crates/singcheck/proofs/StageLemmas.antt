-- From stage to stage.
use Rattle.std.proofs.Common.{◌≡◌, ◌∙◌, ℕ, List, [], ◌∷◌, ap, map, refl, subst, sym}
use Rattle.std.specs.Prelude.{Contains}
use Rattle.source.specs.Findings.{FindingModel, finding_model}
use Rattle.source.specs.declared.finding.Finding.{Finding}
use Rattle.tree.specs.Trees.{ItemTree}
use Rattle.contracts.specs.Conditions.{AreExactly}
use Rattle.program.specs.Parts.{ContractModel}
use Rattle.declarations.specs.Mistakes.{finding_in}
use Rattle.declarations.specs.declared.mistake.Mistake.{Mistake}
use Rattle.names.specs.Findings.{program_findings}
use Rattle.names.specs.Resolving.{AreMistakes}
use Rattle.singcheck.specs.Answers.{AreFindings, OfContracts, OfNames, IsProgram, IsResolved}
use Rattle.singcheck.specs.Fronts.{AreBroken}

-- the findings of its names
pub misnamed : (text : List ℕ) (items : List ItemTree) (mistakes : List Mistake) (found : List Finding) → IsProgram text items
    → AreMistakes (record { text = text; items = items }) mistakes → map finding_model found ≡ map (finding_in text) mistakes
    → AreFindings text (map finding_model found)
misnamed text items mistakes found parsed all told = OfNames (record {
  items = items;
  parsed = parsed;
  some = λ none. all.some (none_mapped mistakes (sym told ∙ none));
  are = subst (AreExactly (Contains (program_findings (record { text = text; items = items }))))
      (sym (told ∙ ap (map (finding_in text)) all.all)) (record { right = λ f h. h; all = λ f h. h });
})
  where
    none_mapped : (mistakes : List Mistake) → map (finding_in text) mistakes ≡ [] → mistakes ≡ []
    none_mapped [] none = refl
    none_mapped (m ∷ ms) none = absurd (cc)

-- the findings of its contracts
pub unsound : (text : List ℕ) (contracts : List ContractModel) (found : List FindingModel) → IsResolved text contracts → AreBroken contracts found → AreFindings text found
unsound text contracts found resolved broken = OfContracts (record { contracts = contracts; resolved = resolved; some = broken.some; are = broken.are })
