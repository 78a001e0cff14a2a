-- A text has one result of `check`.
use Rattle.std.proofs.Common.{◌≡◌, ℕ, List, length, refl, sym, ap, ◌∙◌, subst}
use Rattle.source.specs.Findings.{FindingModel}
use Rattle.tree.specs.Trees.{ItemTree}
use Rattle.contracts.specs.Conditions.{AreExactly}
use Rattle.program.specs.Programs.{ProgramModel}
use Rattle.wellformed.specs.Told.{program_told}
use Rattle.devices.specs.declared.fault.Status.{Status}
use Rattle.devices.specs.declared.fault.Status.TheVariants.{Empty, Found}
use Rattle.singcheck.specs.Answers.{AreFindings, IsProgram}
use Rattle.singcheck.specs.Checks.{AreCheckFindings, Before, OfMethods, Checks, HasProgram, IsClear, IsWrong}
use Rattle.singcheck.specs.Lines.{clear_line}
use Rattle.singcheck.proofs.one_answer.OnlyLemmas.{Laws, found_or_sound, one_findings, one_program, some_in}
use Rattle.singcheck.proofs.one_answer.SameLemmas.{AreAlike, alike_exactly, one_report}

pub one_items : Laws → (text : List ℕ) (p q : ProgramModel) (one : HasProgram text p) (other : HasProgram text q) → one.resolved.items ≡ other.resolved.items
one_items laws text p q one other = one_program laws text one.resolved.items other.resolved.items one.resolved.parsed other.resolved.parsed

-- the items of a text yield this program
pub told_of : Laws → (text : List ℕ) (items : List ItemTree) (p : ProgramModel) → HasProgram text p → IsProgram text items
    → p ≡ program_told (record { text = text; items = items })
told_of laws text items p has parsed =
    has.is ∙ ap (λ l. program_told (record { text = text; items = l })) (one_program laws text has.resolved.items items has.resolved.parsed parsed)

pub one_seen : Laws → (text : List ℕ) (p q : ProgramModel) → HasProgram text p → HasProgram text q → p ≡ q
one_seen laws text p q one other = told_of laws text other.resolved.items p one other.resolved.parsed ∙ sym other.is

-- a program without findings before its methods has no finding of an earlier stage
pub before_or_methods : Laws → (text : List ℕ) (found : List FindingModel) (p : ProgramModel) → AreFindings text found → HasProgram text p → ⊥
before_or_methods laws text found p are has = found_or_sound laws text found p.contracts are has.resolved has.sound

one_found : Laws → (text : List ℕ) (a b : List FindingModel) → AreCheckFindings text a → AreCheckFindings text b → AreAlike a b
one_found laws text a b (Before x) (Before y) = one_findings laws text a b x y
one_found laws text a b (Before x) (OfMethods y) = absurd (before_or_methods laws text a y.program x y.has)
one_found laws text a b (OfMethods x) (Before y) = absurd (before_or_methods laws text b x.program y x.has)
one_found laws text a b (OfMethods x) (OfMethods y) =
    alike_exactly (IsWrong y.program) a b (subst (λ p. AreExactly (IsWrong p) a) (one_seen laws text x.program y.program x.has y.has) x.are) y.are

-- a text with findings is not clear
found_or_clear : Laws → (text bytes : List ℕ) (found : List FindingModel) → AreCheckFindings text found → IsClear text bytes → ⊥
found_or_clear laws text bytes found (Before x) clear = before_or_methods laws text found clear.program x clear.has
found_or_clear laws text bytes found (OfMethods x) clear =
    let first = some_in found x.some in
    clear.none first.0 (subst (λ p. IsWrong p first.0) (one_seen laws text x.program clear.program x.has clear.has) (x.are.right first.0 first.1))

one_clear : Laws → (text a b : List ℕ) → IsClear text a → IsClear text b → a ≡ b
one_clear laws text a b one other =
    one.are ∙ ap (λ (p : ProgramModel). clear_line (length p.contracts) (length p.methods)) (one_seen laws text one.program other.program one.has other.has) ∙ sym other.are

pub one_answer_of : Laws → (text a b : List ℕ) (s t : Status) → Checks text a s → Checks text b t → a ≡ b
one_answer_of laws text a b Empty Empty one other = one_clear laws text a b one other
one_answer_of laws text a b Empty Found one other = absurd (found_or_clear laws text a other.found other.are one)
one_answer_of laws text a b Found Empty one other = absurd (found_or_clear laws text b one.found one.are other)
one_answer_of laws text a b Found Found one other = one_report one.found other.found a b (one_found laws text one.found other.found one.are other.are) one.told other.told

pub one_status_of : Laws → (text a b : List ℕ) (s t : Status) → Checks text a s → Checks text b t → s ≡ t
one_status_of laws text a b Empty Empty one other = refl
one_status_of laws text a b Empty Found one other = absurd (found_or_clear laws text a other.found other.are one)
one_status_of laws text a b Found Empty one other = absurd (found_or_clear laws text b one.found one.are other)
one_status_of laws text a b Found Found one other = refl
