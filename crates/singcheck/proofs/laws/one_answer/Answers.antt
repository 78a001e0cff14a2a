use Rattle.std.proofs.Common.{◌≡◌, ℕ, List, refl}
use Rattle.devices.specs.declared.fault.Status.{Status}
use Rattle.devices.specs.declared.fault.Status.TheVariants.{Empty, Found}
use Rattle.singcheck.specs.Answers.{Answers}
use Rattle.singcheck.proofs.one_answer.OnlyLemmas.{Laws, found_or_bounds, one_bounds, one_findings}
use Rattle.singcheck.proofs.one_answer.SameLemmas.{one_report}
use Rattle.singcheck.proofs.laws.one_answer.Goals as goal

one_text : Laws → (text a b : List ℕ) (s t : Status) → Answers text a s → Answers text b t → a ≡ b
one_text laws text a b Empty Empty one other = one_bounds laws text a b one other
one_text laws text a b Empty Found one other = absurd (found_or_bounds laws text a other.found other.are one)
one_text laws text a b Found Empty one other = absurd (found_or_bounds laws text b one.found one.are other)
one_text laws text a b Found Found one other = one_report one.found other.found a b (one_findings laws text one.found other.found one.are other.are) one.told other.told

one_status : Laws → (text a b : List ℕ) (s t : Status) → Answers text a s → Answers text b t → s ≡ t
one_status laws text a b Empty Empty one other = refl
one_status laws text a b Empty Found one other = absurd (found_or_bounds laws text a other.found other.are one)
one_status laws text a b Found Empty one other = absurd (found_or_bounds laws text b one.found one.are other)
one_status laws text a b Found Found one other = refl

pub returns-clause-bytes : goal.returns-clause-bytes
returns-clause-bytes c = one_text (record { tokens = c.one_cutting.ensures.tokens; fault = c.one_fault.ensures.one; none = c.one_fault.ensures.none; trees = c.one_tree_a_spelling.ensures })

pub returns-clause-status : goal.returns-clause-status
returns-clause-status c = one_status (record { tokens = c.one_cutting.ensures.tokens; fault = c.one_fault.ensures.one; none = c.one_fault.ensures.none; trees = c.one_tree_a_spelling.ensures })
