-- Findings of a text or its names with their remarks.
use Rattle.std.specs.Prelude.{◌≡◌, ◌/◌, ◌||◌, ℕ, Bool, false, List, [], ◌∷◌, Option, None, Some, if◌then◌else◌}
use Rattle.std.specs.Prelude.{is_some, length, max, nat_lt, slice_get}
use Rattle.std.specs.Option.{option_map_or}
use Rattle.source.specs.Faults.{IsFault}
use Rattle.source.specs.Findings.{fault_findings}
use Rattle.source.specs.declared.fault.TextFault.{TextFault}
use Rattle.source.specs.declared.place.Place.{Place}
use Rattle.tree.specs.Trees.{ItemTree}
use Rattle.declarations.specs.Mistakes.{finding_in}
use Rattle.declarations.specs.Program.{ProgramText}
use Rattle.declarations.specs.declared.mistake.Mistake.{Mistake}
use Rattle.declarations.specs.declared.mistake.Mistake.TheVariants as mistake
use Rattle.names.specs.Findings.{program_mistakes}
use Rattle.remarks.specs.FaultRemarks.{fault_remark}
use Rattle.remarks.specs.Remarks.{remark_of}
use Rattle.explanations.specs.Explained.{ExplainedModel, is_asked}
use Rattle.explanations.specs.Lines.{LineModel}
use Rattle.singcheck.specs.Answers.{IsProgram}
use Rattle.singcheck.specs.declared.limits.TheConstants.{MOST_LOOKED_THROUGH}

-- the line of a remark, if there is one
abbrev pub said_lines : Option LineModel → List LineModel
said_lines r = option_map_or (λ said. said ∷ []) r []

abbrev pub remark_lines : Option Place → Place → Option LineModel → List LineModel
remark_lines named place r = if is_asked named place then said_lines r else []

-- the remark of a mistake; a name that nothing declares has one only if its nearest name is searched
abbrev pub remark_within : Bool → ProgramText → Mistake → Option LineModel
remark_within false p (mistake.Unknown name sort) = None
remark_within within p m = remark_of p m

-- for how many mistakes in the names of a text the nearest name is searched, so that all searches together look at as many bytes
abbrev pub most_searched : List ℕ → ℕ
most_searched text = MOST_LOOKED_THROUGH / max 1 (length text)

-- a mistake in the names of the text, by its number: its finding, with its remark; the nearest name is searched for the first
-- mistakes, or for all if a place is named
pub record IsMistake (named : Option Place) (p : ProgramText) (e : ExplainedModel) : Type 0 where
  pub number : ℕ
  pub mistake : Mistake
  pub there : slice_get (program_mistakes p) number ≡ Some mistake
  pub finding : e.finding ≡ finding_in p.text mistake
  pub lines : e.lines ≡ remark_lines named e.finding.place
      (remark_within (nat_lt number (most_searched p.text) || is_some named) p mistake)

pub record HasMistake (named : Option Place) (text : List ℕ) (e : ExplainedModel) : Type 0 where
  pub items : List ItemTree
  pub parsed : IsProgram text items
  pub is : IsMistake named (record { text = text; items = items }) e

-- the first fault of the text: its finding, with its remark
pub record HasFault (named : Option Place) (text : List ℕ) (e : ExplainedModel) : Type 0 where
  pub fault : TextFault
  pub first : IsFault text fault
  pub finding : e.finding ∷ [] ≡ fault_findings fault
  pub lines : e.lines ≡ remark_lines named e.finding.place (fault_remark fault)
