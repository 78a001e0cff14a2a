-- Findings: what they are, those of a text's faults, and how their codes are printed.
use Rattle.std.specs.Prelude.{◌≡◌, ℕ, List, [], ◌∷◌, codes}
use Rattle.std.specs.Ordering.{nat_cmp, ordering_then}
use Rattle.std.specs.declared.cmp.Ordering.{Ordering}
use Rattle.std.specs.Cmp.Lexicographic.{slice_cmp}
use Rattle.std.specs.String.{string_bytes}
use Rattle.source.specs.declared.place.Place.{Place}
use Rattle.source.specs.Places.{first_place}
use Rattle.source.specs.declared.fault.TextFault.{TextFault}
use Rattle.source.specs.declared.fault.TextFault.TheVariants.{Stray, OpenComment, TooLong, TooDeep, TooLarge, Memory}
use Rattle.source.specs.declared.finding.Code.{Code}
use Rattle.source.specs.declared.finding.Code.TheVariants.{A01, A02, A03, A04, A05, A06, A07, A08, A09, A10, A11}
use Rattle.source.specs.declared.finding.Code.TheVariants.{A12, A13, A14, A15, C01, C02, C03, C04, N01, N02, N03, N04}
use Rattle.source.specs.declared.finding.Code.TheVariants.{N05, N06, N07, N08, N09, S01, S02, S03, S04, S05, S06}
use Rattle.source.specs.declared.finding.Finding.{Finding}

-- a finding as a value: its place, its code and its text
pub record FindingModel : Type 0 where
  pub place : Place
  pub code : Code
  pub text : List ℕ

abbrev pub finding_model : Finding → FindingModel
finding_model f = record { place = f.place; code = f.code; text = string_bytes f.text }

-- the finding has this place, this code and this text
pub record IsFinding (at : Place) (kind : Code) (says : List ℕ) (f : Finding) : Type 0 where
  pub place : f.place ≡ at
  pub code : f.code ≡ kind
  pub text : string_bytes f.text ≡ says

-- the finding for a fault of a text; running out of memory has none
abbrev pub fault_findings : TextFault → List FindingModel
fault_findings (Stray place) = record { place = place; code = S01; text = codes "stray byte" } ∷ []
fault_findings (OpenComment place) = record { place = place; code = S02; text = codes "comment not closed" } ∷ []
fault_findings TooLong = record { place = first_place; code = S03; text = codes "text too long" } ∷ []
fault_findings (TooDeep place) = record { place = place; code = S04; text = codes "brackets too deep" } ∷ []
fault_findings (TooLarge place) = record { place = place; code = S06; text = codes "number too large" } ∷ []
fault_findings Memory = []

-- a code as it is printed
abbrev pub code_name : Code → List ℕ
code_name A01 = codes "A01"
code_name A02 = codes "A02"
code_name A03 = codes "A03"
code_name A04 = codes "A04"
code_name A05 = codes "A05"
code_name A06 = codes "A06"
code_name A07 = codes "A07"
code_name A08 = codes "A08"
code_name A09 = codes "A09"
code_name A10 = codes "A10"
code_name A11 = codes "A11"
code_name A12 = codes "A12"
code_name A13 = codes "A13"
code_name A14 = codes "A14"
code_name A15 = codes "A15"
code_name C01 = codes "C01"
code_name C02 = codes "C02"
code_name C03 = codes "C03"
code_name C04 = codes "C04"
code_name N01 = codes "N01"
code_name N02 = codes "N02"
code_name N03 = codes "N03"
code_name N04 = codes "N04"
code_name N05 = codes "N05"
code_name N06 = codes "N06"
code_name N07 = codes "N07"
code_name N08 = codes "N08"
code_name N09 = codes "N09"
code_name S01 = codes "S01"
code_name S02 = codes "S02"
code_name S03 = codes "S03"
code_name S04 = codes "S04"
code_name S05 = codes "S05"
code_name S06 = codes "S06"

-- the order of findings: by line, by column, by code, by the bytes of the text
abbrev pub finding_cmp : Finding → Finding → Ordering
finding_cmp a b =
    ordering_then (nat_cmp a.place.line b.place.line)
    (ordering_then (nat_cmp a.place.col b.place.col)
    (ordering_then (slice_cmp nat_cmp (code_name a.code) (code_name b.code))
    (slice_cmp nat_cmp (string_bytes a.text) (string_bytes b.text))))
