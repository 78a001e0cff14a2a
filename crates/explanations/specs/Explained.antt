-- A finding with the lines that explain it.
use Rattle.std.specs.Prelude.{Bool, true, List, Option, Some, None, map}
use Rattle.source.specs.Findings.{FindingModel, finding_model}
use Rattle.source.specs.contracts.place.PlacePartialEq.TheImpl.{eq-value as same_place}
use Rattle.source.specs.declared.place.Place.{Place}
use Rattle.explanations.specs.Lines.{LineModel, line_model}
use Rattle.explanations.specs.declared.line.Explained.{Explained}
use Rattle.explanations.specs.declared.line.Line.{Line}

-- a finding and its lines
pub record ExplainedModel : Type 0 where
  pub finding : FindingModel
  pub lines : List LineModel

abbrev pub explained_as : FindingModel → List Line → ExplainedModel
explained_as finding lines = record { finding = finding; lines = map line_model lines }

abbrev pub explained_model : Explained → ExplainedModel
explained_model e = explained_as (finding_model e.finding) e.lines.items

-- whether lines are asked for at a place: everywhere, unless one place is named
abbrev pub is_asked : Option Place → Place → Bool
is_asked None place = true
is_asked (Some named) place = same_place.it named place
