-- A line that explains a finding.
use Rattle.std.specs.Prelude.{ℕ, ◌-◌, List, [], slice_get}
use Rattle.std.specs.Option.{option_map_or}
use Rattle.source.specs.declared.place.Place.{Place}
use Rattle.program.specs.Parts.{Parts}
use Rattle.explanations.specs.declared.line.Line.{Line}

-- a line: a place and a text
pub record LineModel : Type 0 where
  pub place : Place
  pub text : List ℕ

abbrev pub line_model : Line → LineModel
line_model l = record { place = l.place; text = l.text.items }

abbrev pub line : Place → List ℕ → LineModel
line place text = record { place = place; text = text }

-- how a state of a contract is printed; states have consecutive numbers, from the first one on
abbrev pub name_of_state : Parts → ℕ → List ℕ
name_of_state parts q = option_map_or (λ s. s.name) (slice_get parts.states (q - parts.first.0)) []
