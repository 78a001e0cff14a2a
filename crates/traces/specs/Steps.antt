-- For proofs within the crate: the method that lines are about, the pairs of a step, and the cases of a switch that were added.
use Rattle.std.specs.Prelude.{◌≡◌, List, [], ◌∷◌, ◌++◌, Option, Some, None, Result, OnOk, map}
use Rattle.flow.specs.Cases.{EntranceModel}
use Rattle.program.specs.Methods.{MethodModel, method_model}
use Rattle.program.specs.Programs.{ProgramModel}
use Rattle.rules.specs.Outcomes.{Pair}
use Rattle.rules.specs.Programs.{model_of}
use Rattle.rows.specs.Rows.{row_model}
use Rattle.source.specs.declared.place.Place.{Place}
use Rattle.explanations.specs.Lines.{LineModel, line_model}
use Rattle.traces.specs.Lines.{case_lines}
use Rattle.explanations.specs.declared.line.Line.{Line}
use Rattle.traces.specs.declared.step.PathStep.{PathStep}
use Rattle.traces.specs.declared.teller.Teller.{Teller}

-- the program and the method that lines are about
abbrev pub program_of : Teller → ProgramModel
program_of teller = model_of teller.program.now

abbrev pub method_of : Teller → MethodModel
method_of teller = method_model teller.method.now

-- these lines are added
abbrev pub AddsLines : {X E : Type 0} → (old new : List Line) → Result X E → List LineModel → Type 0
AddsLines old new answer more = OnOk answer (map line_model new ≡ map line_model old ++ more)

abbrev pub step_before : PathStep → Pair
step_before s = (s.point, row_model s.before.now)

abbrev pub step_after : PathStep → Pair
step_after s = (s.next, row_model s.after.now)

-- the place of the first of these cases, if there is one
abbrev pub first_place : List EntranceModel → Option Place
first_place [] = None
first_place (c ∷ cases) = Some c.endpoint.place

-- after the lines `before` come those of these cases, the first of which is at `place`
pub record HasCases (p : ProgramModel) (m : MethodModel) (before : List LineModel) (taken : List EntranceModel) (place : Option Place)
    (added : List Line) : Type 0 where
  pub lines : map line_model added ≡ before ++ case_lines p m taken
  pub first : place ≡ first_place taken
