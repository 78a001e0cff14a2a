-- Why a method has a finding.
use Rattle.std.specs.Prelude.{◌≡◌, ◌++◌, ◌∷◌, [], ℕ, true, false, List, Option, IsSomeAnd, slice_get, codes}
use Rattle.std.specs.Fmt.{decimal}
use Rattle.source.specs.declared.place.Place.{Place}
use Rattle.program.specs.Methods.{MethodModel}
use Rattle.program.specs.Programs.{ProgramModel}
use Rattle.flow.specs.Lowering.{graph_of}
use Rattle.rules.specs.Outcomes.{Fails, Pair}
use Rattle.rules.specs.Steps.{entry_of, outcome, step_at}
use Rattle.rules.specs.declared.breach.Breach.{Breach}
use Rattle.analyse.specs.Traces.{IsTrace}
use Rattle.analyse.specs.Verdicts.{HasTooMany, place_of_method, too_many_pairs}
use Rattle.analyse.specs.declared.analysing.TheConstants.{MOST_PAIRS}
use Rattle.explanations.specs.Explained.{ExplainedModel, is_asked}
use Rattle.explanations.specs.Lines.{LineModel, line}
use Rattle.traces.specs.Lines.{path_lines, start_lines}
use Rattle.traces.specs.Watched.{variables_of_reason}

-- the lines of a path from the first pair to a step of the method that fails with the breach
abbrev pub trace_lines : ProgramModel → MethodModel → Breach → (first : Pair) → (steps : List Pair) → (at : Pair) → List LineModel
trace_lines p m breach first steps at =
    let about = variables_of_reason breach.reason (slice_get (graph_of m).instructions at.0) in
    start_lines p m about first.1 ++ path_lines p m about (first ∷ steps)

-- A shortest path leads to a step that fails with the finding, and the lines are those of the path. They are about the breach of that step.
pub record HasTrace (p : ProgramModel) (method : ℕ) (e : ExplainedModel) : Type 0 where
  pub steps : List Pair
  pub trace : IsTrace (outcome p method) (entry_of p method) e.finding steps
  pub breach : Breach
  pub fails : step_at p method trace.at ≡ Fails breach
  pub told : IsSomeAnd (slice_get p.methods method) (λ m. e.lines ≡ trace_lines p m breach (entry_of p method) steps trace.at)

-- Too many reached pairs have no path: the line at the method's name has the number that may be reached.
abbrev pub many_lines : ProgramModel → ℕ → List LineModel
many_lines p method = line (place_of_method p method) (codes "more than " ++ (decimal MOST_PAIRS ++ codes " pairs are reached")) ∷ []

pub record HasNoTrace (p : ProgramModel) (method : ℕ) (e : ExplainedModel) : Type 0 where
  pub many : HasTooMany p method
  pub is : e.finding ≡ too_many_pairs (place_of_method p method)
  pub told : e.lines ≡ many_lines p method

pub data IsExplained (p : ProgramModel) (method : ℕ) (e : ExplainedModel) : Type 0 where
  ByTrace : HasTrace p method e → IsExplained p method e
  ByCount : HasNoTrace p method e → IsExplained p method e

-- a finding is explained if that is asked for, and has no lines otherwise
pub record IsExplainedIf (named : Option Place) (p : ProgramModel) (method : ℕ) (e : ExplainedModel) : Type 0 where
  pub asked : is_asked named e.finding.place ≡ true → IsExplained p method e
  pub other : is_asked named e.finding.place ≡ false → e.lines ≡ []
