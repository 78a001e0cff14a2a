-- Instructions laid after others.
use Rattle.std.specs.Prelude.{◌≡◌, ℕ, List, ◌++◌, map, reverse}
use Rattle.flow.specs.Cases.{EntranceModel}
use Rattle.flow.specs.Graphs.{instruction_model}
use Rattle.flow.specs.Lowering.{Laid, LaidCases}
use Rattle.flow.specs.declared.graph.Instr.{Instr}

-- the instructions grew by the laid ones, which begin at this point
pub record Grew (old new : List Instr) (entry : ℕ) (laid : Laid) : Type 0 where
  pub instructions : map instruction_model new ≡ map instruction_model old ++ laid.instructions
  pub begins : entry ≡ laid.entry

-- the last items of a list are laid, and the rest are not
pub record LaysEnd {A : Type 0} (all rest done : List A) (old new : List Instr) (entry : ℕ) (lays : List A → Laid) : Type 0 where
  pub split : all ≡ rest ++ done
  pub grew : Grew old new entry (lays done)

-- the instructions grew by the laid cases; `pushed` has the entrances of these, the last one first
pub record GrewCases (old new : List Instr) (pushed : List EntranceModel) (laid : LaidCases) : Type 0 where
  pub instructions : map instruction_model new ≡ map instruction_model old ++ laid.instructions
  pub entrances : pushed ≡ reverse laid.entrances

-- the last cases of a list are laid, and the rest are not
pub record CasesBehind {A : Type 0} (all rest done : List A) (old new : List Instr) (pushed : List EntranceModel)
    (lays : List A → LaidCases) : Type 0 where
  pub split : all ≡ rest ++ done
  pub grew : GrewCases old new pushed (lays done)
