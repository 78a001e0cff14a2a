-- For proofs within the crate: where a step is taken, and the results of checks and rules there, in terms of the rule table.
use Rattle.std.specs.Prelude.{◌≡◌, List, Result}
use Rattle.program.specs.Methods.{MethodModel, method_model}
use Rattle.program.specs.Programs.{ProgramModel}
use Rattle.flow.specs.Graphs.{Instruction}
use Rattle.rules.specs.Onwards.{onward_model, onward_of}
use Rattle.rules.specs.Programs.{model_of}
use Rattle.rules.specs.RuleTable.{instruction_outcome}
use Rattle.rules.specs.declared.breach.Breach.{Breach}
use Rattle.rules.specs.declared.here.Here.{Here}
use Rattle.rules.specs.declared.here.Site.{Site}
use Rattle.rules.specs.declared.onward.Onward.{Onward}
use Rattle.rows.specs.Rows.{row_model}
use Rattle.rows.specs.declared.row.Leaf.{Leaf}
use Rattle.rows.specs.declared.row.Row.{Row}

-- the program, the method and the row of a step
abbrev pub program_of : Here → ProgramModel
program_of here = model_of here.site.program.now

abbrev pub method_of : Here → MethodModel
method_of here = method_model here.site.method.now

abbrev pub row_of : Here → List Leaf
row_of here = row_model here.row.now

-- where a rule continues, and the row that it leaves, are those that the rule table has for the instruction and the row before
abbrev pub Follows : Site → Instruction → (old new : Row) → Result Onward Breach → Type 0
Follows site instruction old new answer =
    onward_model (onward_of answer) (row_model new)
    ≡ instruction_outcome (model_of site.program.now) (method_model site.method.now) instruction (row_model old)

-- the same for a rule that leaves the row as it was
abbrev pub FollowsHere : Here → Instruction → Result Onward Breach → Type 0
FollowsHere here instruction answer = Follows here.site instruction here.row.now here.row.now answer
