-- The outcome of a step in place: what it returns, and the row that it leaves in place.
use Rattle.std.specs.Prelude.{◌≡◌, List, [], ◌∷◌, Option, None, Some, map, Result, Ok, Err}
use Rattle.flow.specs.Graphs.{Instruction, Branch}
use Rattle.flow.specs.declared.graph.Branches.{Branches}
use Rattle.rules.specs.Outcomes.{Step, Goes, Fails, Pair}
use Rattle.rules.specs.Steps.{pair_model}
use Rattle.rules.specs.declared.breach.Breach.{Breach}
use Rattle.rules.specs.declared.onward.Onward.{Onward}
use Rattle.rules.specs.declared.onward.Onward.TheVariants.{Ends, Same, Both, Changed, Ways, Found}
use Rattle.rows.specs.declared.row.Leaf.{Leaf}

-- the step that this outcome means if that row is in place
abbrev pub onward_model : Onward → List Leaf → Step Pair Breach
onward_model Ends row = Goes []
onward_model (Same point) row = Goes ((point, row) ∷ [])
onward_model (Both first second) row = Goes ((first, row) ∷ (second, row) ∷ [])
onward_model (Changed point) row = Goes ((point, row) ∷ [])
onward_model (Ways pairs) row = Goes (map pair_model pairs.items)
onward_model (Found breach) row = Fails breach

-- the row is unchanged, except for `Changed` and `Found`
abbrev pub KeepsRow : Onward → (before after : List Leaf) → Type 0
KeepsRow (Changed point) before after = Unit {0}
KeepsRow (Found breach) before after = Unit {0}
KeepsRow _ before after = after ≡ before

-- the outcome of a rule: where the method continues, or a breach
abbrev pub onward_of : Result Onward Breach → Onward
onward_of (Ok onward) = onward
onward_of (Err breach) = Found breach

-- where a condition continues, if the instruction is one
abbrev pub condition_at : Option Instruction → Option Branches
condition_at (Some (Branch place branches)) = Some branches
condition_at _ = None
