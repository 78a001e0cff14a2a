-- Small steps of the rule table with owning fields, computed by the definitions.
use Rattle.std.proofs.Common.{◌≡◌, ℕ, false, true, List, [], ◌∷◌, None, refl}
use Rattle.std.specs.Prelude.{codes}
use Rattle.source.specs.declared.place.Place.{Place}
use Rattle.program.specs.Methods.{MethodModel, VariableModel}
use Rattle.program.specs.Programs.{ProgramModel}
use Rattle.program.specs.Statements.{NoStatement}
use Rattle.program.specs.declared.types.HeapType.{HeapType}
use Rattle.program.specs.declared.types.HeapType.TheVariants.{Struct, Endpoint}
use Rattle.program.specs.declared.types.Side.TheVariants.{Imp}
use Rattle.program.specs.declared.method.Role.{Role}
use Rattle.program.specs.declared.method.Role.TheVariants.{Claimed, Lent, Local}
use Rattle.program.specs.declared.statement.Mention.{Mention}
use Rattle.program.specs.declared.statement.Action.TheVariants.{Exchange}
use Rattle.flow.specs.Graphs.{Instruction, Act, New}
use Rattle.rules.specs.Outcomes.{Fails, Goes, breach_at}
use Rattle.rules.specs.RuleTable.{instruction_outcome}
use Rattle.rules.specs.declared.breach.Reason.TheVariants as reasons
use Rattle.rows.specs.declared.row.Leaf.TheVariants.{Nothing, Block, State, CutOff}

abbrev at : ℕ → Place
at col = record { line = 1; col = col }

abbrev mention : ℕ → ℕ → Mention
mention v col = record { variable = record { 0 = v }; place = at col }

abbrev variable : List ℕ → HeapType → Role → VariableModel
variable name k role = record { name = name; ty = k; role = role; outer = None }

-- an importing endpoint in a state
abbrev end : ℕ → HeapType
end state = Endpoint record { 0 = 0 } Imp record { 0 = state }

-- struct 0 has no owning fields, struct 1 has one for a struct 0, struct 2 has one for an endpoint in state 0
abbrev of_struct : ℕ → HeapType
of_struct n = Struct record { 0 = n }

-- a claimed block x, a lent block y, a block h with a field for a block, an endpoint i, and a block e with a field for an endpoint
abbrev method : MethodModel
method = record {
  name = at 1;
  takes = true;
  gives = false;
  result = None;
  variables = variable (codes "x") (of_struct 0) Claimed ∷ variable (codes "y") (of_struct 0) Lent ∷ variable (codes "h") (of_struct 1) Local
      ∷ variable (codes "i") (end 1) Claimed ∷ variable (codes "e") (of_struct 2) Local ∷ [];
  statements = NoStatement;
  scope = None;
  close = at 1;
}

abbrev program : ProgramModel
program = record { contracts = []; messages = []; structs = [] ∷ (of_struct 0 ∷ []) ∷ (end 0 ∷ []) ∷ []; methods = method ∷ [] }

abbrev exchange : ℕ → ℕ → Instruction
exchange holder given = Act (Exchange record { place = at 1; holder = mention holder 2; field = 0; given = mention given 3 }) 9

-- the block given for a field is gone, and the target has the new block
pub given_for_a_field : instruction_outcome program method (New (mention 2 1) (mention 0 2 ∷ []) 9)
    (Block ∷ Block ∷ Nothing ∷ State 1 ∷ Nothing ∷ []) ≡ Goes ((9, Nothing ∷ Block ∷ Block ∷ State 1 ∷ Nothing ∷ []) ∷ [])
given_for_a_field = refl

-- a lent block is refused
pub lent_for_a_field : instruction_outcome program method (New (mention 2 1) (mention 1 2 ∷ []) 9)
    (Block ∷ Block ∷ Nothing ∷ State 1 ∷ Nothing ∷ []) ≡ Fails (breach_at (at 2) (reasons.Lent record { 0 = 1 }))
lent_for_a_field = refl

-- an endpoint in another state than the field asks for is refused before the target is looked at
pub wrong_for_a_field : instruction_outcome program method (New (mention 4 1) (mention 3 2 ∷ []) 9)
    (Block ∷ Block ∷ Nothing ∷ State 1 ∷ Block ∷ []) ≡ Fails (breach_at (at 2) (reasons.WrongForField record { 0 = 3 }))
wrong_for_a_field = refl

-- an endpoint that is cut off is never in another state, so here the target is refused
pub cut_off_for_a_field : instruction_outcome program method (New (mention 4 1) (mention 3 2 ∷ []) 9)
    (Block ∷ Block ∷ Nothing ∷ CutOff ∷ Block ∷ []) ≡ Fails (breach_at (at 1) (reasons.Overwritten record { 0 = 4 }))
cut_off_for_a_field = refl

-- a variable that has nothing is refused
pub nothing_for_a_field : instruction_outcome program method (exchange 2 0)
    (Nothing ∷ Block ∷ Block ∷ State 1 ∷ Nothing ∷ []) ≡ Fails (breach_at (at 3) (reasons.NotOwned record { 0 = 0 }))
nothing_for_a_field = refl

-- the holder itself is refused, before all else
pub holder_for_its_field : instruction_outcome program method (exchange 2 2)
    (Block ∷ Block ∷ Nothing ∷ State 1 ∷ Nothing ∷ []) ≡ Fails (breach_at (at 3) (reasons.Twice record { 0 = 2 }))
holder_for_its_field = refl

-- an endpoint in another state than the field asks for is refused
pub wrong_in_an_exchange : instruction_outcome program method (exchange 4 3)
    (Block ∷ Block ∷ Nothing ∷ State 1 ∷ Block ∷ []) ≡ Fails (breach_at (at 3) (reasons.WrongForField record { 0 = 3 }))
wrong_in_an_exchange = refl

-- what comes out of the field has the field's state, not that of the variable before
pub out_of_a_field : instruction_outcome program method (exchange 4 3)
    (Block ∷ Block ∷ Nothing ∷ CutOff ∷ Block ∷ []) ≡ Goes ((9, Block ∷ Block ∷ Nothing ∷ State 0 ∷ Block ∷ []) ∷ [])
out_of_a_field = refl
