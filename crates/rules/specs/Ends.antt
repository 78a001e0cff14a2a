-- An end of a channel in the code: a contract and a side, from which the rule table looks up what an endpoint can do.
use Rattle.std.specs.Prelude.{◌≡◌, ℕ, [], Option}
use Rattle.program.specs.Parts.{Parts}
use Rattle.program.specs.Programs.{ProgramModel}
use Rattle.program.specs.declared.types.HeapType.{HeapType}
use Rattle.program.specs.declared.types.Side.{Side}
use Rattle.contracts.specs.Bounds.{sign_to}
use Rattle.contracts.specs.Leaving.{edges_from, name_among, sign_from}
use Rattle.rules.specs.Endpoints.{edges_in, edges_out, message_name}

-- an endpoint of this type is this side of this contract
pub record IsEndOf (p : ProgramModel) (ty : Option HeapType) (parts : Parts) (side : Side) : Type 0 where
  pub sends : (q : ℕ) → edges_out p ty q ≡ edges_from parts.edges (sign_from side) q
  pub receives : (q : ℕ) → edges_in p ty q ≡ edges_from parts.edges (sign_to side) q
  pub says : (message : ℕ) → message_name p ty message ≡ name_among parts.messages message

-- no value of this type is an endpoint
pub record IsNoEnd (p : ProgramModel) (ty : Option HeapType) : Type 0 where
  pub sends : (q : ℕ) → edges_out p ty q ≡ []
  pub receives : (q : ℕ) → edges_in p ty q ≡ []
  pub says : (message : ℕ) → message_name p ty message ≡ []
