-- For proofs within the crate: contracts with their findings.
use Rattle.std.specs.Prelude.{◌≡◌, ℕ, List, Some, Contains, map, slice_get}
use Rattle.std.specs.List.{flat_map}
use Rattle.source.specs.Findings.{FindingModel, finding_model}
use Rattle.contracts.specs.Conditions.{AreExactly, IsFlaw}
use Rattle.program.specs.Parts.{ContractModel}
use Rattle.singcheck.specs.declared.soundness.BrokenContract.{BrokenContract}

-- the findings of a contract
abbrev pub findings_of : BrokenContract → List FindingModel
findings_of b = map finding_model b.findings.items

-- the findings of all these contracts
abbrev pub found_of : List BrokenContract → List FindingModel
found_of broken = flat_map findings_of broken

-- its findings are those of the contract with its number, and there are some
pub record IsBrokenIn (contracts : List ContractModel) (b : BrokenContract) : Type 0 where
  pub contract : ContractModel
  pub there : slice_get contracts b.contract.0 ≡ Some contract
  pub exactly : AreExactly (IsFlaw contract.parts) (findings_of b)
  pub first : FindingModel
  pub some : Contains (findings_of b) first
