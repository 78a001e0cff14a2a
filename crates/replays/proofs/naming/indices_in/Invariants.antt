use Rattle.std.proofs.Common.{◌≡◌, length, map, take}
use Rattle.program.specs.Parts.{contract_model}
use Rattle.replays.specs.Placed.{ArePlaced}
use Rattle.replays.proofs.naming.indices_in.Given as goal

-- the tables of the contracts so far
abbrev pub invariant-loop-contract : goal.invariant-loop-contract
invariant-loop-contract l = record {
  many : length l.indices.items ≡ l.contract-index;
  placed : ArePlaced (map contract_model (take l.contract-index l.contracts)) l.indices.items;
}
