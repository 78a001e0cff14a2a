use Rattle.program.specs.Parts.{ContractModel}
use Rattle.program.specs.Programs.{contracts_model}
use Rattle.contracts.specs.Sounds.{sound_parts}
use Rattle.rules.proofs.ProgramLemmas.{same_at}
use Rattle.rules.proofs.lowered.Program.sound.Goals as goal

pub returns : goal.returns
returns c = same_at sound_parts (λ (x : ContractModel). x.parts) c.args.self.now.sounds.items (contracts_model c.args.self.now.methods) c.args.contract.0 c.index.result.now c.args.self.now.sound c.requires.there c.index.ensures
