use Rattle.std.proofs.Common.{◌<◌, List, sym, subst}
use Rattle.std.specs.Prelude.{All}
use Rattle.program.specs.declared.contract.Edge.{Edge}
use Rattle.program.specs.declared.limits.TheConstants.{MOST_STATES}
use Rattle.contracts.specs.Parts.{contract_parts}
use Rattle.contracts.proofs.LeavingLemmas.{ends_numbered}
use Rattle.contracts.proofs.sound.Sound.edges_in.Goals as goal

abbrev Numbered : List Edge → Type 0
Numbered edges = All (λ e. e.to.0 < MOST_STATES) edges

pub returns-clause-numbered : goal.returns-clause-numbered
returns-clause-numbered c = subst Numbered (sym c.edges_of.ensures) (ends_numbered (contract_parts c.args.self.now.contract.value) c.args.self.now.whole c.sign_to.result c.args.state.0)
