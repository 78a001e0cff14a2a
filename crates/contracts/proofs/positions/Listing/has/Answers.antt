use Rattle.contracts.proofs.PositionLemmas.{before_row, has_row}
use Rattle.contracts.proofs.positions.Listing.has.Goals as goal

pub returns-then-number-self : goal.returns-then-number-self
returns-then-number-self c = has_row c.args.self.first c.args.self.count c.args.number c.if-number-self.true

pub returns-else-number-self : goal.returns-else-number-self
returns-else-number-self c = before_row c.args.self.first c.args.self.count c.args.number c.if-number-self.false
