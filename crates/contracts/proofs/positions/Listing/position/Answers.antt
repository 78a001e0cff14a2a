use Rattle.std.proofs.Common.{◌-◌, ◌∙◌, arith}
use Rattle.std.proofs.lemmas.List.FromFn.{length-range_with_len, get_or-range_with_len}
use Rattle.contracts.proofs.PositionLemmas.{from_row}
use Rattle.contracts.proofs.positions.Listing.position.Goals as goal

pub overflow_sub-result : goal.overflow_sub-result
overflow_sub-result c = let group = from_row c.args.self.first c.args.self.count c.args.number c.requires in omega (arith, group.0)

pub returns-clause-within : goal.returns-clause-within
returns-clause-within c =
    let group = from_row c.args.self.first c.args.self.count c.args.number c.requires in
    let size = length-range_with_len c.args.self.first c.args.self.count in
    omega (arith, group.0, group.1, size)

pub returns-clause-at : goal.returns-clause-at
returns-clause-at c =
    let group = from_row c.args.self.first c.args.self.count c.args.number c.requires in
    get_or-range_with_len c.args.self.first c.args.self.count (c.args.number - c.args.self.first) 0 (omega (arith, group.0, group.1)) ∙ omega (arith, group.0)
