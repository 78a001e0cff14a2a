use Rattle.std.proofs.Common.{sym}
use Rattle.std.proofs.lemmas.List.FromFn.{length-range_with_len}
use Rattle.contracts.proofs.positions.Listing.len.Goals as goal

pub returns : goal.returns
returns c = sym (length-range_with_len c.args.self.first c.args.self.count)
