use Rattle.std.proofs.Common.{sym, ap, map, ◌∙◌}
use Rattle.std.proofs.lemmas.List.{take-map}
use Rattle.tables.proofs.ScopedLemmas.{written}
use Rattle.tables.proofs.scoped_names.ScopedNames.leave.Goals as goal

pub returns : goal.returns
returns g c = ap (map written) c.truncate.ensures.entries ∙ sym (take-map written c.args.outer c.args.self.now.names.entries)
