use Rattle.std.proofs.Common.{sym, ◌∙◌}
use Rattle.tables.proofs.ScopedLemmas.{meaning_is}
use Rattle.tables.proofs.scoped_names.ScopedNames.find.Goals as goal

pub returns : goal.returns
returns g c = c.copied.ensures ∙ c.get.ensures.value ∙ sym (meaning_is c.args.self.now.names.entries c.args.name.now)
