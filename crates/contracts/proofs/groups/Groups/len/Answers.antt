use Rattle.std.proofs.Common.{◌∙◌, sym}
use Rattle.contracts.proofs.SpanLemmas.{cut_long}
use Rattle.contracts.proofs.groups.Groups.len.Goals as goal

pub returns : goal.returns
returns g c = c.len.ensures ∙ c.args.self.now.ends.ok.0 ∙ sym (cut_long 0 c.args.self.now.items.items c.args.self.now.ends.items)
